-- The query of a blocked write of the stage missed it: the stage is late, and the commit gives up, blocked.
use Rattle.std.proofs.Common.{◌≡◌, ℕ, true, false, ◌&&◌, ◌==◌, ◌⊎◌, inl, inr, List, [], ◌∷◌, map, Some, None, refl, sym, ap, ◌∙◌, subst, arith, All, IsTrue}
use Rattle.std.proofs.lemmas.Bool.{and_from, eq-eqb}
use Rattle.std.proofs.lemmas.List.Elements.{All-contains, All-push, All-weaker}
use Rattle.std.proofs.lemmas.Option.{same_Some}
use Rattle.pc_base.specs.declared.transaction.TxnId.{TxnId}
use Rattle.pc_base.specs.declared.transaction.Who.TheVariants as whos
use Rattle.pc_base.specs.Transaction.{same_txn}
use Rattle.pc_call.specs.Beaten.{HasBeatenIn}
use Rattle.pc_call.proofs.Beating.{beaten_heard, beaten_so}
use Rattle.pc_call.proofs.Beginning.{any_true}
use Rattle.pc_call.proofs.Hearing.{gone, one_asked, paced2, split2}
use Rattle.pc_call.proofs.WhyStays.{blocked_on, eighth_back, eighth_up, made_then, next_on, with_none}
use Rattle.pc_call.specs.declared.purpose.Purpose.{Purpose}
use Rattle.pc_call.specs.declared.purpose.Purpose.TheVariants as purposes
use Rattle.pc_call.specs.GivenUp.{GivesUpBy}
use Rattle.pc_call.specs.Learned.{known_heard}
use Rattle.pc_call.specs.Queries.{blocker_of}
use Rattle.pc_call.specs.Serving.{HasBeatenBy, InCall, MeetsByPut, Serves, ServesQuery, out_of}
use Rattle.pc_call.specs.Setting.{Setting}
use Rattle.pc_follows.specs.Heartbeats.{is_heartbeat}
use Rattle.pc_follows.specs.NextBlock.{IsNextBlock}
use Rattle.pc_follows.specs.RoundsMade.{gone_on, rounds_by, rounds_made, with_conflict}
use Rattle.pc_lists.proofs.Anywhere.{any_last, any_weaker}
use Rattle.pc_lists.proofs.Same.{same_txn-self}
use Rattle.pc_proto.specs.declared.answer.Answer.TheVariants as answers
use Rattle.pc_proto.specs.declared.reply.Reply.{Reply}
use Rattle.pc_proto.specs.declared.reply.Reply.TheVariants as replies
use Rattle.pc_proto.specs.declared.request.Request.{Request}
use Rattle.pc_proto.specs.declared.request.Request.TheVariants as requests
use Rattle.pc_proto.specs.Replies.{is_conflict}
use Rattle.pc_staging.proofs.Hears.{own_each}
use Rattle.pc_staging.specs.Standing.{WasStageSent}
use Rattle.pc_txn.proofs.Late.{late_more}
use Rattle.pc_txn.proofs.Querying.{query_missed}
use Rattle.pc_txn.specs.Counted.{IsCounted}
use Rattle.pc_txn.specs.declared.txn.OpenTxn.{OpenTxn}
use Rattle.pc_txn.specs.Opened.{missed_at}
use Rattle.pc_txn.specs.Standing.{IsStageHere, TxnStands}
use Rattle.pc_wave.specs.declared.message.Message.{Message}
use Rattle.pc_wave.specs.Messages.{wave_awaits}
use Rattle.pc_wave.specs.Standing.{IsHeardTo}
use Rattle.pc_world.specs.Known.{Known}
use Rattle.pc_world.specs.Known.Traffic.{Heard, Sent}
use Rattle.pc_world.specs.Known.Transactions.{Txn, has_staged, is_stage_of, lists_write, txn_heard}
use Rattle.pc_world.specs.StageFate.{IsLate, RefutesRecord, RefutesWrite, is_write_refuted, stage_request}
use Rattle.pc_world.specs.Tell.Refusal.{is_moved}

module _ (session clock count : ℕ) (set : Setting) (k : Known) (x : OpenTxn) (p : Purpose) (ms : List Message) (counted : IsCounted session clock count k) (w : InCall set k x p ms)
    (number : ℕ) (reply : Reply) (h : Heard) (waited : wave_awaits number ms ≡ true) (is : IsHeardTo k number reply h) (n : ℕ) (holder : TxnId) (puts : List Message) (e : p ≡ purposes.Query n holder puts) where
  pub query : ServesQuery set.course n holder puts k w.s w.t x w.stages ms
  query = subst (λ q. Serves set k w.s w.t x w.stages q ms) e w.serves

  abbrev q : ServesQuery set.course n holder puts k w.s w.t x w.stages ms
  q = query

  pub query_stands : TxnStands k w.stages None w.t x
  query_stands = subst (λ o. TxnStands k w.stages o w.t x) (ap (λ q. out_of q ms) e) w.stands

  -- the stage that lists the write lies at the write timestamp
  here : IsStageHere k.heard x.staging.staged w.t q.one
  here = All-contains (λ s. (IsLate k.heard s → ⊥) → IsStageHere k.heard x.staging.staged w.t s) w.stages q.one w.stands.live q.kept q.live

  writes_at : x.write_ts ≡ w.t.write_ts
  writes_at = ap (λ (x : OpenTxn). x.write_ts) w.stands.same

  own : (q.one.meta.id ≡ w.t.id) × (q.one.meta.epoch ≡ w.t.epoch)
  own = own_each k.heard w.t w.stages x.staging.stages w.stands.staging.kept q.one q.kept

  pub query_asked : h.request ≡ requests.Query w.t.id w.t.epoch q.w.seq x.write_ts q.w.key (whos.Txn w.t.id)
  query_asked =
      one_asked session clock count set k x p ms counted w number reply h waited is q.m q.asks ∙ q.said
      ∙ ap (λ id. requests.Query id x.epoch q.w.seq x.write_ts q.w.key (whos.Txn id)) (ap (λ (x : OpenTxn). x.id) w.stands.same)
      ∙ ap (λ epoch. requests.Query w.t.id epoch q.w.seq x.write_ts q.w.key (whos.Txn w.t.id)) (ap (λ (x : OpenTxn). x.epoch) w.stands.same)

  -- the transaction staged the write there
  pub query_staged : has_staged k.sent w.t.id w.t.epoch x.write_ts q.w.key q.w.seq ≡ true
  query_staged =
      any_true (λ (s : Sent). is_stage_of w.t.id w.t.epoch x.write_ts q.w.key q.w.seq s.request) k.sent
      (any_weaker (λ m. m.request ≡ stage_request q.one) (λ (m : Sent). IsTrue (is_stage_of w.t.id w.t.epoch x.write_ts q.w.key q.w.seq m.request)) (λ m went. ap (is_stage_of w.t.id w.t.epoch x.write_ts q.w.key q.w.seq) went ∙ one_stages) k.sent
      (All-contains (WasStageSent k.sent w.t.id) w.stages q.one w.stands.staging.sent q.kept).went_out)
    where
      one_stages : is_stage_of w.t.id w.t.epoch x.write_ts q.w.key q.w.seq (stage_request q.one) ≡ true
      one_stages =
          and_from (same_txn q.one.meta.id w.t.id && q.one.meta.epoch == w.t.epoch) (q.one.ts == x.write_ts && lists_write q.w.key q.w.seq q.one.writes)
          (and_from (same_txn q.one.meta.id w.t.id) (q.one.meta.epoch == w.t.epoch) (ap (λ id. same_txn id w.t.id) own.0 ∙ same_txn-self w.t.id) (eq-eqb q.one.meta.epoch w.t.epoch own.1))
          (and_from (q.one.ts == x.write_ts) (lists_write q.w.key q.w.seq q.one.writes) (eq-eqb q.one.ts x.write_ts (here.at_write_ts ∙ sym writes_at)) q.listed)

  module _ (missing : reply ≡ replies.Missing) where
    abbrev k2 : Known
    k2 = known_heard h k

    abbrev t2 : Txn
    t2 = txn_heard k.sent (Some h) w.t

    told : h.reply ≡ replies.Missing
    told = is.told ∙ missing

    plain : is_conflict h.reply ≡ false
    plain = ap is_conflict told

    still : is_moved h.request h.reply ≡ false
    still = ap (λ r. is_moved r h.reply) query_asked

    pub missed_stands : TxnStands k2 w.stages None t2 (missed_at x.write_ts h.step x)
    missed_stands =
        query_missed k w.stages None w.t x query_stands q.w q.there k2 h x.write_ts (whos.Txn w.t.id) query_asked (omega (arith, writes_at)) (gone session clock count set k x p ms counted w number reply h waited is) told query_staged

    -- so each of its stages is late
    pub all_late : All (IsLate k2.heard) w.stages
    all_late =
        All-weaker (λ other. (other ≡ q.one) ⊎ IsLate k.heard other) (IsLate k2.heard)
        (λ s either. elim either [ inl same ↦ subst (IsLate k2.heard) (sym same) one_late | inr late ↦ late_more k.heard (h ∷ []) s late ])
        w.stages q.others
      where
        refutes : is_write_refuted q.one h.request h.reply ≡ true
        refutes =
            ap (λ r. is_write_refuted q.one r h.reply) query_asked
            ∙ ap (is_write_refuted q.one (requests.Query w.t.id w.t.epoch q.w.seq x.write_ts q.w.key (whos.Txn w.t.id))) told
            ∙ and_from (same_txn w.t.id q.one.meta.id && w.t.epoch == q.one.meta.epoch) (x.write_ts == q.one.ts && lists_write q.w.key q.w.seq q.one.writes)
            (and_from (same_txn w.t.id q.one.meta.id) (w.t.epoch == q.one.meta.epoch) (ap (same_txn w.t.id) own.0 ∙ same_txn-self w.t.id) (eq-eqb w.t.epoch q.one.meta.epoch (sym own.1)))
            (and_from (x.write_ts == q.one.ts) (lists_write q.w.key q.w.seq q.one.writes) (eq-eqb x.write_ts q.one.ts (writes_at ∙ sym here.at_write_ts)) q.listed)

        one_late : IsLate k2.heard q.one
        one_late = any_last (λ h. RefutesWrite q.one h ⊎ RefutesRecord q.one h) k.heard h (inl (record { refuted = refutes }))

    same_rounds : rounds_made k2 ≡ gone_on (rounds_made k)
    same_rounds =
        made_then k w.t h w.open_in
        ∙ ap (λ r. rounds_by (Some w.t) h r h.reply (with_conflict h (rounds_made k))) query_asked
        ∙ ap (λ y. rounds_by (Some w.t) h (requests.Query w.t.id w.t.epoch q.w.seq x.write_ts q.w.key (whos.Txn w.t.id)) y (with_conflict h (rounds_made k))) told
        ∙ ap gone_on (with_none k w.t h w.open_in plain (rounds_made k))

    next2 : IsNextBlock k2 holder
    next2 =
        next_on k k2 (eighth_up k w.t h w.open_in plain) (eighth_back k w.t h w.open_in plain) holder (ap (λ r. r.waiting) same_rounds) (ap (λ r. r.push) same_rounds) q.next

    beaten_now : HasBeatenIn set.course.loses k2 t2
    beaten_now = beaten_heard set.course.loses k w.t h w.open_in (ap is_heartbeat query_asked) (λ quiet. subst (λ q. HasBeatenBy q k w.t) e (w.beaten quiet))

    -- and the commit gives up, blocked
    pub missed_gives_up : GivesUpBy set.course.loses k2 (missed_at x.write_ts h.step x) (answers.Blocked holder)
    missed_gives_up = record {
      t = t2;
      stages = w.stages;
      open_in = record { others = map (txn_heard k.sent (Some h)) w.open_in.others; is_open = w.open_in.is_open; first = ap (map (txn_heard k.sent (Some h))) w.open_in.first };
      cause = w.cause;
      s = w.s;
      opened = w.opened;
      split = split2 session clock count set k x p ms counted w number reply h waited is;
      paced =
          let old = paced2 session clock count set k x p ms counted w number reply h waited is in
          record { pushes = λ id. let low = old.pushes id in omega (arith, low); behind = old.behind };
      met = All-push MeetsByPut k.heard_now h q.commits.met (λ met. absurd cc);
      beaten = beaten_so set.course.loses k2 t2 beaten_now;
      first = λ quiet left. (beaten_now quiet).first;
      gives_up = record {
        call = q.commits.call;
        anchor = q.commits.anchor;
        anchored = q.commits.anchored;
        stands = missed_stands;
        late = all_late;
        why = blocked_on k w.t h w.open_in plain still holder (inl next2) q.why.why q.why.fewer;
      };
    }

-- It is the holder that the query names.
pub same_holder : (p : Purpose) (n : ℕ) (one other : TxnId) (puts : List Message) → p ≡ purposes.Query n one puts → blocker_of p ≡ Some other → one ≡ other
same_holder p n one other puts e f = same_Some one other (sym (ap blocker_of e) ∙ f)
