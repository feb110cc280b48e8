-- The query of a write that is blocked may be sent, as far as its purpose goes.
use Rattle.std.proofs.Common.{◌≡◌, ℕ, ◌+◌, ◌≤◌, Bool, true, false, ◌&&◌, ◌==◌, inl, inr, List, [], ◌∷◌, None, refl, sym, ap, ◌∙◌, subst, arith, All, Contains, IsTrue}
use Rattle.std.proofs.lemmas.Bool.{and_from, eq-eqb}
use Rattle.std.proofs.lemmas.List.Elements.{All-cons, All-contains, All-head, All-nil}
use Rattle.pc_base.specs.declared.actor.ActorId.TheVariants as actors
use Rattle.pc_base.specs.declared.transaction.TxnId.{TxnId}
use Rattle.pc_base.specs.declared.transaction.Who.TheVariants as whos
use Rattle.pc_base.specs.Transaction.{same_txn}
use Rattle.pc_call.proofs.Beginning.{any_true}
use Rattle.pc_call.proofs.Facts.{open_is}
use Rattle.pc_call.proofs.Ready.{IsReady, IsReadyToSend, one_ready}
use Rattle.pc_call.proofs.Rounding.{not_empty}
use Rattle.pc_call.specs.declared.purpose.Purpose.{Purpose}
use Rattle.pc_call.specs.declared.purpose.Purpose.TheVariants as purposes
use Rattle.pc_call.specs.Serving.{InCall, Serves, ServesQuery, out_of}
use Rattle.pc_call.specs.Setting.{Setting}
use Rattle.pc_call.specs.Suiting.{SuitsFlightIn}
use Rattle.pc_flight.specs.declared.write.WriteInFlight.{WriteInFlight}
use Rattle.pc_follows.specs.CallMessages.{IsFor, IsPipelinedFor}
use Rattle.pc_lists.proofs.Anywhere.{any_weaker}
use Rattle.pc_lists.proofs.Lists.{contains_nil}
use Rattle.pc_lists.proofs.Same.{same_txn-self}
use Rattle.pc_proto.specs.declared.call.Call.{Call}
use Rattle.pc_proto.specs.declared.call.Call.TheVariants as calls
use Rattle.pc_proto.specs.Stamps.{request_stamps}
use Rattle.pc_staging.proofs.Hears.{own_each}
use Rattle.pc_staging.specs.Kept.{is_just}
use Rattle.pc_staging.specs.Standing.{WasStageSent}
use Rattle.pc_txn.proofs.Rows.{untold}
use Rattle.pc_txn.specs.Counted.{IsCounted}
use Rattle.pc_txn.specs.declared.txn.OpenTxn.{OpenTxn}
use Rattle.pc_txn.specs.Queries.{own_query}
use Rattle.pc_txn.specs.Standing.{IsStageHere, TxnStands, WritesWithinReach}
use Rattle.pc_wave.specs.declared.message.Message.{Message}
use Rattle.pc_world.specs.Known.{Known}
use Rattle.pc_world.specs.Known.Traffic.{Sent}
use Rattle.pc_world.specs.Known.Transactions.{Txn, has_staged, is_stage_of, lists_write}
use Rattle.pc_world.specs.Send.Recovery.{IsBlockedWrite}
use Rattle.pc_world.specs.StageFate.{IsLate, stage_request}

-- the write timestamp is no greater than the next after the greatest that the session knows
pub within_reach : (k : Known) (t : Txn) → k.high ≤ k.top → All (λ h. All (λ ts. ts ≤ k.top) (request_stamps h.request)) k.heard → WritesWithinReach k t → t.write_ts ≤ k.top + 1
within_reach k t below heard_low (inl high) = omega (arith, high, below)
within_reach k t below heard_low (inr (n, h, inside, at, m)) =
    let low : All (λ ts. ts ≤ k.top) (request_stamps h.request) = All-contains (λ h. All (λ ts. ts ≤ k.top) (request_stamps h.request)) k.heard h heard_low (n, inside, at) in
    let asked : m.at ≤ k.top = All-head (λ ts. ts ≤ k.top) m.at [] (subst (λ q. All (λ ts. ts ≤ k.top) (request_stamps q)) m.missing.asked low) in
    omega (arith, asked, m.just)

-- writes are in flight in a commit only where they are pipelined
pub pipelined_by : (b : Bool) (flight : List WriteInFlight) (f : WriteInFlight) → SuitsFlightIn b calls.Commit flight → Contains flight f → b ≡ true
pipelined_by true flight f suits there = refl
pipelined_by false [] f suits there = absurd (contains_nil f there)
pipelined_by false (v ∷ flight) f suits there = absurd suits

module _ (session clock count : ℕ) (set : Setting) (k : Known) (x : OpenTxn) (p : Purpose) (ms : List Message) (counted : IsCounted session clock count k) (w : InCall set k x p ms) (n : ℕ) (holder : TxnId) (puts : List Message) (e : p ≡ purposes.Query n holder puts) where
  r : ServesQuery set.course n holder puts k w.s w.t x w.stages ms
  r = subst (λ q. Serves set k w.s w.t x w.stages q ms) e w.serves

  st : TxnStands k w.stages None w.t x
  st = subst (λ o. TxnStands k w.stages o w.t x) (ap (λ q. out_of q ms) e) w.stands

  here : IsStageHere k.heard x.staging.staged w.t r.one
  here = All-contains (λ s. (IsLate k.heard s → ⊥) → IsStageHere k.heard x.staging.staged w.t s) w.stages r.one st.live r.kept r.live

  out : WasStageSent k.sent w.t.id r.one
  out = All-contains (WasStageSent k.sent w.t.id) w.stages r.one st.staging.sent r.kept

  id_is : x.id ≡ w.t.id
  id_is = ap (λ x. x.id) st.same

  epoch_now : r.one.meta.epoch ≡ x.epoch
  epoch_now = (own_each k.heard w.t w.stages x.staging.stages st.staging.kept r.one r.kept).1 ∙ sym (ap (λ x. x.epoch) st.same)

  -- the stage lists the write
  stage_is : is_stage_of x.id x.epoch x.write_ts r.w.key r.w.seq (stage_request r.one) ≡ true
  stage_is =
      and_from (same_txn r.one.meta.id x.id && (r.one.meta.epoch == x.epoch)) ((r.one.ts == x.write_ts) && lists_write r.w.key r.w.seq r.one.writes)
      (and_from (same_txn r.one.meta.id x.id) (r.one.meta.epoch == x.epoch) (ap (λ id. same_txn id x.id) (out.whose ∙ sym id_is) ∙ same_txn-self x.id) (eq-eqb r.one.meta.epoch x.epoch epoch_now))
      (and_from (r.one.ts == x.write_ts) (lists_write r.w.key r.w.seq r.one.writes) (eq-eqb r.one.ts x.write_ts (here.at_write_ts ∙ sym (ap (λ x. x.write_ts) st.same))) r.listed)

  staged : IsTrue (has_staged k.sent x.id x.epoch x.write_ts r.w.key r.w.seq)
  staged =
      any_true (λ (m : Sent). is_stage_of x.id x.epoch x.write_ts r.w.key r.w.seq m.request) k.sent
      (any_weaker (λ (m : Sent). m.request ≡ stage_request r.one) (λ m. IsTrue (is_stage_of x.id x.epoch x.write_ts r.w.key r.w.seq m.request)) (λ m is. ap (is_stage_of x.id x.epoch x.write_ts r.w.key r.w.seq) is ∙ stage_is) k.sent out.went_out)

  blocked : IsBlockedWrite k.heard_now x.id x.epoch r.w.seq
  blocked = subst (λ id. IsBlockedWrite k.heard_now id x.epoch r.w.seq) (sym id_is) (subst (λ n. IsBlockedWrite k.heard_now w.t.id n r.w.seq) (sym (ap (λ x. x.epoch) st.same)) r.blocked)

  piped : set.course.pipelines ≡ true
  piped = pipelined_by set.course.pipelines x.in_flight r.w (subst (λ call. SuitsFlightIn set.course.pipelines call x.in_flight) r.commits.call w.plain) r.there

  low : x.write_ts ≤ k.top + 1
  low = let top = within_reach k w.t counted.below counted.heard_low st.below in let at : x.write_ts ≡ w.t.write_ts = ap (λ x. x.write_ts) st.same in omega (arith, top, at)

  ready : IsReady set session k (own_query x r.w.key r.w.seq)
  ready = record {
    row = record {
      own = (w.t, open_is k w.t w.open_in, ap (λ id. whos.Txn id) id_is);
      why = inr (record { s = w.s; t = w.t; in_call = w.opened; opened = open_is k w.t w.open_in; whose = id_is; staged = staged; blocked = blocked });
    };
    stamps = All-cons (λ ts. ts ≤ k.top + 1) x.write_ts [] low (All-nil (λ ts. ts ≤ k.top + 1));
    kind = record {
      s = w.s;
      opened = w.opened;
      kind =
          inl (subst (λ b. IsFor b k w.s.call (own_query x r.w.key r.w.seq)) (sym piped)
          (inr (subst (λ call. IsPipelinedFor k call (own_query x r.w.key r.w.seq)) (sym r.commits.call) (inr (inr ((w.t, open_is k w.t w.open_in, sym id_is), blocked))))));
    };
    before = tt;
    own = tt;
    undecided = untold k w.stages None w.t x st (ap (λ b. b && is_just w.t.write_ts x.staging.staged) (not_empty x.in_flight r.w r.there)) (open_is k w.t w.open_in);
  }

  pub query_ready : All (IsReadyToSend set session k) ms
  query_ready = one_ready set session k ms r.m r.asks (λ to_send. subst (λ q. IsReady set session k q) (sym r.said) ready)
