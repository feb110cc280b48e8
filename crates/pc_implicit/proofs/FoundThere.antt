-- A transaction that was heard to stage had sent that stage; and what a query found of an open stage was present since the stage was sent.
use Rattle.std.proofs.Common.{◌≡◌, ℕ, true, ◌&&◌, ◌==◌, inl, inr, List, [], ◌∷◌, ◌++◌, Some, Contains, refl, sym, ap, subst, ◌∙◌}
use Rattle.std.proofs.lemmas.Bool.{and_parts, eqb-true}
use Rattle.std.proofs.lemmas.List.{append_assoc}
use Rattle.std.proofs.lemmas.List.Elements.{Contains-append_left}
use Rattle.std.proofs.lemmas.List.Folds.{Any-from_list_any}
use Rattle.std.specs.Prelude.{IsTrue}
use Rattle.pc_implicit.proofs.Written.{found_is}
use Rattle.pc_base.specs.declared.actor.ActorId.{ActorId}
use Rattle.pc_base.specs.declared.entry.Entry.{Entry}
use Rattle.pc_base.specs.declared.transaction.TxnId.{TxnId}
use Rattle.pc_base.specs.declared.transaction.Who.{Who}
use Rattle.pc_base.specs.Transaction.{same_txn}
use Rattle.pc_implicit.proofs.Doing.{Does}
use Rattle.pc_implicit.proofs.EvaluatedAt.{answered_at, sent_at}
use Rattle.pc_implicit.proofs.Hearing.{WasSentBy, sent_is_so}
use Rattle.pc_implicit.proofs.HeardViews.{so_of}
use Rattle.pc_implicit.proofs.Homes.{home_is}
use Rattle.pc_implicit.proofs.Metas.{subject_anchored}
use Rattle.pc_implicit.proofs.RepliedAt.{replied_at}
use Rattle.pc_implicit.proofs.Shown.{WasAnswered}
use Rattle.pc_implicit.proofs.FinalMarks.{marks_final}
use Rattle.pc_implicit.proofs.StagedAs.{staged_along, staged_as}
use Rattle.pc_implicit.proofs.StagesRefuted.{one_staged}
use Rattle.pc_implicit.proofs.StageWords.{WasStagedAs}
use Rattle.pc_implicit.proofs.Views.{reply-view}
use Rattle.pc_implicit.specs.Replied.{QueryFound}
use Rattle.pc_implicit.specs.Stages.{IsOpenTo, WasStaged, WasThere}
use Rattle.pc_implicit.specs.Writes.{home_of}
use Rattle.pc_lists.proofs.Each.{each-contains}
use Rattle.pc_lists.proofs.Same.{same_txn-is}
use Rattle.pc_proto.specs.declared.event.Event.{Event}
use Rattle.pc_proto.specs.declared.event.Event.TheVariants as events
use Rattle.pc_proto.specs.declared.record.Record.{Record}
use Rattle.pc_proto.specs.declared.record.Standing.{Standing}
use Rattle.pc_proto.specs.declared.record.Standing.TheVariants as standings
use Rattle.pc_proto.specs.declared.reply.Reply.{Reply}
use Rattle.pc_proto.specs.declared.reply.Reply.TheVariants as replies
use Rattle.pc_proto.specs.declared.request.Request.{Request}
use Rattle.pc_proto.specs.declared.request.Request.TheVariants as requests
use Rattle.pc_proto.specs.declared.view.View.TheVariants as views
use Rattle.pc_proto.specs.Place.{Place, Nothing, Kept, Marked, is_final, status_view, view_of}
use Rattle.pc_proto.specs.Replies.{view_in}
use Rattle.pc_proto.specs.Requests.{is_push_of, subject}
use Rattle.pc_proto.specs.Table.{place_of}
use Rattle.pc_world.proofs.Prefixes.{run_front}
use Rattle.pc_world.specs.After.{known_at, place_at, state_at}
use Rattle.pc_world.specs.Evaluation.{reply as reply_of, state_after}
use Rattle.pc_world.specs.Evaluation.Query.{write_stands}
use Rattle.pc_world.specs.Known.Traffic.{Sent}
use Rattle.pc_world.specs.Known.Transactions.{has_staged, is_stage_of, lists_write}
use Rattle.pc_world.specs.Local.{Head}
use Rattle.pc_world.specs.RangeState.{RangeState}
use Rattle.pc_world.specs.Run.{IsRun}
use Rattle.pc_world.specs.Send.Recovery.{MaySendQuery, WasStaging}
use Rattle.pc_world.specs.StageFate.{SentStage}

-- a staging view is that of a record which stages so
pub view_stages : (p : Place) (epoch ts : ℕ) (writes : List (List ℕ × ℕ)) → ((s : _) → p ≡ Marked s → is_final s.standing ≡ true) → view_of p ≡ views.Staging epoch ts writes
    → (r : Record) × (p ≡ Kept r) × (r.status.standing ≡ standings.Staging) × (r.status.epoch ≡ epoch) × (r.status.ts ≡ ts) × (r.writes ≡ writes)
view_stages Nothing epoch ts writes final is = absurd cc
view_stages (Kept r) epoch ts writes final is =
    let parts = by r.status.standing r.status.epoch r.status.ts r.writes r.locks is in (r, refl, parts.0, parts.1, parts.2, parts.3)
  where
    by : (standing : Standing) (at_epoch at : ℕ) (listed : List (List ℕ × ℕ)) (locks : List (List ℕ)) → status_view standing at_epoch at listed locks ≡ views.Staging epoch ts writes
        → (standing ≡ standings.Staging) × (at_epoch ≡ epoch) × (at ≡ ts) × (listed ≡ writes)
    by standings.Staging at_epoch at listed locks is = (refl, cc is, cc is, cc is)
    by standings.Pending at_epoch at listed locks is = absurd cc
    by standings.Committed at_epoch at listed locks is = absurd cc
    by (standings.Aborted why) at_epoch at listed locks is = absurd cc
view_stages (Marked s) epoch ts writes final is = absurd (by s.standing (final s refl) is)
  where
    by : (standing : Standing) → is_final standing ≡ true → status_view standing s.epoch s.ts [] [] ≡ views.Staging epoch ts writes → ⊥
    by standings.Staging f is = absurd cc
    by standings.Pending f is = absurd cc
    by standings.Committed f is = absurd cc
    by (standings.Aborted why) f is = absurd cc

pub push_about : (id : TxnId) (request : Request) → is_push_of id request ≡ true → subject request ≡ Some id
push_about id (requests.Push holder by level now goal) h = ap Some (same_txn-is holder.id id h)
push_about id request h = absurd cc

module _ (head : Head) (history : List (Entry Event)) (run : IsRun head history) where
  staged-longer : (front back : List (Entry Event)) (id : TxnId) (epoch ts : ℕ) (writes : List (List ℕ × ℕ)) → history ≡ front ++ back → WasStagedAs front id epoch ts writes → WasStagedAs history id epoch ts writes
  staged-longer front back id epoch ts writes whole x = record {
    stage = x.stage;
    sent = subst (λ h. WasStaged h x.stage) (sym whole) (staged_along front back x.stage x.sent);
    whose = x.whose;
    epoch_is = x.epoch_is;
    ts_is = x.ts_is;
    writes_are = x.writes_are;
  }

  -- a transaction that an answer shows to stage has sent that stage
  pub staging_seen : (actor : ActorId) (number : ℕ) (request : Request) (reply : Reply) → WasAnswered head history actor number request reply → (id : TxnId) (epoch ts : ℕ) (writes : List (List ℕ × ℕ))
      → subject request ≡ Some id → view_in reply ≡ Some (views.Staging epoch ts writes) → WasStagedAs history id epoch ts writes
  staging_seen actor number request reply w id epoch ts writes about told =
      let at = answered_at head history run actor number request reply w in
      let now = at.before ++ at.e ∷ [] in
      let whole : history ≡ now ++ at.later = at.whole ∙ sym (append_assoc at.before (at.e ∷ []) at.later) in
      let until : IsRun head now = run_front head now at.later (subst (IsRun head) whole run) in
      let p = place_at head w.range id now in
      let s = state_at head w.range at.before in
      let replies_so : view_in (reply_of request s) ≡ Some (views.Staging epoch ts writes) = ap view_in (sym at.at.answers) ∙ told in
      let after_is : place_of id (state_after request s).table ≡ p = ap (λ (x : RangeState). place_of id x.table) (sym at.at.after) in
      let shown : views.Staging epoch ts writes ≡ view_of p = subst (λ q. views.Staging epoch ts writes ≡ view_of q) after_is (reply-view request s id (views.Staging epoch ts writes) about replies_so) in
      let anchored = subject_anchored head now until at.send (Contains-append_left at.before (at.e ∷ []) at.send at.listed) number w.range request id at.sends about in
      let home : home_of head id now ≡ p =
      subst (λ r. home_of head id now ≡ place_at head r id now) (sym anchored.there) (home_is head id now anchored.anchor anchored.anchored) in
      let stages = view_stages p epoch ts writes (marks_final head w.range id now) (sym shown) in
      let r = stages.0 in
      let sent = staged_as head now until id r (home ∙ stages.1) stages.2 in
      staged-longer now at.later id epoch ts writes whole (record {
        stage = sent.stage;
        sent = sent.sent;
        whose = sent.whose;
        epoch_is = sent.epoch_is ∙ stages.3;
        ts_is = sent.ts_is ∙ stages.4;
        writes_are = sent.writes_are ∙ stages.5;
      })

  -- so has one that a push was heard to find staging
  pub staging_heard : (actor : ActorId) (id : TxnId) (epoch ts : ℕ) (writes : List (List ℕ × ℕ)) → WasStaging (known_at head actor history).heard id epoch ts writes → WasStagedAs history id epoch ts writes
  staging_heard actor id epoch ts writes (n, h, inside, at, met) =
      staging_seen actor h.number h.request h.reply (so_of head history run actor h (n, inside, at)) id epoch ts writes (push_about id h.request met.pushed) (ap view_in met.staging)

  -- a stage that its session knows it sent
  staged-own : (id : TxnId) (epoch ts seq : ℕ) (key : List ℕ) (number range : ℕ) (request : Request) (a : Entry Event) → Contains history a → a.event ≡ events.Send number range request
      → is_stage_of id epoch ts key seq request ≡ true → (x : SentStage) × WasStaged history x × (x.meta.id ≡ id) × (x.meta.epoch ≡ epoch) × (x.ts ≡ ts)
  staged-own id epoch ts seq key number range (requests.Stage meta at now writes locks) a there sends is =
      let parts = and_parts (same_txn meta.id id && meta.epoch == epoch) (at == ts && lists_write key seq writes) is in
      let own = and_parts (same_txn meta.id id) (meta.epoch == epoch) parts.0 in
      let rest = and_parts (at == ts) (lists_write key seq writes) parts.1 in
      let x : SentStage = record { meta = meta; ts = at; now = now; writes = writes; locks = locks } in
      let sent : WasStaged history x = record { send = a; listed = there; number = number; range = range; sends = sends } in
      (x, sent, same_txn-is meta.id id own.0, eqb-true meta.epoch epoch own.1, eqb-true at ts rest.0)
  staged-own id epoch ts seq key number range request a there sends is = absurd cc

  -- who may query a write has seen its transaction stage there, or staged there itself
  asker-saw : (actor : ActorId) (id : TxnId) (epoch seq ts : ℕ) (key : List ℕ) (by : Who) → MaySendQuery actor (known_at head actor history) id epoch seq ts key by
      → (x : SentStage) × WasStaged history x × (x.meta.id ≡ id) × (x.meta.epoch ≡ epoch) × (x.ts ≡ ts)
  asker-saw actor id epoch seq ts key by may =
      elim may.why [
        | inl listed ↦ let sent = staging_heard actor id epoch ts listed.writes listed.staging in (sent.stage, sent.sent, sent.whose, sent.epoch_is, sent.ts_is)
        | inr own ↦ from-own own.staged
      ]
    where
      from-own : IsTrue (has_staged (known_at head actor history).sent id epoch ts key seq) → (x : SentStage) × WasStaged history x × (x.meta.id ≡ id) × (x.meta.epoch ≡ epoch) × (x.ts ≡ ts)
      from-own staged =
          let any = Any-from_list_any (λ (m : Sent). is_stage_of id epoch ts key seq m.request) (known_at head actor history).sent staged in
          let m = any.1 in
          let w = each-contains (WasSentBy head history actor) (known_at head actor history).sent m (sent_is_so head history run actor) (any.0, any.2, any.3) in
          staged-own id epoch ts seq key m.number m.range m.request w.send w.listed w.sends any.4

module _ (head : Head) (history : List (Entry Event)) (run : IsRun head history) where
  -- a write that a query found was present since its stage was sent
  pub found_there : (s : SentStage) → WasStaged history s → IsOpenTo head history s → (w : List ℕ × ℕ) → QueryFound history s.meta.id s.meta.epoch w.0 w.1 s.ts → WasThere head history s w
  found_there s sent opened w found =
      let request = requests.Query s.meta.id s.meta.epoch w.1 s.ts w.0 found.by in
      let at = replied_at head history run request replies.Found found.replied in
      let until : IsRun head at.before = run_front head at.before (at.e ∷ at.later) (subst (IsRun head) at.whole run) in
      let asked = sent_at head at.before until at.send at.listed in
      let front : IsRun head asked.before = run_front head asked.before (at.send ∷ asked.later) (subst (IsRun head) asked.whole until) in
      let may : Does head at.send.actor (known_at head at.send.actor asked.before) (events.Send found.replied.number found.replied.range request) =
      subst (Does head at.send.actor (known_at head at.send.actor asked.before)) at.sends asked.does in
      let saw = asker-saw head asked.before front at.send.actor s.meta.id s.meta.epoch w.1 s.ts w.0 found.by may.row in
      let x = saw.0 in
      let early : WasStaged at.before x = subst (λ h. WasStaged h x) (sym asked.whole) (staged_along asked.before (at.send ∷ asked.later) x saw.1) in
      let also : WasStaged history x = subst (λ h. WasStaged h x) (sym at.whole) (staged_along at.before (at.e ∷ at.later) x early) in
      let one : x ≡ s = one_staged head history run s x sent also saw.2 saw.3 saw.4 opened in
      let standing : write_stands s.meta.id s.meta.epoch w.1 s.ts w.0 (state_at head found.replied.range at.before) ≡ true =
      found_is (write_stands s.meta.id s.meta.epoch w.1 s.ts w.0 (state_at head found.replied.range at.before)) (sym at.at.answers) in
      record {
        front = at.before;
        back = at.e ∷ at.later;
        whole = at.whole;
        staged = subst (WasStaged at.before) one early;
        there = subst (λ r. write_stands s.meta.id s.meta.epoch w.1 s.ts w.0 (state_at head r at.before) ≡ true) at.at.goes standing;
      }
