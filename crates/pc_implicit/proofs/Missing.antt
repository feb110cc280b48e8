-- A write that a query missed is never present there again.
use Rattle.std.proofs.Common.{◌≡◌, ℕ, ◌<◌, max, Bool, true, false, if◌then◌else◌, List, [], ◌∷◌, ◌++◌, None, refl, sym, ap, subst, ◌∙◌, arith}
use Rattle.std.proofs.lemmas.Grind.{common_steps}
use Rattle.std.proofs.lemmas.List.{append_assoc}
use Rattle.pc_base.specs.Bound.{ReadBound, free_from, raised}
use Rattle.pc_base.specs.declared.entry.Entry.{Entry}
use Rattle.pc_base.specs.declared.transaction.TxnId.{TxnId}
use Rattle.pc_base.specs.declared.transaction.Who.{Who}
use Rattle.pc_implicit.proofs.Bounds.{bound_goes_on}
use Rattle.pc_implicit.proofs.ClosedBounds.{free_from-rises}
use Rattle.pc_implicit.proofs.Lift.{GoesOn, over}
use Rattle.pc_implicit.proofs.OwnKeys.{AsBefore, IsGone, IsLaid, IsMoved, laid_time, own_changes}
use Rattle.pc_implicit.proofs.Reading.{answered_so}
use Rattle.pc_implicit.proofs.RepliedAt.{replied_at}
use Rattle.pc_implicit.specs.Decided.{BoundStands}
use Rattle.pc_implicit.specs.Reads.{RangeEvaluated}
use Rattle.pc_implicit.specs.Replied.{QueryMissed}
use Rattle.pc_implicit.specs.Staging.{IsMissedQuery, StaysMissing}
use Rattle.pc_proto.specs.declared.event.Event.{Event}
use Rattle.pc_proto.specs.declared.record.Intent.{Intent}
use Rattle.pc_proto.specs.declared.reply.Reply.{Reply}
use Rattle.pc_proto.specs.declared.reply.Reply.TheVariants as replies
use Rattle.pc_proto.specs.declared.request.Request.{Request}
use Rattle.pc_proto.specs.declared.request.Request.TheVariants as requests
use Rattle.pc_proto.specs.Intents.{own_at}
use Rattle.pc_world.proofs.Prefixes.{run_front, run_may}
use Rattle.pc_world.specs.After.{state_at}
use Rattle.pc_world.specs.Evaluation.{bound_after, intents_after, reply, state_after}
use Rattle.pc_world.specs.Evaluation.Put.{laid, write_ts}
use Rattle.pc_world.specs.Evaluation.Query.{is_found, is_it, write_stands}
use Rattle.pc_world.specs.Local.{Head}
use Rattle.pc_world.specs.RangeOf.{range_of}
use Rattle.pc_world.specs.RangeState.{RangeState}
use Rattle.pc_world.specs.Run.{IsRun}

module _ (id : TxnId) (epoch seq ts : ℕ) (key : List ℕ) where
  -- an intent above the timestamp is not the listed write
  above-it : (i : Intent) → ts < i.ts → is_it epoch seq ts i ≡ false
  above-it i above = grind (arith, common_steps)

  -- nor is one that was not, and moved up
  moved-it : (i : Intent) (at : ℕ) → is_it epoch seq ts i ≡ false → is_it epoch seq ts (record i { ts = max i.ts at }) ≡ false
  moved-it i at absent = grind (arith, common_steps)

  absent-step : (request : Request) (s : RangeState) → StaysMissing id epoch seq ts key s → is_found epoch seq ts (own_at id key (intents_after request s)) ≡ false
  absent-step request s missing =
      elim (own_changes id key request s) [
        | AsBefore same ↦ ap (is_found epoch seq ts) same ∙ missing.absent
        | IsLaid meta own_seq asked value is whose over eq ↦
            let own = own_at id key s.intents in
            let at = write_ts meta asked key own s in
            let closed = missing.closed meta.id in
            let above : ts < at = omega (arith, closed) in
            let time = laid_time id key meta own_seq at value own in
            ap (is_found epoch seq ts) eq ∙ above-it (laid meta own_seq at value own) (omega (arith, time, above))
        | IsMoved at i is own eq ↦
            let before : is_it epoch seq ts i ≡ false = ap (is_found epoch seq ts) (sym own) ∙ missing.absent in
            ap (is_found epoch seq ts) eq ∙ moved-it i at before
        | IsGone fate i is ends own eq ↦ ap (is_found epoch seq ts) eq
      ]

  closed-step : (request : Request) (s : RangeState) → StaysMissing id epoch seq ts key s → (writer : TxnId) → ts < free_from writer (bound_after request s)
  closed-step request s missing writer =
      let write_stands : BoundStands s.bound (bound_after request s) = bound_goes_on.step request s in
      let before = missing.closed writer in
      let rises = free_from-rises writer s.bound (bound_after request s) write_stands in
      omega (arith, before, rises)

  -- What stays missing of the first state does so of the second.
  abbrev pub KeepsMissing : RangeState → RangeState → Type 0
  KeepsMissing s t = StaysMissing id epoch seq ts key s → StaysMissing id epoch seq ts key t

  missing_goes_on : GoesOn KeepsMissing
  missing_goes_on = record {
    same = λ s missing. missing;
    on = λ s t u first second missing. second (first missing);
    step = λ request s missing. record { absent = absent-step request s missing; closed = closed-step request s missing };
  }

  raised-closes : (b : ReadBound) (writer : TxnId) → ts < free_from writer (raised ts None b)
  raised-closes b writer = grind (arith, common_steps)

  missed-now : (by : Who) (s : RangeState) → replies.Missing ≡ reply (requests.Query id epoch seq ts key by) s → StaysMissing id epoch seq ts key (state_after (requests.Query id epoch seq ts key by) s)
  missed-now by s told = cases (write_stands id epoch seq ts key s) refl told
    where
      cases : (b : Bool) → write_stands id epoch seq ts key s ≡ b → replies.Missing ≡ (if b then replies.Found else replies.Missing) → StaysMissing id epoch seq ts key (state_after (requests.Query id epoch seq ts key by) s)
      cases true is told = absurd cc
      cases false is told = record {
        absent = is;
        closed = λ writer. subst (λ (b : ReadBound). ts < free_from writer b) (sym (ap (λ c. if c then s.bound else raised ts None s.bound) is)) (raised-closes s.bound writer);
      }

  -- after an evaluation that missed it, it stays missing in every longer history
  missing-on : (head : Head) (range : ℕ) (before : List (Entry Event)) (e : Entry Event) (later : List (Entry Event)) → StaysMissing id epoch seq ts key (state_at head range (before ++ e ∷ []))
      → StaysMissing id epoch seq ts key (state_at head range (before ++ e ∷ later))
  missing-on head range before e later missing =
      subst (λ h. StaysMissing id epoch seq ts key (state_at head range h)) (append_assoc before (e ∷ []) later)
      (over KeepsMissing missing_goes_on head range (before ++ e ∷ []) later missing)

  missed-query : (request : Request) (s : RangeState) → IsMissedQuery id epoch seq ts key request (reply request s) → StaysMissing id epoch seq ts key (state_after request s)
  missed-query (requests.Query other at_epoch at_seq at place by) s missed = by-told (reply (requests.Query other at_epoch at_seq at place by) s) refl missed
    where
      by-told : (told : Reply) → told ≡ reply (requests.Query other at_epoch at_seq at place by) s → IsMissedQuery id epoch seq ts key (requests.Query other at_epoch at_seq at place by) told
          → StaysMissing id epoch seq ts key (state_after (requests.Query other at_epoch at_seq at place by) s)
      by-told replies.Missing is same =
          let asks : requests.Query other at_epoch at_seq at place by ≡ requests.Query id epoch seq ts key by = (λ i. requests.Query (same.0 i) (same.1 i) (same.2 i) (same.3 i) (same.4 i) by) in
          subst (λ q. StaysMissing id epoch seq ts key (state_after q s)) (sym asks) (missed-now by s (is ∙ ap (λ q. reply q s) asks))
      by-told told is same = absurd same
  missed-query request s missed = absurd missed

  pub missing_stays : (head : Head) (range : ℕ) (before : List (Entry Event)) (e : Entry Event) (later : List (Entry Event)) → IsRun head (before ++ e ∷ later) → RangeEvaluated head before range (IsMissedQuery id epoch seq ts key) e
      → StaysMissing id epoch seq ts key (state_at head range (before ++ e ∷ later))
  missing_stays head range before e later run a =
      let so = answered_so head before range (IsMissedQuery id epoch seq ts key) e (run_front head before (e ∷ later) run) (run_may head before e later run) a in
      missing-on head range before e later (subst (StaysMissing id epoch seq ts key) (sym so.after) (missed-query so.request (state_at head range before) so.is))

  -- so it is of each that a query missed
  pub missed_stays : (head : Head) (history : List (Entry Event)) → IsRun head history → QueryMissed history id epoch key seq ts → StaysMissing id epoch seq ts key (state_at head (range_of head.splits key) history)
  missed_stays head history run missed =
      let r = missed.replied in
      let at = replied_at head history run (requests.Query id epoch seq ts key missed.by) replies.Missing r in
      let now = missed-now missed.by (state_at head r.range at.before) at.at.answers in
      let here : StaysMissing id epoch seq ts key (state_at head r.range (at.before ++ at.e ∷ at.later)) =
      missing-on head r.range at.before at.e at.later (subst (StaysMissing id epoch seq ts key) (sym at.at.after) now) in
      subst (λ range. StaysMissing id epoch seq ts key (state_at head range history)) at.at.goes
      (subst (λ h. StaysMissing id epoch seq ts key (state_at head r.range h)) (sym at.whole) here)
