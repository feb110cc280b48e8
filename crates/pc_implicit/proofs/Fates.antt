-- The fate that a resolve gives an intent is that of its transaction.
use Rattle.std.proofs.Common.{◌≡◌, ℕ, ◌≤◌, inl, inr, List, [], ◌∷◌, ◌++◌, Some, Contains, sym, ap, subst, ◌∙◌, arith}
use Rattle.std.proofs.lemmas.List.Elements.{Contains-push_cases}
use Rattle.pc_base.specs.declared.actor.ActorId.{ActorId}
use Rattle.pc_base.specs.declared.entry.Entry.{Entry}
use Rattle.pc_base.specs.declared.transaction.TxnId.{TxnId}
use Rattle.pc_implicit.proofs.Commits.{act_of}
use Rattle.pc_implicit.proofs.Doing.{Does}
use Rattle.pc_implicit.proofs.Hearing.{IsSo, heard_is_so}
use Rattle.pc_implicit.proofs.Homes.{home_is, home_on}
use Rattle.pc_implicit.proofs.Metas.{subject_anchored}
use Rattle.pc_implicit.proofs.Views.{Stands, subject-is}
use Rattle.pc_implicit.specs.Decided.{StaysTrue, decision, time_of}
use Rattle.pc_implicit.specs.Writes.{home_of}
use Rattle.pc_lists.proofs.Each.{each-contains}
use Rattle.pc_lists.proofs.Lists.{contains_nil}
use Rattle.pc_proto.specs.declared.event.Event.{Event}
use Rattle.pc_proto.specs.declared.event.Event.TheVariants as events
use Rattle.pc_proto.specs.declared.fate.Fate.{Fate}
use Rattle.pc_proto.specs.declared.fate.Fate.TheVariants as fates
use Rattle.pc_proto.specs.declared.record.Standing.TheVariants as standings
use Rattle.pc_proto.specs.declared.request.Request.TheVariants as requests
use Rattle.pc_proto.specs.declared.view.View.{View}
use Rattle.pc_proto.specs.declared.view.View.TheVariants as views
use Rattle.pc_proto.specs.declared.why.Why.{Why}
use Rattle.pc_proto.specs.Place.{Place}
use Rattle.pc_proto.specs.RecordRows.Reached.{status_of}
use Rattle.pc_proto.specs.Requests.{subject}
use Rattle.pc_proto.specs.Views.{IsFateOf}
use Rattle.pc_world.proofs.Prefixes.{run_induction}
use Rattle.pc_world.specs.After.{known_at, place_at}
use Rattle.pc_world.specs.Local.{Head}
use Rattle.pc_world.specs.Run.{IsRun}
use Rattle.pc_world.specs.Send.Settling.{MaySendResolve}

-- The fate is that of the transaction of which its anchor's range has this.
abbrev pub FateIsSo : Fate → Place → Type 0
FateIsSo (fates.Committed epoch ts) p = decision p ≡ Some (status_of standings.Committed epoch ts)
FateIsSo fates.Aborted p = (why : Why) × (epoch ts : ℕ) × (decision p ≡ Some (status_of (standings.Aborted why) epoch ts))
FateIsSo (fates.Pending ts) p = ts ≤ time_of p

fate-on : (fate : Fate) (p q : Place) → Stands p q → FateIsSo fate p → FateIsSo fate q
fate-on (fates.Committed epoch ts) p q s h = s.decided (status_of standings.Committed epoch ts) h
fate-on fates.Aborted p q s h = (h.0, h.1, h.2, s.decided (status_of (standings.Aborted h.0) h.1 h.2) h.3)
fate-on (fates.Pending ts) p q s h = let rises = s.rises.ts in omega (arith, h, rises)

-- the fate that a view shows is so where the view is true
view-fate : (view : View) (fate : Fate) (p : Place) → IsFateOf view fate → StaysTrue view p → FateIsSo fate p
view-fate (views.Committed epoch ts locks) (fates.Committed at_epoch at) p fits true_of =
    subst (λ n. decision p ≡ Some (status_of standings.Committed n at)) (sym fits.0) (subst (λ t. decision p ≡ Some (status_of standings.Committed epoch t)) (sym fits.1) true_of)
view-fate (views.Aborted epoch why locks) fates.Aborted p fits true_of = (why, epoch, true_of.0, true_of.1)
view-fate (views.Pending epoch ts) (fates.Pending at) p fits true_of = let reached = true_of.ts_reached in omega (arith, fits, reached)
view-fate (views.Staging epoch ts writes) (fates.Pending at) p fits true_of = let reached = true_of.ts_reached in omega (arith, fits, reached)
view-fate view fate p fits true_of = absurd fits

-- The fate in a resolve is that of its transaction.
abbrev SaysFate : Head → List (Entry Event) → Event → Type 0
SaysFate head history (events.Send number range (requests.Resolve id key fate)) = FateIsSo fate (home_of head id history)
SaysFate head history event = Unit {0}

module _ (head : Head) where
  fate-more : (history : List (Entry Event)) (e : Entry Event) (event : Event) → SaysFate head history event → SaysFate head (history ++ e ∷ []) event
  fate-more history e (events.Send number range (requests.Resolve id key fate)) h = fate-on fate (home_of head id history) (home_of head id (history ++ e ∷ [])) (home_on head id history e) h
  fate-more history e event h = tt

  -- what an actor may resolve is so
  pub shown_fate : (history : List (Entry Event)) → IsRun head history → (actor : ActorId) (id : TxnId) (fate : Fate) → MaySendResolve (known_at head actor history) id fate → FateIsSo fate (home_of head id history)
  shown_fate history run actor id fate (n, h, inside, at, shows) =
      let w = each-contains (IsSo head history actor) (known_at head actor history).heard h (heard_is_so head history run actor) (n, inside, at) in
      let about : subject h.request ≡ Some id = subject-is id (subject h.request) shows.about in
      let anchored = subject_anchored head history run w.send w.listed h.number w.range h.request id w.sends about in
      let there : place_at head w.range id history ≡ home_of head id history =
      ap (λ r. place_at head r id history) anchored.there ∙ sym (home_is head id history anchored.anchor anchored.anchored) in
      let stays = w.shows id shows.view about shows.told in
      view-fate shows.view fate (home_of head id history) shows.fits (subst (StaysTrue shows.view) there stays)

  says-fate : (history : List (Entry Event)) → IsRun head history → (actor : ActorId) (event : Event) → Does head actor (known_at head actor history) event → SaysFate head history event
  says-fate history run actor (events.Send number range (requests.Resolve id key fate)) may = shown_fate history run actor id fate may.row
  says-fate history run actor event may = tt

  all-so : (history : List (Entry Event)) → IsRun head history → (a : Entry Event) → Contains history a → SaysFate head history a.event
  all-so = run_induction head (λ history. (a : Entry Event) → Contains history a → SaysFate head history a.event) (λ a there. absurd (contains_nil a there)) (λ history e run may all a there.
      elim (Contains-push_cases history e a there) [
        | inl before ↦ fate-more history e a.event (all a before)
        | inr now ↦ subst (λ (x : Entry Event). SaysFate head (history ++ e ∷ []) x.event) now (fate-more history e e.event (says-fate history run e.actor e.event (act_of head history e may)))
      ])

  -- in a run the fate in each resolve is that of its transaction
  pub fates_are_so : (history : List (Entry Event)) → IsRun head history → (a : Entry Event) → Contains history a → (number range : ℕ) (id : TxnId) (key : List ℕ) (fate : Fate)
      → a.event ≡ events.Send number range (requests.Resolve id key fate) → FateIsSo fate (home_of head id history)
  fates_are_so history run a there number range id key fate is = subst (SaysFate head history) is (all-so history run a there)
