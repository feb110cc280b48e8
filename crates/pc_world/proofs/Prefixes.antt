-- Beginnings of runs.
use Rattle.std.proofs.Common.{◌≡◌, ℕ, List, [], ◌∷◌, ◌++◌, take, drop, Some, slice_get, subst, sym}
use Rattle.std.proofs.lemmas.List.{append-nil, append_assoc, take-append-drop}
use Rattle.pc_base.specs.declared.entry.Entry.{Entry}
use Rattle.pc_history.proofs.Histories.{fine-front, fine-may, fine-step}
use Rattle.pc_history.specs.History.{IsFineAfter, MayFollow}
use Rattle.pc_proto.specs.declared.event.Event.{Event}
use Rattle.pc_world.proofs.Knowing.{run_push}
use Rattle.pc_world.specs.Local.{Head}
use Rattle.pc_world.specs.Run.{IsRun, protocol}

module _ (head : Head) where
  -- a beginning of a run is a run
  pub run_front : (front back : List (Entry Event)) → IsRun head (front ++ back) → IsRun head front
  run_front front back run = fine-front (protocol head) front back run

  -- and so are the first entries of one, however many
  pub run_take : (n : ℕ) (history : List (Entry Event)) → IsRun head history → IsRun head (take n history)
  run_take n history run = run_front (take n history) (drop n history) (subst (λ h. IsRun head h) (sym (take-append-drop n history)) run)

  -- each entry of a run may follow those before it
  pub run_may : (front : List (Entry Event)) (e : Entry Event) (back : List (Entry Event)) → IsRun head (front ++ e ∷ back) → MayFollow (protocol head) front e
  run_may front e back run = fine-may (protocol head) front e back run

  -- the entry at a place has that step
  pub run_step : (history : List (Entry Event)) (place : ℕ) (e : Entry Event) → IsRun head history → slice_get history place ≡ Some e → e.step ≡ place
  run_step history place e run at = fine-step (protocol head) history place e run at

  induction-after : (P : List (Entry Event) → Type 0)
      → ((history : List (Entry Event)) (e : Entry Event) → IsRun head history → MayFollow (protocol head) history e → P history → P (history ++ e ∷ []))
      → (before later : List (Entry Event)) → IsRun head before → P before → IsFineAfter (protocol head) before later → P (before ++ later)
  induction-after P step before [] run holds more = subst P (sym (append-nil before)) holds
  induction-after P step before (e ∷ es) run holds more =
      subst P (append_assoc before (e ∷ []) es)
      (induction-after P step (before ++ e ∷ []) es (run_push head before e run more.0) (step before e run more.0 holds) more.1)

  -- what holds of no entries, and of a run that is one entry longer than one of which it holds, holds of every run
  pub run_induction : (P : List (Entry Event) → Type 0) → P []
      → ((history : List (Entry Event)) (e : Entry Event) → IsRun head history → MayFollow (protocol head) history e → P history → P (history ++ e ∷ []))
      → (history : List (Entry Event)) → IsRun head history → P history
  run_induction P none step history run = induction-after P step [] history tt none run
