-- What one more entry does: to what an actor knows, to a range's state, and to a run.
use Rattle.std.proofs.Common.{◌≡◌, ◌≢◌, List, [], ◌∷◌, ◌++◌, ap, ◌∙◌}
use Rattle.std.proofs.lemmas.Grind.{fold-append}
use Rattle.pc_base.specs.declared.actor.ActorId.{ActorId}
use Rattle.pc_base.specs.declared.entry.Entry.{Entry}
use Rattle.pc_history.proofs.Histories.{fine-push, own-push_other, own-push_same}
use Rattle.pc_history.specs.declared.pair.Pair.{Pair}
use Rattle.pc_history.specs.History.{MayFollow}
use Rattle.pc_history.specs.Own.{named_in, own, pair}
use Rattle.pc_proto.specs.declared.event.Event.{Event}
use Rattle.pc_world.specs.Known.{known_of, learn, nothing_known}
use Rattle.pc_world.specs.Local.{Head}
use Rattle.pc_world.specs.RangeState.{no_state}
use Rattle.pc_world.specs.Run.{IsRun, protocol}
use Rattle.pc_world.specs.StateOf.{evaluated, state_of}

-- an actor that has one more entry knows what it learns from it
pub known_push : (entries : List (Pair Event)) (p : Pair Event) → known_of (entries ++ p ∷ []) ≡ learn p (known_of entries)
known_push entries p = fold-append (λ k p. learn p k) nothing_known entries (p ∷ [])

-- a range that has one more entry is as after this evaluation
pub state_push : (entries : List (Pair Event)) (p : Pair Event) → state_of (entries ++ p ∷ []) ≡ evaluated (state_of entries) p
state_push entries p = fold-append evaluated no_state entries (p ∷ [])

module _ (head : Head) where
  -- one more entry of this actor
  pub known_same : (id : ActorId) (history : List (Entry Event)) (e : Entry Event) → e.actor ≡ id
      → known_of (own (protocol head) id (history ++ e ∷ [])) ≡ learn (pair e (named_in (protocol head) history e.event)) (known_of (own (protocol head) id history))
  known_same id history e same =
      ap known_of (own-push_same (protocol head) id history e same)
      ∙ known_push (own (protocol head) id history) (pair e (named_in (protocol head) history e.event))

  pub state_same : (id : ActorId) (history : List (Entry Event)) (e : Entry Event) → e.actor ≡ id
      → state_of (own (protocol head) id (history ++ e ∷ [])) ≡ evaluated (state_of (own (protocol head) id history)) (pair e (named_in (protocol head) history e.event))
  state_same id history e same =
      ap state_of (own-push_same (protocol head) id history e same)
      ∙ state_push (own (protocol head) id history) (pair e (named_in (protocol head) history e.event))

  -- one more entry of another actor
  pub known_other : (id : ActorId) (history : List (Entry Event)) (e : Entry Event) → e.actor ≢ id
      → known_of (own (protocol head) id (history ++ e ∷ [])) ≡ known_of (own (protocol head) id history)
  known_other id history e differ = ap known_of (own-push_other (protocol head) id history e differ)

  pub state_other : (id : ActorId) (history : List (Entry Event)) (e : Entry Event) → e.actor ≢ id
      → state_of (own (protocol head) id (history ++ e ∷ [])) ≡ state_of (own (protocol head) id history)
  state_other id history e differ = ap state_of (own-push_other (protocol head) id history e differ)

  -- a run that is one entry longer
  pub run_push : (history : List (Entry Event)) (e : Entry Event) → IsRun head history → MayFollow (protocol head) history e → IsRun head (history ++ e ∷ [])
  run_push history e run may = fine-push (protocol head) history e run may
