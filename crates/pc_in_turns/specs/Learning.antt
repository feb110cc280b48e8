-- How the sessions of a workload learn of commits while they go in turns. Own profile.
use Rattle.std.specs.Prelude.{◌≡◌, ℕ, ◌+◌, ◌≤◌, Some, List, ◌++◌, length, slice_get, All, ⊤}
use Rattle.pc_base.specs.declared.actor.ActorId.{ActorId}
use Rattle.pc_base.specs.declared.actor.ActorId.TheVariants as actors
use Rattle.pc_base.specs.declared.transaction.TxnId.{TxnId}
use Rattle.pc_desk.specs.Commits.{WasTold}
use Rattle.pc_desk.specs.Keeping.{EachAfter}
use Rattle.pc_history.specs.declared.pair.Pair.{Pair}
use Rattle.pc_proto.specs.declared.event.Event.{Event}
use Rattle.pc_runs.specs.Learning.{LearnsNext}
use Rattle.pc_scripted.specs.Scripted.{ScriptedMeaning, own_list}
use Rattle.pc_turns.specs.Order.{entries_by}

-- The session that began this transaction, if it is one of these, was not told of its commit.
abbrev pub OwnerWasUntold : {C : Type 0} → TxnId → List (ScriptedMeaning C) → Type 0
OwnerWasUntold {C} id sessions = (index : ℕ) (s : ScriptedMeaning C) → index + 1 ≡ id.session → slice_get sessions index ≡ Some s → WasTold id (own_list s) → ⊥

-- If the actor is a session, it is one of so many.
abbrev pub IsNoOtherSession : ℕ → ActorId → Type 0
IsNoOtherSession count (actors.Session number) = (1 ≤ number) × (number ≤ count)
IsNoOtherSession count _ = ⊤

-- These are the clients' entries: each session's own list is its share of them, and they are of no other session.
pub record AreEntriesOf {C : Type 0} (sessions : List (ScriptedMeaning C)) (order : List (Pair Event)) : Type 0 where
  pub each : (index : ℕ) (s : ScriptedMeaning C) → slice_get sessions index ≡ Some s → own_list s ≡ entries_by (index + 1) order
  pub only : All (λ p. IsNoOtherSession (length sessions) p.entry.actor) order

-- What the session made since, behind the entries of these sessions, learns in their order.
abbrev pub LearnsBehind : {C : Type 0} → List (ScriptedMeaning C) → ScriptedMeaning C → ScriptedMeaning C → Type 0
LearnsBehind sessions old new =
    (order part : List (Pair Event)) → AreEntriesOf sessions order → own_list new ≡ own_list old ++ part → EachAfter LearnsNext order part
