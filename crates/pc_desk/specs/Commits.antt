-- Which commits an actor was told of in its own list, and at which place. Own profile.
use Rattle.std.specs.Prelude.{◌≡◌, ℕ, cond, Option, None, Some, List, slice_get, Any}
use Rattle.std.specs.BTreeMap.{is_at}
use Rattle.pc_base.specs.declared.transaction.TxnId.{TxnId}
use Rattle.pc_base.specs.Transaction.{txn_cmp}
use Rattle.pc_history.specs.declared.pair.Pair.{Pair}
use Rattle.pc_proto.specs.declared.answer.Answer.TheVariants as answers
use Rattle.pc_proto.specs.declared.event.Event.{Event}
use Rattle.pc_proto.specs.declared.event.Event.TheVariants as events
use Rattle.pc_world.specs.Caused.{TellsCommitted}

-- The transaction that the event tells committed, if it tells one.
abbrev pub commit_told_by : Event → Option TxnId
commit_told_by (events.Tell (answers.Committed id ts)) = Some id
commit_told_by _ = None

-- Some entry of the list tells that the transaction committed.
abbrev pub WasTold : TxnId → List (Pair Event) → Type 0
WasTold id own = Any (λ p. TellsCommitted id p.entry.event) own

-- The entry at this place of the list tells that the transaction committed.
pub record TellsCommitAt (id : TxnId) (own : List (Pair Event)) (place : ℕ) : Type 0 where
  pub pair : Pair Event
  pub there : slice_get own place ≡ Some pair
  pub tells : TellsCommitted id pair.entry.event

-- A place at which the list tells that the transaction committed; none only where no entry tells it.
abbrev pub IsCommitPlace : TxnId → List (Pair Event) → Option ℕ → Type 0
IsCommitPlace id own None = WasTold id own → ⊥
IsCommitPlace id own (Some place) = TellsCommitAt id own place

-- Each transaction is given such a place.
pub record HasCommitPlaces (places : TxnId → Option ℕ) (own : List (Pair Event)) : Type 0 where
  pub each : (id : TxnId) → IsCommitPlace id own (places id)

-- The transaction that was told committed is given this place now, and all others the one that they had.
abbrev pub KeepsPlace : Option TxnId → ℕ → (TxnId → Option ℕ) → (TxnId → Option ℕ) → Type 0
KeepsPlace None place old new = (id : TxnId) → new id ≡ old id
KeepsPlace (Some told) place old new = (id : TxnId) → new id ≡ cond (is_at (txn_cmp told) id) (Some place) (old id)
