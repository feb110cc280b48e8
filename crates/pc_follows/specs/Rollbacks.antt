-- How a rollback is told: of a transaction that has an anchor only once its abort was heard in the call; and never by the answer that it was
-- aborted, for a transaction that somebody else has aborted is rolled back as well, and its cause told. Own profile.
use Rattle.std.specs.Prelude.{◌≡◌, ℕ, Some, List, Any, IsTrue, ⊤}
use Rattle.pc_proto.specs.declared.answer.Answer.TheVariants as answers
use Rattle.pc_proto.specs.declared.call.Call.TheVariants as calls
use Rattle.pc_proto.specs.declared.event.Event.{Event}
use Rattle.pc_proto.specs.declared.event.Event.TheVariants as events
use Rattle.pc_proto.specs.Requests.{is_abort_of}
use Rattle.pc_world.specs.Known.{Known, call_of, open_txn}
use Rattle.pc_world.specs.Known.Transactions.{Txn}

-- A rollback of a transaction that has an anchor is told only once its abort was heard in the call.
abbrev pub AbortsFirst : Known → Event → Type 0
AbortsFirst k (events.Tell (answers.RolledBack id why)) =
    (t : Txn) (anchor : List ℕ) → open_txn k ≡ Some t → t.anchor ≡ Some anchor → Any (λ h. IsTrue (is_abort_of t.id h.request)) k.heard_now
AbortsFirst k _ = ⊤

-- No rollback is told that its transaction was aborted.
abbrev pub TellsRollbacks : Known → Event → Type 0
TellsRollbacks k (events.Tell (answers.Aborted why)) = call_of k ≡ Some calls.Rollback → ⊥
TellsRollbacks k _ = ⊤
