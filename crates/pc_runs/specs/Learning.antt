-- How the clients of a workload learn of commits, in the order of their entries: a learn meets the commit where the session that began the
-- transaction was told of it. Own profile.
use Rattle.std.specs.Prelude.{◌≡◌, Some, List, [], ⊤}
use Rattle.pc_base.specs.declared.transaction.TxnId.{TxnId}
use Rattle.pc_desk.specs.Keeping.{EachAfter}
use Rattle.pc_history.specs.declared.pair.Pair.{Pair}
use Rattle.pc_history.specs.Own.{entries_of}
use Rattle.pc_proto.specs.declared.answer.Answer.TheVariants as answers
use Rattle.pc_proto.specs.declared.call.Call.TheVariants as calls
use Rattle.pc_proto.specs.declared.event.Event.{Event}
use Rattle.pc_proto.specs.declared.event.Event.TheVariants as events
use Rattle.pc_script.specs.Learning.{WasCommitTold}
use Rattle.pc_turns.specs.Clients.{share_of}
use Rattle.pc_turns.specs.Order.{entries_by}
use Rattle.pc_world.specs.Known.{Known, call_of, known_of}

-- In a learn of this transaction, after these entries: what is met is its commit, once; and where "not yet" is told, the session that began
-- the transaction was not told of that commit before.
abbrev pub LearnsOf : TxnId → Known → List (Pair Event) → Event → Type 0
LearnsOf id k before (events.Meet other step) = (other ≡ id) × (k.met_now ≡ [])
LearnsOf id k before (events.Tell answers.NotYet) = WasCommitTold id (entries_of (entries_by id.session before)) → ⊥
LearnsOf id k before _ = ⊤

-- The next of the clients' entries is so, if a learn of its actor is open.
abbrev pub LearnsNext : List (Pair Event) → Pair Event → Type 0
LearnsNext before p =
    (id : TxnId) → call_of (known_of (share_of p.entry.actor before)) ≡ Some (calls.Learn id)
    → LearnsOf id (known_of (share_of p.entry.actor before)) before p.entry.event

-- Each of the clients' entries is so, after all of them that come before it.
abbrev pub LearnInOrder : List (Pair Event) → Type 0
LearnInOrder order = EachAfter LearnsNext [] order
