-- Learning: a learn meets the commit that it asks for where anyone, its own session too, was told of that commit before; "not yet" is
-- told only where nobody was. Own profile.
use Rattle.std.specs.Prelude.{◌≡◌, Some, List, [], ◌∷◌, ◌++◌, Any, ⊤}
use Rattle.pc_base.specs.declared.entry.Entry.{Entry}
use Rattle.pc_base.specs.declared.transaction.TxnId.{TxnId}
use Rattle.pc_proto.specs.declared.answer.Answer.TheVariants as answers
use Rattle.pc_proto.specs.declared.call.Call.TheVariants as calls
use Rattle.pc_proto.specs.declared.event.Event.{Event}
use Rattle.pc_proto.specs.declared.event.Event.TheVariants as events
use Rattle.pc_world.specs.After.{known_at}
use Rattle.pc_world.specs.Caused.{TellsCommitted}
use Rattle.pc_world.specs.Known.{Known, call_of}
use Rattle.pc_world.specs.Local.{Head}

-- Some entry of these tells that the transaction committed.
abbrev pub WasCommitTold : TxnId → List (Entry Event) → Type 0
WasCommitTold id before = Any (λ e. TellsCommitted id e.event) before

-- What is met is the commit that the open learn asks for, once; and where a learn is told "not yet", no entry before tells that its
-- transaction committed.
abbrev pub LearnsTruly : Known → List (Entry Event) → Event → Type 0
LearnsTruly k before (events.Meet id step) = (call_of k ≡ Some (calls.Learn id)) × (k.met_now ≡ [])
LearnsTruly k before (events.Tell answers.NotYet) = (id : TxnId) → call_of k ≡ Some (calls.Learn id) → WasCommitTold id before → ⊥
LearnsTruly k before _ = ⊤

-- Each entry of the history is so, by what its actor knew then and all entries before it.
abbrev pub AllLearnTruly : Head → List (Entry Event) → Type 0
AllLearnTruly head history =
    (before : List (Entry Event)) (e : Entry Event) (later : List (Entry Event)) → history ≡ before ++ e ∷ later → LearnsTruly (known_at head e.actor before) before e.event
