-- What a replay keeps of a range: all of it, or its records and marks alone. Where nothing is staged no write commits anything by being
-- present, so that these say all.
use Rattle.std.specs.Prelude.{◌≡◌, Bool, true, false, ◌||◌, if◌then◌else◌, All, List, Option, None, Some, [], is_some}
use Rattle.pc_base.specs.Bound.{no_bound}
use Rattle.pc_base.specs.declared.entry.Entry.{Entry}
use Rattle.pc_base.specs.declared.transaction.TxnId.{TxnId}
use Rattle.pc_proto.specs.declared.event.Event.{Event}
use Rattle.pc_proto.specs.declared.event.Event.TheVariants as events
use Rattle.pc_proto.specs.declared.request.Request.{Request}
use Rattle.pc_proto.specs.declared.request.Request.TheVariants as requests
use Rattle.pc_proto.specs.RecordRows.Push.{is_staged}
use Rattle.pc_proto.specs.Requests.{is_stage, subject}
use Rattle.pc_proto.specs.Table.{Table, place_of}
use Rattle.pc_world.specs.RangeState.{RangeState}

-- A range of which nothing is kept but these records and marks.
abbrev pub of_table : Table → RangeState
of_table table = record { versions = []; intents = []; bound = no_bound; table = table }

-- What is kept of a range: all of it, or its records and marks alone.
abbrev pub seen : Bool → RangeState → RangeState
seen true s = s
seen false s = of_table s.table

-- The request, unless it changes nothing that is kept.
abbrev pub kept_of : Bool → Option Request → Option Request
kept_of whole None = None
kept_of whole (Some request) = if whole || is_some (subject request) then Some request else None

-- The event sends a stage.
abbrev pub sends_a_stage : Event → Bool
sends_a_stage (events.Send number range request) = is_stage request
sends_a_stage _ = false

-- No entry of the history sends a stage.
abbrev pub SendsNoStage : List (Entry Event) → Type 0
SendsNoStage history = All (λ e. sends_a_stage e.event ≡ false) history

-- No record of the range is staging.
abbrev pub HasNoStage : RangeState → Type 0
HasNoStage s = (id : TxnId) → is_staged (place_of id s.table) ≡ false
