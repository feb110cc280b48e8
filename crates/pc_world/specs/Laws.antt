-- Laws of evaluation and of runs.
use Rattle.std.specs.Prelude.{◌≡◌, ℕ, ◌+◌, ◌^◌, ◌≤◌, All, Contains, List, ◌++◌, length, slice_get, Some}
use Rattle.pc_base.specs.declared.actor.ActorId.{ActorId}
use Rattle.pc_base.specs.declared.entry.Entry.{Entry}
use Rattle.pc_history.specs.History.{AllKept}
use Rattle.pc_history.specs.Own.{own}
use Rattle.pc_history.specs.World.{IsWorld}
use Rattle.pc_proto.specs.declared.event.Event.{Event}
use Rattle.pc_proto.specs.declared.request.Request.{Request}
use Rattle.pc_proto.specs.Stamps.{event_stamps, reply_stamps, request_stamps}
use Rattle.pc_world.specs.Evaluation.{reply, state_after}
use Rattle.pc_world.specs.Known.{known_of}
use Rattle.pc_world.specs.Local.{Head}
use Rattle.pc_world.specs.Named.{request_in}
use Rattle.pc_world.specs.RangeState.{RangeState}
use Rattle.pc_world.specs.Run.{IsRun, clock_end, protocol}
use Rattle.pc_world.specs.Stamps.{AllAtMost, AllBelowGreatest, HasRoom, all_stamps}
use Rattle.pc_world.specs.StateOf.{state_of}

-- Every timestamp of the reply and of the range after the request is at most the one after this.
pub record RaisesByOne (most : ℕ) (request : Request) (s : RangeState) : Type 0 where
  pub told : AllAtMost (most + 1) (reply_stamps (reply request s))
  pub after : AllAtMost (most + 1) (all_stamps (state_after request s))

-- Evaluation raises timestamps by at most one: of any request, on any range, however great they are.
abbrev pub EvaluationRaisesByOne : Type 0
EvaluationRaisesByOne =
    (most : ℕ) (request : Request) (s : RangeState)
    → AllAtMost most (request_stamps request) → AllAtMost most (all_stamps s) → RaisesByOne most request s

-- A beginning of a run is a run.
abbrev pub BeginningsAreRuns : Type 0
BeginningsAreRuns = (head : Head) (front back : List (Entry Event)) → IsRun head (front ++ back) → IsRun head front

-- In a run the entry at a place has that step.
abbrev pub StepsArePlaces : Type 0
StepsArePlaces =
    (head : Head) (history : List (Entry Event)) (place : ℕ) (e : Entry Event)
    → IsRun head history → slice_get history place ≡ Some e → e.step ≡ place

-- In a run every timestamp of an entry is at most the clock's last one, plus one for each step up to its own.
abbrev pub RunsAreKept : Type 0
RunsAreKept = (head : Head) (history : List (Entry Event)) → IsRun head history → AllKept (protocol head) history

-- After a run every timestamp of a range is at most the clock's last one, plus one for each entry, and so is every one that an
-- actor knows of.
pub record IsBounded (head : Head) (history : List (Entry Event)) (id : ActorId) : Type 0 where
  pub range : AllAtMost (clock_end + length history) (all_stamps (state_of (own (protocol head) id history)))
  pub known : (known_of (own (protocol head) id history)).top ≤ clock_end + length history

-- Every run leaves ranges and actors so bounded.
abbrev pub RunsAreBounded : Type 0
RunsAreBounded = (head : Head) (history : List (Entry Event)) (id : ActorId) → IsRun head history → IsBounded head history id

-- In a run of at most 2^64 entries every timestamp is below the greatest.
abbrev pub TimestampsAreBelowGreatest : Type 0
TimestampsAreBelowGreatest =
    (head : Head) (history : List (Entry Event)) → IsRun head history → length history ≤ 2 ^ 64
    → All (λ e. AllBelowGreatest (event_stamps e.event)) history

-- After a run of at most 2^64 entries there is room on every range for every request that was sent.
abbrev pub SentRequestsHaveRoom : Type 0
SentRequestsHaveRoom =
    (head : Head) (history : List (Entry Event)) (id : ActorId) (e : Entry Event) (request : Request)
    → IsRun head history → length history ≤ 2 ^ 64 → Contains history e → request_in e.event ≡ Some request
    → HasRoom request (state_of (own (protocol head) id history))

-- The protocol is a world, whatever its actors are.
abbrev pub ProtocolIsWorld : Type 0
ProtocolIsWorld = (head : Head) → IsWorld (protocol head)
