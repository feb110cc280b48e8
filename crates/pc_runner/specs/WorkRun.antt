-- The run of a workload. Own profile.
use Rattle.std.specs.Prelude.{ℕ, Bool, List}
use Rattle.pc_base.specs.declared.actor.ActorId.{ActorId}
use Rattle.pc_base.specs.declared.entry.Entry.{Entry}
use Rattle.pc_proto.specs.declared.event.Event.{Event}
use Rattle.pc_runs.specs.Follows.{FollowsWork}
use Rattle.pc_runs.specs.Runners.{head_in_work}
use Rattle.pc_work.specs.declared.workload.Workload.{Workload}
use Rattle.pc_world.specs.Run.{IsRun}

-- The history is a run of the protocol, and follows the workload, where these are the rules of the clocks that were handed in.
pub record IsWorkRun (work : Workload) (rules : ActorId → ℕ → ℕ → Bool) (history : List (Entry Event)) : Type 0 where
  pub run : IsRun (head_in_work work) history
  pub follows : FollowsWork work rules (head_in_work work) history
