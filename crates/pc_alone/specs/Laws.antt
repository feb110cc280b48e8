-- A law of one session that follows its workload, in turns or on threads. Own profile.
use Rattle.std.specs.Prelude.{ℕ, Bool, List}
use Rattle.pc_base.specs.declared.actor.ActorId.{ActorId}
use Rattle.pc_base.specs.declared.entry.Entry.{Entry}
use Rattle.pc_alone.specs.OneSession.{IsForOneSession}
use Rattle.pc_proto.specs.declared.event.Event.{Event}
use Rattle.pc_runs.specs.Follows.{FollowsWork}
use Rattle.pc_serial.specs.Alone.{IsAlone}
use Rattle.pc_work.specs.declared.workload.Workload.{Workload}
use Rattle.pc_world.specs.Local.{Head}
use Rattle.pc_world.specs.Run.{IsRun}

-- One session that follows such a workload, which has no recoverer, is alone: its wire is quiet, and it keeps what it owes beside the protocol, also where its list ends
-- before its script.
abbrev pub OneSessionIsAlone : Type 0
OneSessionIsAlone =
    (work : Workload) (rules : ActorId → ℕ → ℕ → Bool) (head : Head) (history : List (Entry Event))
    → IsRun head history → FollowsWork work rules head history → IsForOneSession work → IsAlone head history
