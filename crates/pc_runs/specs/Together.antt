-- The sessions and the recoverers of a workload together: how they go on, and what they leave.
use Rattle.std.specs.Prelude.{◌≡◌, ℕ, ◌+◌, Bool, Some, List, ◌++◌, length, map, slice_get}
use Rattle.pc_base.specs.declared.actor.ActorId.{ActorId}
use Rattle.pc_closing.specs.Leaving.{Leaver}
use Rattle.pc_history.specs.declared.pair.Pair.{Pair}
use Rattle.pc_proto.specs.declared.event.Event.{Event}
use Rattle.pc_rounds.specs.Counted.{CountedMeaning, entries_made}
use Rattle.pc_runs.specs.Recoverers.{AreRecoverers, HasLeftInRounds, HaveNoRoundLeft, HaveRecovererClocks, RecoverersSayHeldUp}
use Rattle.pc_runs.specs.Runners.{AreRunOut, AreRunners, HasLeftAs, HaveClocks, SaysAllHeldUp}
use Rattle.pc_scripted.specs.Scripted.{ScriptedMeaning, own_list}
use Rattle.pc_work.specs.declared.workload.Workload.{Workload}
use Rattle.pc_world.specs.Known.Traffic.{Sent}

-- Sessions with their scripts, and recoverers with their rounds.
pub record ClientsMeaning (C : Type 0) : Type 0 where
  pub sessions : List (ScriptedMeaning C)
  pub recoverers : List (CountedMeaning C)

-- Their own lists, in order.
abbrev pub client_lists : {C : Type 0} → ClientsMeaning C → List (List (Pair Event))
client_lists c = map own_list c.sessions ++ map entries_made c.recoverers

-- These are the workload's sessions and its recoverers.
pub record AreClients {C : Type 0} (work : Workload) (c : ClientsMeaning C) : Type 0 where
  pub runners : AreRunners work c.sessions
  pub recoverers : AreRecoverers work c.recoverers

-- The clock of each has the rule of its work.
pub record HaveClientClocks {C : Type 0} (rule : C → ℕ → ℕ → Bool) (rules : ActorId → ℕ → ℕ → Bool) (work : Workload) (c : ClientsMeaning C) : Type 0 where
  pub sessions : HaveClocks rule rules work c.sessions
  pub recoverers : HaveRecovererClocks rule rules work c.recoverers

-- Where one of them knows that its message was refused by a full range, this says that it is held up.
pub record ClientsSayHeldUp {C : Type 0} (held : ActorId → Sent → Bool) (c : ClientsMeaning C) : Type 0 where
  pub sessions : SaysAllHeldUp held c.sessions
  pub recoverers : RecoverersSayHeldUp held c.recoverers

-- Each list has ended, or its script is over or its rounds are made.
pub record AreAtEnds {C : Type 0} (c : ClientsMeaning C) : Type 0 where
  pub sessions : AreRunOut c.sessions
  pub recoverers : HaveNoRoundLeft c.recoverers

-- All have left, the sessions first, in order.
pub record HaveAllLeft {C : Type 0} (work : Workload) (rules : ActorId → ℕ → ℕ → Bool) (c : ClientsMeaning C) (leavers : List Leaver) : Type 0 where
  pub many : length leavers ≡ length c.sessions + length c.recoverers
  pub sessions : (index : ℕ) (s : ScriptedMeaning C) (l : Leaver) → slice_get c.sessions index ≡ Some s → slice_get leavers index ≡ Some l → HasLeftAs work rules index s l
  pub recoverers :
      (index : ℕ) (r : CountedMeaning C) (l : Leaver) → slice_get c.recoverers index ≡ Some r → slice_get leavers (length c.sessions + index) ≡ Some l
      → HasLeftInRounds work rules index r l
