-- What the sessions and recoverers of a workload have left once they went to their ends. Own profile.
use Rattle.std.specs.Prelude.{ℕ, Bool, List}
use Rattle.pc_base.specs.declared.actor.ActorId.{ActorId}
use Rattle.pc_closing.specs.Leaving.{Leaver}
use Rattle.pc_runs.specs.Laws.{HaveFinished}
use Rattle.pc_runs.specs.Together.{AreAtEnds, AreClients, ClientsMeaning, HaveClientClocks}
use Rattle.pc_work.specs.declared.workload.Workload.{Workload}

-- The workload's sessions and recoverers, with the clocks of their work, went to their ends so, and left this when they finished.
pub record HaveLeft {C : Type 0} (rule : C → ℕ → ℕ → Bool) (rules : ActorId → ℕ → ℕ → Bool) (work : Workload) (Went : ClientsMeaning C → Type 0) (leavers : List Leaver) : Type 0 where
  pub clients : ClientsMeaning C
  pub are : AreClients work clients
  pub clocks : HaveClientClocks rule rules work clients
  pub over : AreAtEnds clients
  pub went : Went clients
  pub finished : HaveFinished rule clients leavers
