-- A workload of one session, in which nobody stands in its way.
use Rattle.std.specs.Prelude.{◌≡◌, false, ◌⊎◌, None, Some, [], length}
use Rattle.pc_work.specs.declared.workload.Workload.{Workload}

-- The workload has one session and no recoverer and states no turn, and each put is told only once its range has answered.
pub record IsForOneSession (work : Workload) : Type 0 where
  pub one : length work.sessions ≡ 1
  pub unaided : work.recoverers ≡ []
  pub no_turns : (work.turns ≡ None) ⊎ (work.turns ≡ Some [])
  pub unpipelined : work.pipelining ≡ false
