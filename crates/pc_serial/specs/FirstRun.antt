-- The history of the smallest workload is a run, and legal.
use Rattle.pc_serial.specs.FirstRow.{first_head, first_history}
use Rattle.pc_world.specs.Legal.{IsLegal}
use Rattle.pc_world.specs.Run.{IsRun}

-- It is a run: what is proved of runs holds of it, so that it is legal.
pub record FirstRowIsARun : Type 0 where
  pub run : IsRun first_head first_history
  pub legal : IsLegal first_head first_history
