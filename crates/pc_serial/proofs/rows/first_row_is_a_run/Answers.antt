use Rattle.pc_serial.proofs.FirstRun.{first_row_is_a_run}
use Rattle.pc_serial.proofs.rows.first_row_is_a_run.Goals as goal

pub returns : goal.returns
returns c = first_row_is_a_run
