use Rattle.pc_serial.proofs.rows.staged_row_runs_plainly.Goals as goal
use Rattle.pc_serial.proofs.StagedAlone.{staged_row_runs_plainly}

pub returns : goal.returns
returns c = staged_row_runs_plainly
