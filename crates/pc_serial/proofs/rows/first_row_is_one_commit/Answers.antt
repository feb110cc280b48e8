use Rattle.pc_serial.proofs.FirstRow.{first_row_is_one_commit}
use Rattle.pc_serial.proofs.rows.first_row_is_one_commit.Goals as goal

pub returns : goal.returns
returns c = first_row_is_one_commit
