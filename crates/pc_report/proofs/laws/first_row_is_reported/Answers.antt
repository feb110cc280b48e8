use Rattle.pc_report.proofs.FirstReport.{first_row_is_reported}
use Rattle.pc_report.proofs.laws.first_row_is_reported.Goals as goal

pub returns : goal.returns
returns c = first_row_is_reported
