use Rattle.pc_read.proofs.Spelled.{reports_are_spelled}
use Rattle.pc_read.proofs.laws.reports_are_spelled.Goals as goal

pub returns : goal.returns
returns c = reports_are_spelled
