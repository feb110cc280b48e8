use Rattle.pc_read.proofs.Spelled.{reports_are_read}
use Rattle.pc_read.proofs.laws.reports_are_read.Goals as goal

pub returns : goal.returns
returns c = reports_are_read
