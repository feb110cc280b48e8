use Rattle.pc_implicit.proofs.Epochs.{open_records_are_past}
use Rattle.pc_implicit.proofs.laws.open_records_are_past.Goals as goal

pub returns : goal.returns
returns c = open_records_are_past
