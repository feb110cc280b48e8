use Rattle.pc_implicit.proofs.Epochs.{other_records_are_past}
use Rattle.pc_implicit.proofs.laws.other_records_are_past.Goals as goal

pub returns : goal.returns
returns c = other_records_are_past
