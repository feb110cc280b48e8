use Rattle.pc_spelling.proofs.Events.{entry}
use Rattle.pc_spelling.proofs.entries_are_spelled.Goals as goal

pub returns : goal.returns
returns c = entry.takes
