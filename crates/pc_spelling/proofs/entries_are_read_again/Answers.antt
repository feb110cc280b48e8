use Rattle.pc_spelling.proofs.Events.{entry}
use Rattle.pc_spelling.proofs.entries_are_read_again.Goals as goal

pub returns : goal.returns
returns c = entry.again
