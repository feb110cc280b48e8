use Rattle.pc_spelling.proofs.Journal.{one_to_one}
use Rattle.pc_spelling.proofs.journal_is_one_to_one.Goals as goal

pub returns : goal.returns
returns c = one_to_one
