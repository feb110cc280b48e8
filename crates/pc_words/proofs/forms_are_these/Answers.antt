use Rattle.pc_words.proofs.Found.{forms_are_these}
use Rattle.pc_words.proofs.forms_are_these.Goals as goal

pub returns : goal.returns
returns c = forms_are_these
