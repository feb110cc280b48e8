use Rattle.pc_spelling.proofs.TellsBare.{runs_tell_bare}
use Rattle.pc_spelling.proofs.runs_tell_bare.Goals as goal

pub returns : goal.returns
returns c = runs_tell_bare
