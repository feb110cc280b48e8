use Rattle.pc_runs.proofs.Learnless.{transactions_learn_nothing}
use Rattle.pc_runs.proofs.transactions_learn_nothing.Goals as goal

pub returns : goal.returns
returns g c = transactions_learn_nothing _
