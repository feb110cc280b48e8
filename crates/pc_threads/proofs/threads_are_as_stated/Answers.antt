use Rattle.pc_threads.proofs.OnThreads.{threads_are_as_stated}
use Rattle.pc_threads.proofs.threads_are_as_stated.Goals as goal

pub returns : goal.returns
returns g c = threads_are_as_stated _
