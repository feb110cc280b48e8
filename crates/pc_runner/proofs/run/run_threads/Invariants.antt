use Rattle.std.proofs.Common.{Some}
use Rattle.pc_runner.proofs.run.run_threads.Given as goal

-- the table that was just made
abbrev pub ghosts-threads_on : goal.ghosts-threads_on
ghosts-threads_on g a = record { table = a.blank.table; world = Some a.blank.world }
