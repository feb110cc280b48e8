use Rattle.std.proofs.Common.{Some}
use Rattle.pc_runner.proofs.run.run_turns.Given as goal

-- the table that was just made
abbrev pub ghosts-turns_on : goal.ghosts-turns_on
ghosts-turns_on g a = record { table = a.blank.table; world = Some a.blank.world }
