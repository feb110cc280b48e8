use Rattle.std.proofs.Common.{Some}
use Rattle.pc_history_bench.proofs.main.Given as goal

-- the tables that were just made
abbrev pub ghosts-on_four : goal.ghosts-on_four
ghosts-on_four g a = record { table = a.blank.table; world = Some a.blank.world }

abbrev pub ghosts-on_one : goal.ghosts-on_one
ghosts-on_one g a = record { table = a.blank.table; world = Some a.blank.world }
