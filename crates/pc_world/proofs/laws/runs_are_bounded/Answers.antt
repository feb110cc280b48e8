use Rattle.pc_world.proofs.Kept.{run_state_stamps, run_top}
use Rattle.pc_world.proofs.laws.runs_are_bounded.Goals as goal

pub returns : goal.returns
returns c head history id run = record { range = run_state_stamps head id history run; known = run_top head id history run }
