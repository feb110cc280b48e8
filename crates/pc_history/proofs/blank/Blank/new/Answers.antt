use Rattle.pc_history.proofs.Opening.{opening_table}
use Rattle.pc_history.proofs.blank.Blank.new.Goals as goal

pub of_words-requires : goal.of_words-requires
of_words-requires g c = opening_table (g.W.World.sense c.args.world) c.args.world
