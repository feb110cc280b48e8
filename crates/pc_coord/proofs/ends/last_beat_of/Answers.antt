use Rattle.pc_coord.proofs.Leaving.{beat_anchored}
use Rattle.pc_coord.proofs.ends.last_beat_of.Goals as goal

pub returns-in-Some : goal.returns-in-Some
returns-in-Some c = record {
  unsent = c.last_beat.ensures.unsent;
  made = beat_anchored c.args.txn.now c.args.reading c.in-Some.anchor c.last_beat.result c.last_beat.ensures.made;
  stands = λ set k s gives opened read not_over suits. c.last_beat.ensures.stands set k s gives opened read c.in-Some.is not_over suits;
}
