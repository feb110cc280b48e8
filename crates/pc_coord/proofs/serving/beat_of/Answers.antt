use Rattle.pc_coord.proofs.Leaving.{beat_anchored}
use Rattle.pc_coord.proofs.serving.beat_of.Goals as goal

pub returns-in-Some : goal.returns-in-Some
returns-in-Some c = record {
  made = beat_anchored c.args.txn.now c.args.reading c.in-Some.anchor c.beat.result c.beat.ensures.made;
  stands = λ set k later why outbox asked asks suits silent. c.beat.ensures.stands set k later why outbox asked asks suits silent c.in-Some.is;
}
