use Rattle.pc_coord.proofs.Ongoing.{proving_ok}
use Rattle.pc_coord.proofs.serving.prove_first.Goals as goal

pub returns-in-Some : goal.returns-in-Some
returns-in-Some c = record {
  unsent = c.prove.ensures.unsent;
  outbox = c.prove.ensures.outbox;
  takes = c.prove.ensures.takes;
  proves = proving_ok _ _ _ c.prove.ensures.purpose;
  some = c.prove.ensures.some;
  stands = λ set k s why fresh suits is behind outbox may many. c.prove.ensures.stands set k s why fresh suits is behind c.in-Some.is outbox may many;
}
