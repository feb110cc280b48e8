use Rattle.std.proofs.Common.{arith}
use Rattle.std.proofs.lemmas.Grind.{common_steps}
use Rattle.pc_intent.proofs.Rising.{last_seq_is}
use Rattle.pc_intent.proofs.intent.last_seq.Goals as goal

pub returns : goal.returns
returns c = let is = last_seq_is c.args.intent.now c.requires in grind (arith, common_steps)
