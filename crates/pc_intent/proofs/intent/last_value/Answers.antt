use Rattle.std.proofs.Common.{arith}
use Rattle.std.proofs.lemmas.Grind.{common_steps}
use Rattle.pc_intent.proofs.Rising.{last_value_is}
use Rattle.pc_intent.proofs.intent.last_value.Goals as goal

pub returns-in_err-write : goal.returns-in_err-write
returns-in_err-write c = let is = last_value_is c.args.intent.now c.requires in grind (arith, common_steps)

pub returns : goal.returns
returns c = let is = last_value_is c.args.intent.now c.requires in grind (arith, common_steps)
