use Rattle.std.proofs.Common.{◌∙◌}
use Rattle.pc_intent.proofs.Rising.{last_is_got}
use Rattle.pc_intent.proofs.intent.last.Goals as goal

pub returns : goal.returns
returns c = c.last.ensures.value ∙ last_is_got c.args.writes.now
