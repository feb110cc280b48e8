use Rattle.std.proofs.Common.{sym, ap, ◌∙◌}
use Rattle.std.specs.Option.{option_copied}
use Rattle.pc_call.specs.Stages.{holder_of}
use Rattle.pc_call.proofs.stages.eighth_holder.Goals as goal

pub returns-in-Some : goal.returns-in-Some
returns-in-Some c = c.holder_met.ensures ∙ sym (ap holder_of (sym c.first_at_eighth.ensures ∙ ap option_copied c.in-Some.is))

pub returns-in-None : goal.returns-in-None
returns-in-None c = sym (ap holder_of (sym c.first_at_eighth.ensures ∙ ap option_copied c.in-None.is))
