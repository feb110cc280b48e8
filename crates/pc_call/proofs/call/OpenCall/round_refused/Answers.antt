use Rattle.std.proofs.Common.{Some, sym, ap, ◌∙◌}
use Rattle.std.specs.Option.{option_map}
use Rattle.pc_call.proofs.Blocking.{refusal_told}
use Rattle.pc_proto.specs.declared.answer.Answer.TheVariants as answers
use Rattle.pc_call.proofs.call.OpenCall.round_refused.Goals as goal

pub returns-in-Some-clause-told : goal.returns-in-Some-clause-told
returns-in-Some-clause-told c = λ session clock begun number set start k x counted w due refused other.
    refusal_told session clock begun set start x c.args.self.purpose c.args.self.wave counted w k number c.args.conflict.now due refused other (Some (answers.Blocked c.in-Some.holder))
    (ap (option_map answers.Blocked) (sym c.in-Some.is ∙ c.holder.ensures))
