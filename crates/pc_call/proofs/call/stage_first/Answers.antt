use Rattle.std.proofs.Common.{Option, sym, ap, ◌∙◌}
use Rattle.std.specs.Option.{option_copied}
use Rattle.pc_call.specs.Opening.{staged_by}
use Rattle.pc_wave.specs.declared.message.Message.{Message}
use Rattle.pc_call.proofs.call.stage_first.Goals as goal

pub returns-in-None : goal.returns-in-None
returns-in-None c = sym (ap (λ (o : Option Message). staged_by o c.args.txn.now) (sym c.first_to_send.ensures ∙ ap option_copied c.in-None.is))
