use Rattle.std.proofs.Common.{Option, sym, ap, ◌∙◌}
use Rattle.std.specs.Option.{option_copied}
use Rattle.pc_call.specs.Ended.{landed_by}
use Rattle.pc_wave.specs.declared.message.Message.{Message}
use Rattle.pc_call.proofs.proves.land_awaited.Goals as goal

pub returns-in-Some : goal.returns-in-Some
returns-in-Some c = c.land.ensures ∙ sym (ap (λ (o : Option Message). landed_by o c.args.ts c.args.step c.args.txn.now) (sym c.sent_under.ensures ∙ ap option_copied c.in-Some.is))

pub returns-in-None : goal.returns-in-None
returns-in-None c = sym (ap (λ (o : Option Message). landed_by o c.args.ts c.args.step c.args.txn.now) (sym c.sent_under.ensures ∙ ap option_copied c.in-None.is))
