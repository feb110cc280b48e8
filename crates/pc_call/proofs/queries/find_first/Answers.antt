use Rattle.std.proofs.Common.{sym, ap, ◌∙◌}
use Rattle.std.specs.Option.{option_copied}
use Rattle.pc_call.specs.Queries.{found_in}
use Rattle.pc_call.proofs.queries.find_first.Goals as goal

pub returns-in-Some : goal.returns-in-Some
returns-in-Some c = c.find.ensures ∙ sym (ap (λ o. found_in o c.args.txn.now) (sym c.first_blocked.ensures ∙ ap option_copied c.in-Some.is))

pub returns-in-None : goal.returns-in-None
returns-in-None c = sym (ap (λ o. found_in o c.args.txn.now) (sym c.first_blocked.ensures ∙ ap option_copied c.in-None.is))
