use Rattle.std.proofs.Common.{sym, ap, ◌∙◌}
use Rattle.pc_coord.proofs.Leaving.{given_else}
use Rattle.pc_coord.proofs.ends.give_up_by.Goals as goal

pub returns-in_default : goal.returns-in_default
returns-in_default c = ap (λ s. record c.args.txn.now { staging = s }) c.forget.ensures.made ∙ sym (given_else c.args.answer.now c.args.txn.now c.in_default.not-Restart)
