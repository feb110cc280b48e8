use Rattle.std.proofs.Common.{◌≡◌, IsTrue, subst}
use mathlib.Core.Bool.{beq}
use Rattle.pc_known.proofs.Exact.{same_bool}
use Rattle.pc_known.proofs.calls.Calls.is_learn_told.Goals as goal

pub returns-in-Learn : goal.returns-in-Learn
returns-in-Learn c k keeps =
    rw (← c.statement.view_is, c.in-Learn.is)
    (subst (λ b. (IsTrue (beq c.was_met.result c.args.met) → b ≡ c.args.met) × (b ≡ c.args.met → IsTrue (beq c.was_met.result c.args.met))) (c.was_met.ensures k keeps) (same_bool c.was_met.result c.args.met))
