use Rattle.std.proofs.Common.{None, Some, sym, ap, ◌∙◌}
use Rattle.std.specs.Option.{option_copied}
use Rattle.pc_check.proofs.EarlierEntries.{evaluated_at, none_evaluated}
use Rattle.pc_check.proofs.causes.evaluated.Goals as goal
use Rattle.pc_check.proofs.causes.evaluated.Goals.{in_default-via-in-Some+else-is_eval, in_default-via-in_default}

pub returns-in-Some : goal.returns-in-Some
returns-in-Some c head number run =
    evaluated_at head c.args.before.now run number c.args.step c.in-Some.entry.now c.in-Some.ensures (sym c.is_eval.ensures ∙ c.if-is_eval.true)

pub returns-in_default : goal.returns-in_default
returns-in_default c head number run =
    elim c.in_default.branch [
      | in_default-via-in-Some+else-is_eval w ↦ none_evaluated head c.args.before.now run number c.args.step (Some w.in-Some.entry.now) w.in-Some.ensures (λ e is passes. absurd (cc (is, passes, w.is_eval.ensures, w.if-is_eval.false)))
      | in_default-via-in_default w ↦ none_evaluated head c.args.before.now run number c.args.step None (ap option_copied (sym w.in_default.is) ∙ c.at.ensures) (λ e is passes. absurd cc)
    ]
