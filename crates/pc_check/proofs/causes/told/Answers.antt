use Rattle.std.proofs.Common.{None, Some, sym, ap, ◌∙◌}
use Rattle.std.specs.Option.{option_copied}
use Rattle.pc_check.proofs.EarlierEntries.{none_told_at, told_at_step}
use Rattle.pc_check.proofs.causes.told.Goals as goal
use Rattle.pc_check.proofs.causes.told.Goals.{in_default-via-in-Some+else-is_tell, in_default-via-in_default}

pub returns-in-Some : goal.returns-in-Some
returns-in-Some c head id run =
    told_at_step head c.args.before.now run id c.args.step c.in-Some.entry.now c.in-Some.ensures (sym c.is_tell.ensures ∙ c.if-is_tell.true)

pub returns-in_default : goal.returns-in_default
returns-in_default c head id run =
    elim c.in_default.branch [
      | in_default-via-in-Some+else-is_tell w ↦ none_told_at head c.args.before.now run id c.args.step (Some w.in-Some.entry.now) w.in-Some.ensures (λ e is passes. absurd (cc (is, passes, w.is_tell.ensures, w.if-is_tell.false)))
      | in_default-via-in_default w ↦ none_told_at head c.args.before.now run id c.args.step None (ap option_copied (sym w.in_default.is) ∙ c.at.ensures) (λ e is passes. absurd cc)
    ]
