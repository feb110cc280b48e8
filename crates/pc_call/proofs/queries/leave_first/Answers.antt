use Rattle.std.proofs.Common.{position, sym, ap, ◌∙◌}
use Rattle.pc_call.proofs.Taken.{left_all, left_at}
use Rattle.pc_call.proofs.FoundBlocked.{without_is}
use Rattle.pc_wave.specs.Messages.{is_in_conflict}
use Rattle.pc_call.proofs.queries.leave_first.Goals as goal

pub returns-in-Some : goal.returns-in-Some
returns-in-Some c = c.leave.ensures.made ∙ left_at is_in_conflict c.args.wave.now c.in-Some.place (ap (position is_in_conflict) (sym c.messages.ensures) ∙ sym c.place_of_blocked.ensures ∙ c.in-Some.is) ∙ sym (without_is c.args.wave.now)

pub returns-in_default : goal.returns-in_default
returns-in_default c = left_all is_in_conflict c.args.wave.now (ap (position is_in_conflict) (sym c.messages.ensures) ∙ sym c.place_of_blocked.ensures ∙ c.in_default.is) ∙ sym (without_is c.args.wave.now)
