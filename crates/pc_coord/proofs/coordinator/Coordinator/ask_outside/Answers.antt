use Rattle.std.proofs.Common.{sym, ap, ◌∙◌}
use Rattle.pc_coord.proofs.Tying.{begins_knows, begins_no_learn, outside_knows, told_outbox}
use Rattle.pc_coord.specs.Coordination.{Coordination}
use Rattle.pc_coord.specs.declared.due.Due.TheVariants as dues
use Rattle.pc_coord.specs.Kinds.{told_outside}
use Rattle.pc_coord.proofs.Joining.{same_left}
use Rattle.pc_coord.proofs.coordinator.Coordinator.ask_outside.Goals as goal

pub returns-in-Some-clause-knows : goal.returns-in-Some-clause-knows
returns-in-Some-clause-knows c = λ loses k r none closed unheld empty over no_round.
    begins_knows loses c.begin.new.self k c.args.call.now c.args.reading c.in-Some.priority c.begin.result (sym c.begins_at-begins.ensures ∙ c.in-Some.is) (c.begin.ensures.knows loses k r none closed unheld empty over)

pub returns-in-Some-clause-learns : goal.returns-in-Some-clause-learns
returns-in-Some-clause-learns c = λ id is. absurd (begins_no_learn c.args.call.now id c.in-Some.priority is (sym c.begins_at-begins.ensures ∙ c.in-Some.is))

pub returns-in-None-clause-learns : goal.returns-in-None-clause-learns
returns-in-None-clause-learns c = λ id is. ap (λ (d : Coordination). d.due) c.answer.ensures ∙ ap dues.Tell (c.told_outside.ensures ∙ ap told_outside is)

pub returns-in-None-clause-knows : goal.returns-in-None-clause-knows
returns-in-None-clause-knows c = λ loses k r none closed unheld empty over no_round.
    outside_knows loses c.args.self.now c.answer.new.self k c.args.call.now c.args.reading c.told_outside.result c.answer.ensures c.told_outside.ensures (sym c.begins_at-begins.ensures ∙ c.in-None.is) r closed unheld empty over no_round

pub returns-in-None-clause-waits : goal.returns-in-None-clause-waits
returns-in-None-clause-waits c = told_outbox c.answer.new.self c.args.self.now.later c.told_outside.result (ap (λ (d : Coordination). d.due) c.answer.ensures)

pub returns-in-Some-clause-left : goal.returns-in-Some-clause-left
returns-in-Some-clause-left c = c.begin.ensures.left

pub returns-in-None-clause-left : goal.returns-in-None-clause-left
returns-in-None-clause-left c = same_left c.args.self.now.later c.answer.new.self.later (ap (λ (n : Coordination). n.later) c.answer.ensures)
