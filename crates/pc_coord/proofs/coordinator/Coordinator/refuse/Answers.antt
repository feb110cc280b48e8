use Rattle.std.proofs.Common.{◌≡◌, Some, None, sym, ap, ◌∙◌, subst}
use Rattle.pc_call.specs.Rounding.{RefusesRound}
use Rattle.pc_coord.proofs.Ending.{no_stage}
use Rattle.pc_coord.proofs.Tying.{due_conflict}
use Rattle.std.proofs.lemmas.Option.{same_Some}
use Rattle.pc_wave.specs.declared.step.Step.TheVariants as steps
use Rattle.pc_proto.specs.Replies.{holder_in}
use Rattle.pc_coord.proofs.Joining.{nothing_idle, same_left}
use Rattle.pc_coord.specs.Coordination.{Coordination}
use Rattle.pc_coord.proofs.coordinator.Coordinator.refuse.Goals as goal

pub returns-in-Some-clause-knows : goal.returns-in-Some-clause-knows
returns-in-Some-clause-knows c = λ loses start k clock number conflict r counted w a due refused.
    let same : c.in-Some.conflict ≡ conflict = same_Some c.in-Some.conflict conflict (sym (sym c.conflict_due-conflict.ensures ∙ c.in-Some.is) ∙ due_conflict c.in_ok-step.step number conflict (c.in_ok-step.ensures.due ∙ due)) in
    c.block.ensures.knows loses start k clock number r counted w a (due ∙ ap (steps.Round number) (sym same)) (subst (RefusesRound start k c.args.txn.id) (sym same) refused)

pub returns-in-None-clause-knows : goal.returns-in-None-clause-knows
returns-in-None-clause-knows c = λ loses start k clock number conflict r counted w a due refused.
    let none : None ≡ Some conflict = sym (sym c.conflict_due-conflict.ensures ∙ c.in-None.is) ∙ due_conflict c.in_ok-step.step number conflict (c.in_ok-step.ensures.due ∙ due) in
    absurd cc

pub returns-in-Some-clause-comes : goal.returns-in-Some-clause-comes
returns-in-Some-clause-comes c = λ number conflict holder due isnt is.
    let same : c.in-Some.conflict ≡ conflict = same_Some c.in-Some.conflict conflict (sym (sym c.conflict_due-conflict.ensures ∙ c.in-Some.is) ∙ due_conflict c.in_ok-step.step number conflict (c.in_ok-step.ensures.due ∙ due)) in
    c.block.ensures.comes holder (no_stage c.args.call.purpose isnt) (ap holder_in same ∙ is)

pub returns-in-None-clause-comes : goal.returns-in-None-clause-comes
returns-in-None-clause-comes c = λ number conflict holder due isnt is.
    let none : None ≡ Some conflict = sym (sym c.conflict_due-conflict.ensures ∙ c.in-None.is) ∙ due_conflict c.in_ok-step.step number conflict (c.in_ok-step.ensures.due ∙ due) in
    absurd cc

pub returns-in-Some-clause-left : goal.returns-in-Some-clause-left
returns-in-Some-clause-left c = c.block.ensures.left

pub returns-in-Some-clause-idle : goal.returns-in-Some-clause-idle
returns-in-Some-clause-idle c = c.block.ensures.idle

pub returns-in-None-clause-left : goal.returns-in-None-clause-left
returns-in-None-clause-left c = same_left c.args.self.now.later c.told.new.self.later (ap (λ (n : Coordination). n.later) c.told.ensures.made)

pub returns-in-None-clause-idle : goal.returns-in-None-clause-idle
returns-in-None-clause-idle c = nothing_idle c.told.new.self (ap (λ (n : Coordination). n.due) c.told.ensures.made)
