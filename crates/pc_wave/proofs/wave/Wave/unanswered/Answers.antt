use Rattle.std.proofs.Common.{ap, find, ◌∙◌}
use Rattle.std.specs.List.{list_all, list_any}
use Rattle.pc_wave.proofs.Behind.{from_place, none_all, none_any, none_find, none_other}
use Rattle.pc_wave.proofs.Cursors.{all_have, none_awaits, none_in_conflict, none_out, none_pending}
use Rattle.pc_wave.specs.Cursors.{lacks_answer}
use Rattle.pc_wave.specs.Messages.{awaits_at, has_answer, is_in_conflict, is_out, is_pending}
use Rattle.pc_wave.proofs.wave.Wave.unanswered.Goals as goal

pub returns-clause-pending : goal.returns-clause-pending
returns-clause-pending c =
    ap (list_any is_pending) (from_place c.self.inside.answered c.deref.result.now c.self.inside.messages.items c.deref.ensures.value)
    ∙ none_any is_pending c.self.inside.answered c.self.inside.messages.items (none_other lacks_answer is_pending none_pending c.self.inside.answered c.self.inside.messages.items c.self.invariant.heard)
    ∙ ap (list_any is_pending) c.self.view_is

pub returns-clause-conflict : goal.returns-clause-conflict
returns-clause-conflict c =
    ap (find is_in_conflict) (from_place c.self.inside.answered c.deref.result.now c.self.inside.messages.items c.deref.ensures.value)
    ∙ none_find is_in_conflict c.self.inside.answered c.self.inside.messages.items (none_other lacks_answer is_in_conflict none_in_conflict c.self.inside.answered c.self.inside.messages.items c.self.invariant.heard)
    ∙ ap (find is_in_conflict) c.self.view_is

pub returns-clause-answer : goal.returns-clause-answer
returns-clause-answer c =
    ap (list_all has_answer) (from_place c.self.inside.answered c.deref.result.now c.self.inside.messages.items c.deref.ensures.value)
    ∙ none_all lacks_answer has_answer all_have c.self.inside.answered c.self.inside.messages.items c.self.invariant.heard
    ∙ ap (list_all has_answer) c.self.view_is

pub returns-clause-awaits : goal.returns-clause-awaits
returns-clause-awaits c number =
    ap (list_any (awaits_at number)) (from_place c.self.inside.answered c.deref.result.now c.self.inside.messages.items c.deref.ensures.value)
    ∙ none_any (awaits_at number) c.self.inside.answered c.self.inside.messages.items
    (none_other lacks_answer (awaits_at number) (none_awaits number) c.self.inside.answered c.self.inside.messages.items c.self.invariant.heard)
    ∙ ap (list_any (awaits_at number)) c.self.view_is

pub returns-clause-out : goal.returns-clause-out
returns-clause-out c =
    ap (list_any is_out) (from_place c.self.inside.answered c.deref.result.now c.self.inside.messages.items c.deref.ensures.value)
    ∙ none_any is_out c.self.inside.answered c.self.inside.messages.items (none_other lacks_answer is_out none_out c.self.inside.answered c.self.inside.messages.items c.self.invariant.heard)
    ∙ ap (list_any is_out) c.self.view_is
