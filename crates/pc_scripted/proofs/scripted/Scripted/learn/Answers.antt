use Rattle.std.proofs.Common.{◌≡◌, Some, is_some, sym, ap, subst, ◌∙◌}
use Rattle.pc_script.specs.Script.{after_told}
use Rattle.pc_scripted.proofs.Beginning.{moved_from, on_ok}
use Rattle.pc_scripted.proofs.Breaking.{breaks_so}
use Rattle.pc_scripted.proofs.Learning.{learn_going, learn_may, moved_broken_learn, moved_learnt}
use Rattle.pc_scripted.specs.Learning.{LearnsInTurn, learnt_ahead}
use Rattle.pc_scripted.specs.Scripted.{IsScripted}
use Rattle.pc_session.specs.Learning.{AreOfBrokenLearn, HasLearnt, answer_to_learn}
use Rattle.pc_scripted.proofs.scripted.Scripted.learn.Goals as goal

pub learn-requires-clause-may : goal.learn-requires-clause-may
learn-requires-clause-may g c = λ going.
    let scripted = subst (λ s. IsScripted s) (sym c.self.view_is) c.requires.scripted in
    let next = subst (λ s. learnt_ahead s ≡ Some c.args.id) (sym c.self.view_is) c.requires.next in
    learn_may _ c.args.id scripted next

pub returns-in-Ok-clause-ok : goal.returns-in-Ok-clause-ok
returns-in-Ok-clause-ok g c =
    let scripted = subst (λ s. IsScripted s) (sym c.self.view_is) c.requires.scripted in
    let next = subst (λ s. learnt_ahead s ≡ Some c.args.id) (sym c.self.view_is) c.requires.next in
    let found = c.in-Ok.ensures.found in
    on_ok c.go_on_by.result _ _
    (λ told. moved_from _ c.args.self.now _ (λ s. LearnsInTurn s c.args.id (is_some c.args.token)) c.self.view_is
    (moved_learnt _ c.learn.new.self c.args.id (is_some c.args.token) scripted next c.go_on_by.new.run (subst (HasLearnt c.self.inside.session c.learn.new.self c.args.id) found c.in-Ok.ensures.ok)
    (told ∙ ap (λ a. after_told a c.self.inside.run) (c.answer_to_learn.ensures ∙ ap answer_to_learn found))))
    c.go_on_by.ensures

pub returns-in-Err-clause-ok : goal.returns-in-Err-clause-ok
returns-in-Err-clause-ok g c =
    let scripted = subst (λ s. IsScripted s) (sym c.self.view_is) c.requires.scripted in
    let next = subst (λ s. learnt_ahead s ≡ Some c.args.id) (sym c.self.view_is) c.requires.next in
    on_ok c.unless_memory.result _ _
    (λ memory. moved_from _ c.args.self.now _ (λ s. LearnsInTurn s c.args.id (is_some c.args.token)) c.self.view_is
    (moved_broken_learn _ c.learn.new.self c.args.id (is_some c.args.token) scripted next c.in-Err.halt
    (breaks_so (AreOfBrokenLearn c.args.id (is_some c.args.token) c.in-Err.halt) c.self.inside.session.desk c.learn.new.self.desk c.in-Err.halt (learn_going _ c.args.id scripted next) memory c.in-Err.ensures.ended)))
    c.unless_memory.ensures
