use Rattle.std.proofs.Common.{◌≡◌, false, Some, sym, subst}
use Rattle.pc_script.specs.Script.{next_call}
use Rattle.pc_scripted.proofs.Asking.{moved_asked}
use Rattle.pc_scripted.proofs.Beginning.{moved_from, on_ok}
use Rattle.pc_scripted.proofs.Breaking.{breaks_so, broken_cases, moved_broken_call}
use Rattle.pc_scripted.specs.Scripted.{IsScripted}
use Rattle.pc_scripted.specs.Taking.{AsksInTurn}
use Rattle.pc_session.specs.Ending.{AreOfBrokenCall}
use Rattle.pc_turns.specs.Order.{events_of}
use Rattle.pc_scripted.proofs.scripted.Scripted.call.Goals as goal

pub returns-in-Ok-clause-ok : goal.returns-in-Ok-clause-ok
returns-in-Ok-clause-ok g c =
    let scripted = subst (λ s. IsScripted s) (sym c.self.view_is) c.requires.scripted in
    let going = subst (λ s. s.session.desk.log.stopped ≡ false) (sym c.self.view_is) c.requires.going in
    let next = subst (λ s. next_call s.at ≡ Some c.args.call) (sym c.self.view_is) c.requires.next in
    on_ok c.go_on_by.result _ _
    (λ told. moved_from _ c.args.self.now _ (λ s. AsksInTurn s) c.self.view_is (moved_asked _ c.call.new.self c.go_on_by.new.run c.args.call c.in-Ok.answer scripted going next c.in-Ok.ensures.ok told))
    c.go_on_by.ensures

pub returns-in-Err-clause-ok : goal.returns-in-Err-clause-ok
returns-in-Err-clause-ok g c =
    let scripted = subst (λ s. IsScripted s) (sym c.self.view_is) c.requires.scripted in
    let going = subst (λ s. s.session.desk.log.stopped ≡ false) (sym c.self.view_is) c.requires.going in
    let next = subst (λ s. next_call s.at ≡ Some c.args.call) (sym c.self.view_is) c.requires.next in
    on_ok c.unless_memory.result _ _
    (λ memory. moved_from _ c.args.self.now _ (λ s. AsksInTurn s) c.self.view_is
    (let b = breaks_so (AreOfBrokenCall c.args.call c.in-Err.halt) c.self.inside.session.desk c.call.new.self.desk c.in-Err.halt going memory c.in-Err.ensures.ended in
    moved_broken_call (AreOfBrokenCall c.args.call c.in-Err.halt) _ c.call.new.self c.args.call scripted going next b (broken_cases c.args.call c.in-Err.halt (events_of b.part) b.are)))
    c.unless_memory.ensures
