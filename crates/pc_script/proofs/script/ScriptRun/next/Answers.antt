use Rattle.std.proofs.Common.{◌≡◌, Some, slice_get, sym, ap, subst, ◌∙◌}
use Rattle.std.specs.Option.{option_copied}
use Rattle.pc_script.proofs.Ahead.{next_planned}
use Rattle.pc_script.specs.Script.{Position, next_call}
use Rattle.pc_script.proofs.script.ScriptRun.next.Goals as goal

pub returns-in_ok-call-in-Some : goal.returns-in_ok-call-in-Some
returns-in_ok-call-in-Some c =
    let s = c.self.inside in
    let listed : slice_get s.calls s.over ≡ Some c.in-Some.planned.now = sym c.get.ensures ∙ ap option_copied c.in-Some.is in
    subst (λ (at : Position). Some c.in_ok-call-in-Some.field-0 ≡ next_call at) c.self.view_is
    (ap Some c.in_ok-call-in-Some.ensures ∙ sym (next_planned s.gives_up s.read s.over s.calls c.in-Some.planned.now c.if-self.false listed))
