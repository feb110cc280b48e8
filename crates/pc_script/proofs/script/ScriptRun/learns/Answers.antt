use Rattle.std.proofs.Common.{◌≡◌, Some, slice_get, sym, ap, subst, ◌∙◌}
use Rattle.std.specs.Option.{option_copied}
use Rattle.pc_script.proofs.Ahead.{next_planned}
use Rattle.pc_script.specs.Script.{Position, learnt_of, next_call}
use Rattle.pc_script.proofs.script.ScriptRun.learns.Goals as goal

pub returns-in-Some : goal.returns-in-Some
returns-in-Some c =
    let s = c.self.inside in
    let listed : slice_get s.calls s.over ≡ Some c.in-Some.planned.now = sym c.get.ensures ∙ ap option_copied c.in-Some.is in
    subst (λ (at : Position). c.learns.result ≡ learnt_of (next_call at)) c.self.view_is
    (c.learns.ensures s.read ∙ ap learnt_of (sym (next_planned s.gives_up s.read s.over s.calls c.in-Some.planned.now c.if-self.false listed)))
