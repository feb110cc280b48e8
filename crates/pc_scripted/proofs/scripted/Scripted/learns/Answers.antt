use Rattle.std.proofs.Common.{◌≡◌, None, cond, sym, ap, subst, ◌∙◌}
use Rattle.pc_script.specs.Script.{learnt_of, next_call}
use Rattle.pc_scripted.proofs.scripted.Scripted.learns.Goals as goal

pub returns-then-has_stopped : goal.returns-then-has_stopped
returns-then-has_stopped g c = sym (ap (λ b. cond b None (learnt_of (next_call c.args.self.now.at))) (sym c.has_stopped.ensures ∙ c.if-has_stopped.true))

pub returns : goal.returns
returns g c =
    subst (λ s. c.learns.result ≡ learnt_of (next_call s.at)) c.self.view_is c.learns.ensures
    ∙ sym (ap (λ b. cond b None (learnt_of (next_call c.args.self.now.at))) (sym c.has_stopped.ensures ∙ c.if-has_stopped.false))
