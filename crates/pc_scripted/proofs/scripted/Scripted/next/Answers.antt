use Rattle.std.proofs.Common.{◌≡◌, IfOk, subst}
use Rattle.pc_script.specs.Script.{next_call}
use Rattle.pc_scripted.proofs.scripted.Scripted.next.Goals as goal

pub returns : goal.returns
returns g c = subst (λ s. IfOk c.next.result (λ call. call ≡ next_call s.at)) c.self.view_is c.next.ensures
