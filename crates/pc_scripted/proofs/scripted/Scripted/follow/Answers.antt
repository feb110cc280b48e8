use Rattle.std.proofs.Common.{sym, subst}
use Rattle.pc_scripted.proofs.Beginning.{followed_scripted}
use Rattle.pc_scripted.specs.Scripted.{IsScripted}
use Rattle.pc_scripted.proofs.scripted.Scripted.follow.Goals as goal

pub returns-clause-scripted : goal.returns-clause-scripted
returns-clause-scripted g c = λ scripted.
    followed_scripted _ c.follow.new.self c.args.mark.known c.follow.ensures.took c.follow.ensures.rests (subst (λ s. IsScripted s) (sym c.self.view_is) scripted)
