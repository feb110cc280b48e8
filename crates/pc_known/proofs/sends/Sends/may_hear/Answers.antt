use Rattle.std.proofs.Common.{◌≡◌, ◌+◌, arith, subst}
use Rattle.pc_known.proofs.Exact.{both}
use Rattle.pc_known.proofs.Numbered.{may_hear_at, none_to_hear}
use Rattle.pc_known.proofs.sends.Sends.may_hear.Goals as goal
use Rattle.pc_world.specs.Local.{MayHear}

pub returns-in-None : goal.returns-in-None
returns-in-None c k keeps =
    let none : c.args.number ≡ 0 = omega (arith, c.in-None.ensures) in
    (λ h. absurd cc, λ may. absurd (none_to_hear k c.args.self.now keeps (subst (λ n. MayHear k n) none may)))

pub returns-in-Some : goal.returns-in-Some
returns-in-Some c k keeps =
    let is : c.args.number ≡ c.in-Some.place + 1 = omega (arith, c.in-Some.ensures) in
    both c.is_unheard.ensures (may_hear_at k c.args.self.now c.args.number c.in-Some.place keeps is)
