use Rattle.std.proofs.Common.{◌+◌, length, sym, ap, ◌∙◌}
use Rattle.pc_recoverer.proofs.Between.{knows_mark}
use Rattle.pc_recoverer.proofs.recoverer.Recoverer.follow.Goals as goal

pub invariant_of-self : goal.invariant_of-self
invariant_of-self g c =
    let now = knows_mark c.self.inside.number c.self.inside.level c.self.inside.desk c.follow.new.self c.args.mark.known c.follow.ensures.took c.follow.ensures.track c.self.invariant.0 in
    (now.0, c.self.invariant.1 ∙ ap (λ splits. length splits + 1) (sym now.1))

pub returns-clause-between : goal.returns-clause-between
returns-clause-between g c = (knows_mark c.self.inside.number c.self.inside.level c.self.inside.desk c.follow.new.self c.args.mark.known c.follow.ensures.took c.follow.ensures.track c.self.invariant.0).0
