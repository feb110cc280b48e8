use Rattle.std.proofs.Common.{sym, subst}
use Rattle.pc_rounds.proofs.Resting.{followed_counted}
use Rattle.pc_rounds.specs.Counted.{GoesInRounds}
use Rattle.pc_rounds.proofs.counted.CountedRecoverer.follow.Goals as goal

pub returns-clause-counted : goal.returns-clause-counted
returns-clause-counted g c = λ counted.
    followed_counted _ c.follow.new.self c.args.mark.known c.follow.ensures.took c.follow.ensures.between (subst (λ r. GoesInRounds r) (sym c.self.view_is) counted)
