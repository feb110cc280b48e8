use Rattle.pc_rounds.proofs.Resting.{begins_counted}
use Rattle.pc_rounds.proofs.counted.CountedRecoverer.new.Goals as goal

pub returns-clause-counted : goal.returns-clause-counted
returns-clause-counted g c =
    let r = c.requires in
    begins_counted c.args.recoverer c.args.rounds r.whose r.between r.fresh r.going
