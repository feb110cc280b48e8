use Rattle.std.proofs.Common.{sym, subst, []}
use Rattle.pc_call.proofs.Deciding.{commits_fresh}
use Rattle.pc_call.specs.Stages.{CommitsOnFrom}
use Rattle.pc_coord.proofs.coordinator.Coordinator.commit_written.Goals as goal

pub returns-clause-knows : goal.returns-clause-knows
returns-clause-knows c = λ loses k s why anchor r fresh h is suits anchored.
    c.commit_on.ensures.knows loses k fresh.t s r
    (subst (λ n. CommitsOnFrom loses fresh.t.read_ts n k fresh.t c.args.txn s []) (sym c.new.ensures.made) (commits_fresh loses k c.args.txn s why fresh anchor is anchored))
    h r.course.may_wait suits

pub returns-clause-left : goal.returns-clause-left
returns-clause-left c = c.commit_on.ensures.left
