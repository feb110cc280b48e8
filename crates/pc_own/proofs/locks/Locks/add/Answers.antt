use Rattle.std.proofs.Common.{ap, ◌∙◌}
use Rattle.pc_own.proofs.Inserted.{inserted}
use Rattle.pc_own.proofs.locks.Locks.add.Goals as goal
use Rattle.pc_world.specs.Known.Transactions.{with_lock}

pub returns : goal.returns
returns c = c.in_ok-insert.ensures.keys ∙ inserted c.args.key.now c.self.inside.locks.keys ∙ ap (with_lock c.args.key.now) c.self.view_is
