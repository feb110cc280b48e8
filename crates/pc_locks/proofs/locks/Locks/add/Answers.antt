use Rattle.std.proofs.Common.{ap, ◌∙◌}
use Rattle.std.specs.BTreeSet.{insert_key}
use Rattle.std.specs.Cmp.Lexicographic.{slice_cmp}
use Rattle.std.specs.Ordering.{nat_cmp}
use Rattle.pc_locks.proofs.Inserted.{inserted}
use Rattle.pc_world.specs.Known.Transactions.{with_lock}
use Rattle.pc_locks.proofs.locks.Locks.add.Goals as goal

pub returns-clause-ok : goal.returns-clause-ok
returns-clause-ok c =
    c.in_ok-insert.ensures.keys
    ∙ ap (insert_key (slice_cmp nat_cmp) c.self.inside.keys.keys) c.in_ok-copy.ensures
    ∙ inserted c.args.key.now c.self.inside.keys.keys
    ∙ ap (with_lock c.args.key.now) c.self.view_is
