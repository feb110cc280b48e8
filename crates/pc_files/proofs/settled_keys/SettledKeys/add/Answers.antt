use Rattle.std.proofs.Common.{◌&&◌, true, cond, ap, ◌∙◌}
use Rattle.std.specs.BTreeSet.{contains}
use Rattle.pc_base.specs.Span.{same_key}
use Rattle.pc_base.specs.Transaction.{same_txn}
use Rattle.pc_files.proofs.Noting.{added_one, place_equal}
use Rattle.pc_files.proofs.settled_keys.SettledKeys.add.Goals as goal
use Rattle.pc_files.specs.SettledKeys.{settled_key_cmp}

pub returns : goal.returns
returns c id key =
    let had = contains settled_key_cmp c.args.self.now.places (id, key) in
    c.in_ok-insert.ensures.updates.0 (id, key)
    ∙ ap (λ b. cond b true had) (place_equal (c.args.id, c.args.key.now) (id, key))
    ∙ added_one (same_txn c.args.id id && same_key c.args.key.now key) had
