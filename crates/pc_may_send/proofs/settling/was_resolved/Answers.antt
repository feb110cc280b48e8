use Rattle.pc_files.proofs.Noting.{settled_iff}
use Rattle.pc_known.proofs.Exact.{both}
use Rattle.pc_may_send.proofs.Existing.{iff_same}
use Rattle.std.specs.List.{list_any}
use Rattle.pc_files.specs.SettledKeys.{settles_key}
use Rattle.pc_may_send.proofs.settling.was_resolved.Goals as goal

pub returns : goal.returns
returns c k keeps =
    both (iff_same c.is_settled.result (list_any (settles_key c.args.id c.args.key.now) k.heard) (c.is_settled.ensures k keeps)) (settled_iff c.args.id c.args.key.now k.heard)
