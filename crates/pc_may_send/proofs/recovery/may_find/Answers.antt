use Rattle.std.proofs.Common.{◌↔◌, Any, IsTrue, subst}
use Rattle.pc_known.proofs.Exact.{both}
use Rattle.pc_may_send.proofs.Existing.{all_found_iff, missed_iff}
use Rattle.pc_may_send.proofs.Narrowed.{found_all}
use Rattle.pc_may_send.proofs.recovery.may_find.Goals as goal
use Rattle.pc_may_send.specs.Listed.{HasFoundAll}

pub returns-in-All : goal.returns-in-All
returns-in-All c k keeps =
    let known : IsTrue c.were_all_found.result ↔ Any (HasFoundAll k.heard c.args.id c.args.epoch c.args.ts) k.heard =
    both
    (subst (λ hs. IsTrue c.were_all_found.result ↔ Any (HasFoundAll hs c.args.id c.args.epoch c.args.ts) hs) (c.replies.ensures k keeps) c.were_all_found.ensures)
    (found_all c.args.id k.heard c.args.epoch c.args.ts) in
    rw c.in-All.is (both known (all_found_iff k.heard c.args.id c.args.epoch c.args.ts))

pub returns-in-Missing : goal.returns-in-Missing
returns-in-Missing c k keeps =
    rw c.in-Missing.is (both (c.may_miss.ensures k keeps) (missed_iff c.args.actor k c.args.id c.args.epoch c.args.ts c.in-Missing.key c.in-Missing.by))
