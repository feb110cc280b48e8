use Rattle.std.proofs.Common.{◌↔◌, Any, IsTrue, subst}
use Rattle.pc_known.proofs.Exact.{both}
use Rattle.pc_may_send.proofs.Narrowed.{listed}
use Rattle.pc_may_send.proofs.recovery.is_query_of_listed.Goals as goal
use Rattle.pc_may_send.specs.Listed.{HasListed}
use Rattle.pc_world.specs.Send.Recovery.{QueryOfListed}

pub returns : goal.returns
returns c k keeps =
    let id = c.args.id in
    let P = HasListed id c.args.epoch c.args.seq c.args.ts c.args.key.now in
    both
    (both (subst (λ hs. IsTrue c.some_has_listed.result ↔ Any P hs) (c.replies.ensures k keeps) c.some_has_listed.ensures) (listed id k.heard c.args.epoch c.args.seq c.args.ts c.args.key.now)) (
      λ a. record { writes = a.4.0; staging = (a.0, a.1, a.2, a.3, a.4.1); listed = a.4.2 },
      λ (q : QueryOfListed k id c.args.epoch c.args.seq c.args.ts c.args.key.now). (q.staging.0, q.staging.1, q.staging.2, q.staging.3, (q.writes, q.staging.4, q.listed)),
    )
