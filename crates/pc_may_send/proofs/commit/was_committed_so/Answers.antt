use Rattle.std.proofs.Common.{◌↔◌, IsTrue, ap, subst, ◌∙◌}
use Rattle.pc_files.proofs.Views.{committed}
use Rattle.pc_files.specs.Filing.{replies_of}
use Rattle.pc_known.proofs.Exact.{both}
use Rattle.pc_may_send.proofs.commit.was_committed_so.Goals as goal
use Rattle.pc_world.specs.Views.{WasCommitted}

pub returns : goal.returns
returns c k keeps =
    let id = c.args.t.now.id in
    both
    (subst (λ hs. IsTrue c.was_committed.result ↔ WasCommitted hs id c.args.ts) (c.replies.ensures k keeps ∙ ap (λ i. replies_of i k.heard) c.id.ensures)
    (subst (λ i. IsTrue c.was_committed.result ↔ WasCommitted c.replies.result.now i c.args.ts) c.id-2.ensures c.was_committed.ensures))
    (committed id k.heard c.args.ts)
