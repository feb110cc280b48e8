use Rattle.std.proofs.Common.{◌↔◌, IsTrue, ap, subst, ◌∙◌}
use Rattle.pc_files.proofs.Views.{aborted}
use Rattle.pc_files.specs.Filing.{replies_of}
use Rattle.pc_known.proofs.Exact.{both}
use Rattle.pc_may_tell.proofs.end.was_aborted_ever.Goals as goal
use Rattle.pc_world.specs.Views.{WasAborted}

pub returns : goal.returns
returns c k keeps =
    let id = c.args.t.now.id in
    both
    (subst (λ hs. IsTrue c.was_own_aborted.result ↔ WasAborted hs id c.args.why.now) (c.replies.ensures k keeps ∙ ap (λ i. replies_of i k.heard) c.id.ensures) c.was_own_aborted.ensures)
    (aborted id k.heard c.args.why.now)
