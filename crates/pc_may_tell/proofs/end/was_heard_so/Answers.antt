use Rattle.std.proofs.Common.{◌↔◌, IsTrue, List, ap, subst, ◌∙◌}
use Rattle.pc_files.specs.Filing.{replies_of}
use Rattle.pc_known.proofs.Exact.{both}
use Rattle.pc_may_tell.proofs.Narrowed.{WasHeardSo, heard_so}
use Rattle.pc_may_tell.proofs.end.was_heard_so.Goals as goal
use Rattle.pc_world.specs.Known.Traffic.{Heard}

pub returns : goal.returns
returns c k keeps =
    let t = c.args.t.now in
    both
    (subst (λ (hs : List Heard). IsTrue c.was_heard_to_commit.result ↔ WasHeardSo hs t c.args.ts) (c.replies.ensures k keeps ∙ ap (λ id. replies_of id k.heard) c.id.ensures) c.was_heard_to_commit.ensures)
    (heard_so k.heard t c.args.ts)
