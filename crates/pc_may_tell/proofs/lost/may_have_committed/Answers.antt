use Rattle.std.proofs.Common.{◌↔◌, ◌⊎◌, IsTrue, subst}
use Rattle.pc_files.specs.Filing.{deciding_of}
use Rattle.pc_known.proofs.Exact.{both}
use Rattle.pc_may_tell.proofs.lost.may_have_committed.Goals as goal
use Rattle.pc_may_tell.proofs.Narrowed.{doubtful}
use Rattle.pc_world.specs.StageFate.{IsDead, SomeCommit, SomeStage, WasCommitRefused}

pub returns : goal.returns
returns c k keeps =
    let id = c.args.id in
    both
    (subst (λ hs. IsTrue c.is_doubtful.result ↔ (SomeStage id (deciding_of id k.sent) (λ s. IsDead hs s → ⊥) ⊎ SomeCommit id (deciding_of id k.sent) (λ x. WasCommitRefused hs x → ⊥))) (c.replies.ensures k keeps)
    (subst (λ ms. IsTrue c.is_doubtful.result ↔ (SomeStage id ms (λ s. IsDead c.replies.result.now s → ⊥) ⊎ SomeCommit id ms (λ x. WasCommitRefused c.replies.result.now x → ⊥))) (c.deciding.ensures k keeps) c.is_doubtful.ensures))
    (doubtful id k.sent k.heard)
