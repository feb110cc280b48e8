use Rattle.std.proofs.Common.{◌≢◌, ◌↔◌, IsTrue, List, subst}
use Rattle.pc_files.specs.Filing.{deciding_of}
use Rattle.pc_known.proofs.Exact.{both}
use Rattle.pc_may_send.proofs.Narrowed.{nothing_elsewhere}
use Rattle.pc_may_send.proofs.commit.is_nothing_elsewhere_now.Goals as goal
use Rattle.pc_world.specs.Known.Traffic.{Heard, Sent}
use Rattle.pc_world.specs.StageFate.{EachCommit, EachStage, IsLate, WasCommitRefused}

pub returns : goal.returns
returns c k keeps =
    let id = c.args.id in
    let IsNothing : List Sent → List Heard → Type 0 = λ ms hs. EachStage id ms (λ s. s.ts ≢ c.args.ts → IsLate hs s) × EachCommit id ms (λ x. x.ts ≢ c.args.ts → WasCommitRefused hs x) in
    both
    (subst (λ hs. IsTrue c.is_nothing_elsewhere.result ↔ IsNothing (deciding_of id k.sent) hs) (c.replies.ensures k keeps)
    (subst (λ ms. IsTrue c.is_nothing_elsewhere.result ↔ IsNothing ms c.replies.result.now) (c.deciding.ensures k keeps) c.is_nothing_elsewhere.ensures))
    (nothing_elsewhere k.sent k.heard id c.args.ts)
