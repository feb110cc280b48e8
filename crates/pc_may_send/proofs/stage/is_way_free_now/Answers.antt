use Rattle.std.proofs.Common.{◌↔◌, IsTrue, List, subst}
use Rattle.pc_files.specs.Filing.{deciding_of}
use Rattle.pc_known.proofs.Exact.{both}
use Rattle.pc_may_send.proofs.Narrowed.{way_free}
use Rattle.pc_may_send.proofs.stage.is_way_free_now.Goals as goal
use Rattle.pc_world.specs.Known.Traffic.{Heard, Sent}
use Rattle.pc_world.specs.Send.Stage.{IsPassed}
use Rattle.pc_world.specs.StageFate.{EachCommit, EachStage, WasCommitRefused}

pub returns : goal.returns
returns c k keeps =
    let id = c.args.id in
    let IsFree : List Sent → List Heard → Type 0 = λ ms hs. EachStage id ms (IsPassed hs c.args.ts) × EachCommit id ms (WasCommitRefused hs) in
    both
    (subst (λ hs. IsTrue c.is_way_free.result ↔ IsFree (deciding_of id k.sent) hs) (c.replies.ensures k keeps)
    (subst (λ ms. IsTrue c.is_way_free.result ↔ IsFree ms c.replies.result.now) (c.deciding.ensures k keeps) c.is_way_free.ensures))
    (way_free k.sent k.heard id c.args.ts)
