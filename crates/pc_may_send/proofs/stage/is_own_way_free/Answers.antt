use Rattle.std.proofs.Common.{◌↔◌, IsTrue, subst}
use Rattle.pc_may_send.proofs.stage.is_own_way_free.Goals as goal
use Rattle.pc_world.specs.Send.Stage.{IsPassed}
use Rattle.pc_world.specs.StageFate.{EachCommit, EachStage, WasCommitRefused}

pub returns : goal.returns
returns c k keeps =
    rw (← c.stage.view_is)
    (subst (λ id. IsTrue c.is_way_free_now.result ↔ (EachStage id k.sent (IsPassed k.heard c.stage.inside.ts) × EachCommit id k.sent (WasCommitRefused k.heard))) c.id.ensures (c.is_way_free_now.ensures k keeps))
