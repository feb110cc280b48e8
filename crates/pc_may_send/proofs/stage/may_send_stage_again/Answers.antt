use Rattle.std.proofs.Common.{◌↔◌, IsTrue, subst}
use Rattle.pc_known.proofs.Exact.{both}
use Rattle.pc_files.specs.Filing.{deciding_of}
use Rattle.pc_may_send.proofs.Narrowed.{again}
use Rattle.pc_may_send.proofs.Existing.{no_stage_again, stage_again}
use Rattle.pc_may_send.proofs.stage.may_send_stage_again.Goals as goal
use Rattle.pc_may_send.specs.Staging.{IsStageAgain}

pub returns-in-Some : goal.returns-in-Some
returns-in-Some c k keeps =
    let x = c.in-Some.t.now in
    let s = c.args.stage.now in
    let known : IsTrue c.is_stage_again.result ↔ IsStageAgain k.sent k.heard x s =
    both
    (subst (λ hs. IsTrue c.is_stage_again.result ↔ IsStageAgain (deciding_of s.meta.id k.sent) hs x s) (rw (← c.stage.view_is) (c.replies.ensures k keeps))
    (subst (λ ms. IsTrue c.is_stage_again.result ↔ IsStageAgain ms c.replies.result.now x s) (rw (← c.stage.view_is) (c.deciding.ensures k keeps)) c.is_stage_again.ensures))
    (again k.sent k.heard x s) in
    both known (stage_again k s x (rw (← c.stage.view_is) (c.in-Some.ensures k keeps)))

pub returns-in-None : goal.returns-in-None
returns-in-None c k keeps = (λ h. absurd cc, λ m. absurd (no_stage_again k c.args.stage.now (rw (← c.stage.view_is) (c.in-None.ensures k keeps)) m))
