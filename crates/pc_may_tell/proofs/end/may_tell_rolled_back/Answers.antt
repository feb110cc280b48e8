use Rattle.std.proofs.Common.{◌≡◌, ◌↔◌, IsTrue, subst, sym}
use Rattle.pc_known.proofs.Exact.{both}
use Rattle.pc_may_tell.proofs.Endings.{rolled_back_iff}
use Rattle.pc_may_tell.proofs.end.may_tell_rolled_back.Goals as goal
use Rattle.pc_may_tell.specs.Ending.{IsCauseHeard}
use Rattle.pc_proto.specs.declared.call.Call.TheVariants as calls

pub returns-in-Some : goal.returns-in-Some
returns-in-Some c k keeps =
    let x = c.in-Some.t.now in
    let known : IsTrue c.is_rolled_back.result ↔ (((c.args.call.now.call ≡ calls.Rollback) × (c.args.id ≡ x.id)) × IsCauseHeard k.heard_now x c.args.why.now) =
    subst (λ hs. IsTrue c.is_rolled_back.result ↔ (((c.args.call.now.call ≡ calls.Rollback) × (c.args.id ≡ x.id)) × IsCauseHeard hs x c.args.why.now)) (c.heard_now.ensures k keeps) c.is_rolled_back.ensures in
    both known (rolled_back_iff k c.args.call.now x (sym (c.in-Some.ensures k keeps)) c.args.id c.args.why.now)
