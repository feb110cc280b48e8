use Rattle.std.proofs.Common.{◌≡◌, Contains, false, refl}
use Rattle.pc_may_tell.proofs.Losses.{through_none, through_some}
use Rattle.pc_may_tell.proofs.lost.is_unproved_of.Goals as goal
use Rattle.pc_may_tell.specs.Losing.{IsUnprovedIn}

pub returns-in-Some : goal.returns-in-Some
returns-in-Some c k keeps =
    through_some (λ t. Contains k.txns t × (t.id ≡ c.args.id)) (λ t. IsUnprovedIn t c.args.request.now) c.is_unproved_in.result c.in-Some.t.now (c.in-Some.ensures k keeps) c.is_unproved_in.ensures

pub returns-in-None : goal.returns-in-None
returns-in-None c k keeps = through_none (λ t. Contains k.txns t × (t.id ≡ c.args.id)) (λ t. IsUnprovedIn t c.args.request.now) false (c.in-None.ensures k keeps) refl
