use Rattle.std.proofs.Common.{◌↔◌, IsTrue, subst}
use Rattle.pc_files.proofs.Narrow.{uncommitted}
use Rattle.pc_files.specs.Filing.{deciding_of}
use Rattle.pc_known.proofs.Exact.{both}
use Rattle.pc_files.proofs.files.Files.is_uncommitted.Goals as goal
use Rattle.pc_world.specs.StageFate.{IsUncommitted}

pub returns-then-has : goal.returns-then-has
returns-then-has c k keeps = (λ ok. c.has.ensures k.sent k.heard keeps.uncommitted c.if-has.true, λ m. c.if-has.true)

pub returns-else-has : goal.returns-else-has
returns-else-has c k keeps =
    both
    (subst (λ heard. IsTrue c.is_uncommitted.result ↔ IsUncommitted c.args.id (deciding_of c.args.id k.sent) heard) (c.replies.ensures k keeps)
    (subst (λ sent. IsTrue c.is_uncommitted.result ↔ IsUncommitted c.args.id sent c.replies.result.now) (c.deciding.ensures k keeps) c.is_uncommitted.ensures))
    (uncommitted c.args.id k.sent k.heard)
