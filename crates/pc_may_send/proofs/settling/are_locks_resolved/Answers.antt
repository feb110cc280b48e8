use Rattle.std.proofs.Common.{refl, subst}
use Rattle.pc_may_send.proofs.settling.are_locks_resolved.Goals as goal
use Rattle.pc_world.specs.Send.Settling.{AllResolved}

pub returns-in-Committed : goal.returns-in-Committed
returns-in-Committed c k keeps =
    rw c.in-Committed.is
    (λ ok. (c.in-Committed.locks, refl, (c.are_keys_resolved.ensures k keeps).0 ok), λ h. (c.are_keys_resolved.ensures k keeps).1 (subst (AllResolved k.heard c.args.id) h.1 h.2))

pub returns-in-Aborted : goal.returns-in-Aborted
returns-in-Aborted c k keeps =
    rw c.in-Aborted.is
    (λ ok. (c.in-Aborted.locks, refl, (c.are_keys_resolved-in-Aborted.ensures k keeps).0 ok), λ h. (c.are_keys_resolved-in-Aborted.ensures k keeps).1 (subst (AllResolved k.heard c.args.id) h.1 h.2))
