use Rattle.std.proofs.Common.{refl}
use Rattle.pc_known.proofs.Exact.{both}
use Rattle.pc_may_send.proofs.Existing.{IsOwn, commit_by, no_commit_by}
use Rattle.pc_may_send.proofs.commit.may_send_commit.Goals as goal

pub returns-in-Some : goal.returns-in-Some
returns-in-Some c k keeps =
    let own : IsOwn k c.args.commit.now.meta.id c.in-Some.t.now = rw (← c.commit.view_is) (c.in-Some.ensures k keeps) in
    both (c.may_send_own.ensures k keeps ((c.in-Some.ensures k keeps c.in-Some.t.now).0 refl).0) (commit_by k c.args.commit.now c.in-Some.t.now own)

pub returns-in-None : goal.returns-in-None
returns-in-None c k keeps = (λ h. absurd cc, λ m. absurd (no_commit_by k c.args.commit.now (rw (← c.commit.view_is) (c.in-None.ensures k keeps)) m))
