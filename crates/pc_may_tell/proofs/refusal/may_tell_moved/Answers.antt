use Rattle.std.proofs.Common.{◌≡◌, true}
use Rattle.pc_may_tell.proofs.refusal.may_tell_moved.Goals as goal

pub returns-then-is_moved_commit : goal.returns-then-is_moved_commit
returns-then-is_moved_commit c k keeps =
    let moved = (c.is_moved_commit.ensures k keeps).0 c.if-is_moved_commit.true in (
      λ ok. let o = (c.is_open_uncommitted.ensures k keeps).0 ok in record { t = o.0; opened = o.1; asked = moved.0; eight = moved.1.0; last = moved.1.1; uncommitted = o.2 },
      λ m. (c.is_open_uncommitted.ensures k keeps).1 (m.t, m.opened, m.uncommitted),
    )

pub returns-else-is_moved_commit : goal.returns-else-is_moved_commit
returns-else-is_moved_commit c k keeps = (
  λ h. absurd cc,
  λ m. let on : c.is_moved_commit.result ≡ true = (c.is_moved_commit.ensures k keeps).1 (m.asked, (m.eight, m.last)) in let off = c.if-is_moved_commit.false in absurd (cc (on, off)),
)
