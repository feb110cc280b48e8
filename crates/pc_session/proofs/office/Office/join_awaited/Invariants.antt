use Rattle.std.proofs.Common.{◌≡◌, length, map}
use Rattle.std.specs.List.Sorted.{IsStrictlySortedBy}
use Rattle.std.specs.Ordering.{nat_cmp}
use Rattle.pc_session.proofs.Joining.{IsJoining, left_to_join}
use Rattle.pc_session.specs.InCall.{HasOpenCall}
use Rattle.pc_session.specs.Session.{session_knows}
use Rattle.pc_session.proofs.office.Office.join_awaited.Given as goal

abbrev pub invariant-loop-next : goal.invariant-loop-next
invariant-loop-next g l = HasOpenCall l.self l.reading × IsJoining l.fn.self l.self l.next × (l.self.desk.log.clock ≡ l.fn.self.desk.log.clock) × IsStrictlySortedBy nat_cmp (map (λ m. m.number) l.self.desk.later)

abbrev pub decreases-loop-next : goal.decreases-loop-next
decreases-loop-next g l = left_to_join (length (session_knows l.fn.self).sent) l.next
