use Rattle.pc_known.proofs.order.is_next_within.Goals as goal

pub returns-then-is_next : goal.returns-then-is_next
returns-then-is_next c k calls sends = (
  λ ok. record { next = (c.is_next.ensures k sends).0 c.if-is_next.true; stamps = (c.are_within_next.ensures k calls).0 ok },
  λ fits. (c.are_within_next.ensures k calls).1 fits.stamps,
)
