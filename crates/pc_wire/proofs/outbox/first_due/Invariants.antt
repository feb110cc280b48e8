-- The first stray that is due is the first of those that are left.
use Rattle.std.proofs.Common.{◌≡◌, find}
use Rattle.pc_wire.specs.Outbox.{is_due_by}
use Rattle.pc_wire.proofs.outbox.first_due.Given as goal

abbrev pub invariant-loop-number : goal.invariant-loop-number
invariant-loop-number g l = find (is_due_by l.sent) l.bag.entries ≡ find (is_due_by l.sent) l.number-iterator
