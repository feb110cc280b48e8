-- The least number of a message, from one on, is that of those that are left.
use Rattle.std.proofs.Common.{◌≡◌, map}
use Rattle.pc_wire.specs.Outbox.{first_from}
use Rattle.pc_wire.proofs.outbox.first_from.Given as goal

abbrev pub invariant-loop-sent : goal.invariant-loop-sent
invariant-loop-sent g l = first_from l.number (map (λ e. e.0) l.waiting.entries) ≡ first_from l.number (map (λ e. e.0) l.sent-iterator)
