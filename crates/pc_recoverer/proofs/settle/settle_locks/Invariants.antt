use Rattle.std.proofs.Common.{◌≡◌}
use Rattle.pc_recoverer.specs.UnderWay.{IsBeingSettled}
use Rattle.pc_recoverer.proofs.settle.settle_locks.Given as goal

abbrev pub invariant-loop : goal.invariant-loop
invariant-loop g l = IsBeingSettled l.fn.desk l.meta l.fn.fate l.fn.locks l.machine l.desk × (l.desk.log.clock ≡ l.fn.desk.log.clock)
