use Rattle.std.proofs.Common.{◌≡◌}
use Rattle.pc_recoverer.specs.UnderWay.{IsBeingRecovered}
use Rattle.pc_recoverer.proofs.recover.recover.Given as goal

abbrev pub invariant-loop : goal.invariant-loop
invariant-loop g l = IsBeingRecovered l.fn.maker l.fn.desk l.meta l.fn.met l.machine l.desk × (l.desk.log.clock ≡ l.fn.desk.log.clock)
