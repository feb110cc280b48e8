use Rattle.std.proofs.Common.{◌≡◌}
use Rattle.pc_exchange.specs.Finishing.{IsJobUnderWay}
use Rattle.pc_exchange.proofs.finish.finish_job.Given as goal

abbrev pub invariant-loop : goal.invariant-loop
invariant-loop g l = IsJobUnderWay l.fn.desk l.fn.job l.machine l.desk l.heard × (l.desk.log.clock ≡ l.fn.desk.log.clock)
