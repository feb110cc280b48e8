use Rattle.std.proofs.Common.{◌≡◌}
use Rattle.pc_exchange.specs.Rounding.{IsRoundUnderWay}
use Rattle.pc_exchange.proofs.round.make_round.Given as goal

abbrev pub invariant-loop : goal.invariant-loop
invariant-loop g l = IsRoundUnderWay l.fn.desk l.fn.pusher l.fn.reading l.fn.conflict l.fn.reader l.machine l.desk l.heard × (l.desk.log.clock ≡ l.fn.desk.log.clock)
