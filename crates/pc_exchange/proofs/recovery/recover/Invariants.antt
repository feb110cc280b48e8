use Rattle.std.proofs.Common.{◌≡◌}
use Rattle.pc_exchange.specs.Growing.{IsSameActor}
use Rattle.pc_exchange.specs.Recovering.{RecoversForRound, MayRecoverInRound}
use Rattle.pc_exchange.proofs.recovery.recover.Given as goal

abbrev pub invariant-loop : goal.invariant-loop
invariant-loop g l =
    ((start : MayRecoverInRound l.fn.desk l.fn.own l.fn.holder l.fn.met) → RecoversForRound l.fn.desk l.fn.own l.fn.holder l.fn.met start l.machine l.desk)
    × (l.desk.log.clock ≡ l.fn.desk.log.clock) × IsSameActor l.fn.desk l.desk
