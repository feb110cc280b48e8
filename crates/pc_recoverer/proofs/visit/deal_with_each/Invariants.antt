use Rattle.std.proofs.Common.{◌≡◌, take}
use Rattle.pc_recoverer.specs.InRound.{HasDealtWithEach}
use Rattle.pc_recoverer.proofs.visit.deal_with_each.Given as goal

abbrev pub invariant-loop-meta : goal.invariant-loop-meta
invariant-loop-meta g l = HasDealtWithEach l.fn.maker (take l.meta-index l.metas) l.fn.desk l.desk × (l.desk.log.clock ≡ l.fn.desk.log.clock)
