use Rattle.std.proofs.Common.{◌≡◌}
use Rattle.pc_ends.proofs.Begun.{HasBegunRounds, HaveBegunBut}
use Rattle.pc_ends.specs.SessionClock.{session_rule}
use Rattle.pc_ends.proofs.beginning.begin_recoverers.Given as goal

abbrev pub invariant-loop-actor : goal.invariant-loop-actor
invariant-loop-actor g l =
    HaveBegunBut (HasBegunRounds (session_rule g.M.Clock.Clock.rule) (g.M.Clocks.rules l.fn.clocks) l.fn.work) l.fn.actors.items l.actor-iterator.rest.items l.recoverers.items
    × (g.M.Clocks.rules l.clocks ≡ g.M.Clocks.rules l.fn.clocks)
