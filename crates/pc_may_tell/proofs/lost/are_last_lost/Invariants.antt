use Rattle.std.proofs.Common.{◌↔◌, drop, reverse}
use Rattle.pc_known.specs.Sends.{KeepsSends}
use Rattle.pc_world.specs.Known.{Known}
use Rattle.pc_world.specs.Tell.Refusal.{AreLastLost}
use Rattle.pc_may_tell.proofs.lost.are_last_lost.Given as goal

abbrev pub invariant-loop-back : goal.invariant-loop-back
invariant-loop-back l =
    (k : Known) → KeepsSends k l.sends → AreLastLost k.heard l.message (drop l.back (reverse l.sent)) l.left ↔ AreLastLost k.heard l.message (reverse l.sent) l.fn.faults
