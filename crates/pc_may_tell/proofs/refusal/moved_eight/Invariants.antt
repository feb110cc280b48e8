use Rattle.std.proofs.Common.{◌↔◌, drop}
use Rattle.pc_base.specs.declared.limits.TheConstants.{MOST_REFUSALS}
use Rattle.pc_may_tell.specs.Moving.{IsMovedNow}
use Rattle.pc_world.specs.Counting.{AtLeast}
use Rattle.pc_may_tell.proofs.refusal.moved_eight.Given as goal

abbrev pub invariant-loop-hearing : goal.invariant-loop-hearing
invariant-loop-hearing l = AtLeast (IsMovedNow l.sends) l.left (drop l.hearing-index l.heard_now) ↔ AtLeast (IsMovedNow l.sends) MOST_REFUSALS l.heard_now
