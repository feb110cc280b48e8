use Rattle.std.proofs.Common.{◌↔◌, drop}
use Rattle.pc_base.specs.declared.limits.TheConstants.{MOST_CONFLICTS}
use Rattle.pc_world.specs.Counting.{AtLeast}
use Rattle.pc_world.specs.Tell.Refusal.{IsConflictOf}
use Rattle.pc_may_tell.proofs.refusal.met_eight.Given as goal

abbrev pub invariant-loop-hearing : goal.invariant-loop-hearing
invariant-loop-hearing l = AtLeast (IsConflictOf l.request) l.left (drop l.hearing-index l.heard_now) ↔ AtLeast (IsConflictOf l.request) MOST_CONFLICTS l.heard_now
