use Rattle.std.proofs.Common.{◌≡◌, ◌++◌, map, take, drop}
use Rattle.pc_staging.specs.Kept.{refuted_above}
use Rattle.pc_staging.proofs.staging.Staging.refute_below.Given as goal

abbrev pub invariant-loop-stage : goal.invariant-loop-stage
invariant-loop-stage l = l.stage-items ≡ map (refuted_above l.ts l.step) (take l.stage-index l.initial.stage-items) ++ drop l.stage-index l.initial.stage-items
