-- The rows so far are those of the versions so far.
use Rattle.std.proofs.Common.{◌≡◌, map, take}
use Rattle.std.specs.List.{filter_map}
use Rattle.pc_eval.specs.RowOf.{row_of}
use Rattle.pc_eval.proofs.state.RangeState.rows_of_versions.Given as goal

abbrev pub invariant-loop-version : goal.invariant-loop-version
invariant-loop-version l = l.rows ≡ filter_map row_of (map (λ v. v.now) (take l.version-index l.version-items))
