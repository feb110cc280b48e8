-- The rows so far are those of the keys so far.
use Rattle.std.proofs.Common.{◌≡◌}
use Rattle.std.specs.List.{filter_map}
use Rattle.pc_world.specs.Evaluation.Get.{found_at}
use Rattle.pc_world.specs.Evaluation.Scan.{row_found}
use Rattle.pc_eval.proofs.state.RangeState.rows_at_keys.Given as goal

abbrev pub invariant-loop-key : goal.invariant-loop-key
invariant-loop-key l =
    l.rows ≡ filter_map (λ key. row_found key (found_at l.id l.epoch l.seq l.ts key l.self)) l.yielded
