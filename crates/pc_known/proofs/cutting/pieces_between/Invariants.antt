use Rattle.std.proofs.Common.{◌≡◌, ◌++◌, None, drop}
use Rattle.std.specs.Option.{option_copied}
use Rattle.pc_world.specs.RangeOf.{pieces_from}
use Rattle.pc_known.proofs.cutting.pieces_between.Given as goal

abbrev pub invariant-loop-split : goal.invariant-loop-split
invariant-loop-split l = record {
  counted : l.range ≡ l.split-index;
  cut : pieces_from 0 None l.splits (option_copied l.from) (option_copied l.to) ≡ l.made.items ++ pieces_from l.range (option_copied l.low) (drop l.split-index l.splits) (option_copied l.from) (option_copied l.to);
}
