-- The items read so far, with those of the values that are left, are the items of all values.
use Rattle.std.proofs.Common.{◌≡◌, drop}
use Rattle.serde_json.specs.View.{items_view}
use Rattle.pc_work.specs.Lists.{items_by}
use Rattle.pc_work.proofs.Loop.{with_front}
use Rattle.pc_work.proofs.json.all_of.Given as goal

abbrev pub invariant-loop-value : goal.invariant-loop-value
invariant-loop-value g l = with_front l.items.items (items_by g.T.FromJson.found_in (items_view (drop l.value-index l.values))) ≡ items_by g.T.FromJson.found_in (items_view l.values)
