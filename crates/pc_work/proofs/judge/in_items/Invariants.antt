-- The least number so far, with that of the values that are left, is the least of all.
use Rattle.std.proofs.Common.{◌≡◌, drop}
use Rattle.serde_json.specs.View.{items_view}
use Rattle.pc_work.specs.Refusal.{in_items, least}
use Rattle.pc_work.proofs.judge.in_items.Given as goal

abbrev pub invariant-loop-value : goal.invariant-loop-value
invariant-loop-value g l = least l.found (in_items g.T.Judged.refusal_in (items_view (drop l.value-index l.values))) ≡ in_items g.T.Judged.refusal_in (items_view l.values)
