-- What is printed so far is the first items, the byte before each, and these have a spelling.
use Rattle.std.proofs.Common.{◌≡◌, ◌∷◌, ◌++◌, take, All}
use Rattle.std.specs.List.{flat_map}
use Rattle.pc_journal.proofs.lists.each_behind.Given as goal

abbrev pub invariant-loop-item : goal.invariant-loop-item
invariant-loop-item g l = record {
  text : l.out.items ≡ l.initial.out.items ++ flat_map (λ item. l.byte ∷ g.T.Text.text item) (take l.item-index l.items);
  spelled : All g.T.Text.spelled (take l.item-index l.items);
}
