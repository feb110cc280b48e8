use Rattle.std.proofs.Common.{◌≡◌, ◌≢◌, ℕ, length, slice_index}
use Rattle.std.specs.List.{AllWithin}
use Rattle.pc_history.proofs.merge.note_turns.Given as goal

abbrev pub invariant-loop-entry : goal.invariant-loop-entry
invariant-loop-entry g l = record {
  len : length l.turns ≡ length l.fn.turns;
  noted : AllWithin (λ e. slice_index l.turns e.step ≡ l.at) l.entries 0 l.entry-index;
  kept : (k : ℕ) → AllWithin (λ e. e.step ≢ k) l.entries 0 l.entry-index → slice_index l.turns k ≡ slice_index l.fn.turns k;
}
