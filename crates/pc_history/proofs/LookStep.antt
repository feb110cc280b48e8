-- An actor looks at the number of steps.
use Rattle.std.proofs.Common.{◌≡◌, ℕ, List, refl, sym, ◌∙◌, subst, Some, slice_index, slice_set}
use mathlib.Core.Option as found
use lib.ListN.{get_elem?}
use Rattle.atomic_table.specs.Table.{State, Allows, keeps}
use Rattle.atomic_table.proofs.Lists.{set_again}
use Rattle.pc_history.specs.declared.view.Role.TheVariants.{Acting}
use Rattle.pc_history.specs.declared.view.View.{View}
use Rattle.pc_history.specs.Sense.{Sense}
use Rattle.pc_history.specs.World.{IsWorld}
use Rattle.pc_history.specs.Table.{IsStepTable, Rules}
use Rattle.pc_history.specs.Steps.{TellsLook, Looks}
use Rattle.pc_history.proofs.Fitting.{table-tells, words-same}

module _ {X W E : Type 0} (sense : W → Sense E) (w : W) where
  -- a load of the word leaves the table as it is
  pub loaded : (s : State X (View W E)) (seat : ℕ) (v : View W E) → get_elem? s.views seat ≡ found.some v → Rules sense w s
      → IsStepTable (sense w) (Some w) (slice_set s.words 0 (slice_index s.words 0)) (slice_set s.views seat v)
  loaded s seat v at table =
      subst (λ ws. IsStepTable (sense w) (Some w) ws (slice_set s.views seat v)) (sym (words-same (sense w) (Some w) s.words s.views table))
      (subst (λ vs. IsStepTable (sense w) (Some w) s.words vs) (sym (set_again s.views seat v at)) table)

  pub look_allows : IsWorld (sense w) → (slots seat : ℕ) (v : View W E) (held : List (ℕ × X)) → v.role ≡ Acting → v.world ≡ Some w
      → Allows (Rules sense w) slots seat (v, held) 0 (λ n. n) (Looks sense (v, held))
  look_allows laws slots seat v held role world s table homes at small = (
    v,
    keeps,
    tt,
    loaded s seat v at table,
    (
      refl,
      (λ w' world'.
          let same : w ≡ w' = (let both : Some w ≡ Some w' = sym world ∙ world' in cc both) in
          subst (λ z. TellsLook (sense z) v.part (slice_index s.words 0)) same (table-tells (sense w) (Some w) s.words s.views laws table seat v at role)),
    ),
  )
