-- A new table meets the rule.
use Rattle.std.proofs.Common.{◌≡◌, ℕ, zero, suc, inl, [], ◌∷◌, refl, sym, subst, arith, Some}
use mathlib.Core.Option as found
use lib.ListN.{get_elem?}
use Rattle.pc_history.specs.declared.view.View.{View}
use Rattle.pc_history.specs.Sense.{Sense}
use Rattle.pc_history.specs.Table.{Books, Fits, IsStepTable, opening_view}
use Rattle.pc_lists.proofs.Lists.{contains_nil}

abbrev empty_books : Books
empty_books = record { seat_of = (λ id. 0); given_of = (λ step. 0); seated = [] }

opens : {W E : Type 0} (S : Sense E) (w : W) (seat : ℕ) (v : View W E) → get_elem? (opening_view {E = E} w ∷ []) seat ≡ found.some v → Fits S (Some w) [] empty_books seat v
opens {W} {E} S w zero v at =
    subst (λ z. Fits S (Some w) [] empty_books 0 z) (found.some-injective (opening_view {E = E} w) v at)
    record { first = refl; world_is = refl; seated_are = refl; parts_are = (λ p c. absurd (contains_nil p c)); distinct = (λ id. omega arith) }
opens S w (suc seat) v at = absurd (found.some-ne-none v (sym at))

pub opening_table : {W E : Type 0} (S : Sense E) (w : W) → IsStepTable S (Some w) (0 ∷ []) (opening_view {E = E} w ∷ [])
opening_table S w = record {
  history = [];
  books = empty_books;
  word = refl;
  fine = tt;
  room = (λ id. omega arith);
  few = omega arith;
  actors = (λ e c. absurd (contains_nil e c));
  seats = (λ id. inl refl);
  fresh = (λ step h. refl);
  uses = (λ step. omega arith);
  fits = opens S w;
}
