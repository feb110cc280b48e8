-- An actor takes a note.
use Rattle.std.proofs.Common.{◌≡◌, ◌≢◌, ℕ, ◌+◌, ◌≤◌, ◌⊎◌, inl, inr, List, sym, ◌∙◌, subst, arith, Some, slice_set}
use Rattle.std.proofs.lemmas.List.Elements.{Contains-append_cases}
use mathlib.Core.Option as found
use lib.ListN.{get_elem?}
use Rattle.atomic_table.specs.Table.{Joins}
use Rattle.atomic_table.proofs.Lists.{at_set, set_else}
use Rattle.pc_history.specs.declared.view.Role.TheVariants.{Acting, Noting}
use Rattle.pc_history.specs.declared.view.View.{View}
use Rattle.pc_history.specs.Sense.{Sense}
use Rattle.pc_history.specs.Table.{Rules, uses_in, view_uses, Fits}
use Rattle.pc_history.specs.Steps.{after_taking, spent}
use Rattle.pc_history.proofs.Uses.{uses_of-append}
use Rattle.pc_history.proofs.Fitting.{fits-actor, fits-note, actor-fits}
use Rattle.pc_lists.proofs.Lists.{sum_set}

-- what stands in a list in which two elements were replaced
pub at_two : {A : Type 0} (xs : List A) (i j k : ℕ) (a b c : A) → get_elem? (slice_set (slice_set xs i a) j b) k ≡ found.some c
    → ((k ≡ j) × (b ≡ c)) ⊎ ((k ≢ j) × (((k ≡ i) × (a ≡ c)) ⊎ ((k ≢ i) × (get_elem? xs k ≡ found.some c))))
at_two xs i j k a b c h =
    elim (at_set (slice_set xs i a) j k b c h) [ inl e ↦ inl e | inr e ↦ inr (e.0, at_set xs i k a c e.1) ]

-- the total where one of two views got the uses of both, and the other has none
pub uses-joined : {W E : Type 0} (n : ℕ) (views : List (View W E)) (seat other : ℕ) (v w both : View W E) → get_elem? views seat ≡ found.some v → (other ≡ seat → ⊥) → get_elem? (slice_set views seat both) other ≡ found.some w
    → view_uses n both ≤ view_uses n v + view_uses n w → uses_in n (slice_set (slice_set views seat both) other spent) ≤ uses_in n views
uses-joined {W} {E} n views seat other v w both at apart at' few =
    let a : uses_in n (slice_set views seat both) + view_uses n v ≡ uses_in n views + view_uses n both = sum_set (view_uses n) views seat v both at in
    let b : uses_in n (slice_set (slice_set views seat both) other spent) + view_uses n w ≡ uses_in n (slice_set views seat both) + view_uses n (spent {W = W} {E = E}) = sum_set (view_uses n) (slice_set views seat both) other w spent at' in
    let z : view_uses n (spent {W = W} {E = E}) ≡ 0 = omega arith in
    omega arith

module _ {X W E : Type 0} (sense : W → Sense E) (w : W) where
  pub take_joins : (seat other : ℕ) (v note : View W E) → v.role ≡ Acting → note.role ≡ Noting → Joins {S = X} (Rules sense w) seat v other note (after_taking v note) spent
  take_joins seat other v note acts notes s table at apart at' =
      let S = sense w in
      let there : get_elem? s.views other ≡ found.some note = sym (set_else s.views seat other (after_taking v note) apart) ∙ at' in
      let actor = fits-actor S (Some w) table.history table.books seat v acts (table.fits seat v at) in
      let told' = fits-note S (Some w) table.history table.books other note notes (table.fits other note there) in
      record {
        history = table.history;
        books = table.books;
        word = table.word;
        fine = table.fine;
        room = table.room;
        few = table.few;
        actors = table.actors;
        seats = table.seats;
        fresh = table.fresh;
        uses = (λ n.
            let less : uses_in n (slice_set (slice_set s.views seat (after_taking v note)) other spent) ≤ uses_in n s.views =
            uses-joined n s.views seat other v note (after_taking v note) at apart at' (let e = uses_of-append n v.part.known note.part.known in omega arith) in
            let old = table.uses n in
            omega arith);
        fits = (λ k u at_k.
            elim (at_two s.views seat other k (after_taking v note) spent u at_k) [
              | inl e ↦ subst (λ z. Fits S (Some w) table.history table.books k z) e.1 tt
              | inr e ↦ elim (e.1) [
                | inl here ↦ subst (λ z. Fits S (Some w) table.history table.books k z) here.1 (actor-fits S (Some w) table.history table.books k (after_taking v note) acts record {
                  world_is = actor.world_is;
                  sits = subst (λ i. table.books.seat_of v.part.id ≡ i + 1) (sym here.0) actor.sits;
                  part_is = record {
                    list = actor.part_is.list;
                    gifts = actor.part_is.gifts;
                    stand = (λ l c. elim (Contains-append_cases v.part.known note.part.known l c) [ inl old ↦ actor.part_is.stand l old | inr new' ↦ told'.stand l new' ]);
                  };
                })
                | inr elsewhere ↦ table.fits k u elsewhere.1
              ]
            ]);
      }
