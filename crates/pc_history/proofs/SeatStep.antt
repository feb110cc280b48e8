-- The opener makes a seat.
use Rattle.std.proofs.Common.{◌≡◌, ◌≢◌, ℕ, ◌+◌, ◌<◌, ◌⊎◌, inl, inr, Bool, true, false, cond, List, [], ◌∷◌, ◌++◌, length, refl, ap, sym, ◌∙◌, subst, arith, length-append, Contains, Some, slice_set}
use Rattle.std.proofs.lemmas.List.Elements.{Contains-push, Contains-append_left}
use Rattle.std.proofs.lemmas.List.Sums.{sum_by_push}
use mathlib.Core.Option as found
use lib.ListN.{get_elem?}
use Rattle.atomic_table.specs.Table.{Splits}
use Rattle.atomic_table.proofs.Lists.{at_set}
use Rattle.pc_base.specs.declared.ActorId.{ActorId}
use Rattle.pc_history.specs.declared.view.Role.TheVariants.{Opening}
use Rattle.pc_history.specs.declared.view.Part.{Part}
use Rattle.pc_history.specs.declared.view.View.{View}
use Rattle.pc_history.specs.Sense.{Sense}
use Rattle.pc_history.specs.Own.{same_id, own}
use Rattle.pc_history.specs.Table.{Books, IsHandedIn, Rules, uses_in, view_uses, Fits}
use Rattle.pc_history.specs.Steps.{after_seating, seated_view}
use Rattle.pc_history.proofs.Ids.{same_id-refl, same_id-differ, same_id-true}
use Rattle.pc_history.proofs.Histories.{own-contains}
use Rattle.pc_history.proofs.Fitting.{fits-opener, opener-fits, fits-by}
use Rattle.pc_lists.proofs.Lists.{contains_nil, elem_push, length_set, nothing_contained, sum_set}

-- what stands in a list in which one element was replaced and one was added
pub at_split : {A : Type 0} (xs : List A) (i k : ℕ) (a b c : A) → get_elem? (slice_set xs i a ++ b ∷ []) k ≡ found.some c
    → ((k ≡ length xs) × (b ≡ c)) ⊎ (((k ≡ i) × (a ≡ c)) ⊎ ((k ≢ i) × (get_elem? xs k ≡ found.some c)))
at_split xs i k a b c h =
    elim (elem_push (slice_set xs i a) b k c h) [
      | inr e ↦ inl (e.0 ∙ length_set xs i a, e.1)
      | inl e ↦ inr (at_set xs i k a c e)
    ]

-- the total where a view got other uses, and a new view came
pub uses-split : {W E : Type 0} (n : ℕ) (views : List (View W E)) (seat : ℕ) (v left right : View W E) → get_elem? views seat ≡ found.some v
    → uses_in n (slice_set views seat left ++ right ∷ []) + view_uses n v ≡ uses_in n views + (view_uses n left + view_uses n right)
uses-split n views seat v left right at =
    let a : uses_in n (slice_set views seat left) + view_uses n v ≡ uses_in n views + view_uses n left = sum_set (view_uses n) views seat v left at in
    let b : uses_in n (slice_set views seat left ++ right ∷ []) ≡ uses_in n (slice_set views seat left) + view_uses n right = sum_by_push (view_uses n) (slice_set views seat left) right in
    omega arith

-- the id sits on this seat
abbrev new_seat : ActorId → ℕ → Books → Books
new_seat id seat books = record { seat_of = (λ x. cond (same_id x id) (seat + 1) (books.seat_of x)); given_of = books.given_of; seated = books.seated ++ id ∷ [] }

new_seat-other : (id x : ActorId) (seat : ℕ) (books : Books) → x ≢ id → (new_seat id seat books).seat_of x ≡ books.seat_of x
new_seat-other id x seat books h = ap (λ b. cond b (seat + 1) (books.seat_of x)) (same_id-differ x id h)

new_seat-self : (id : ActorId) (seat : ℕ) (books : Books) → (new_seat id seat books).seat_of id ≡ seat + 1
new_seat-self id seat books = ap (λ b. cond b (seat + 1) (books.seat_of id)) (same_id-refl id)

module _ {X W E : Type 0} (sense : W → Sense E) (w : W) where
  pub seat_splits : (seat : ℕ) (v : View W E) (id : ActorId) → v.role ≡ Opening → v.world ≡ Some w → (Contains v.seated id → ⊥) → length v.seated < 65536
      → Splits {S = X} (Rules sense w) seat v (after_seating (Some id) v) (seated_view (Some id) v)
  seat_splits seat v id opens world free few s table at =
      let S = sense w in
      let books = table.books in
      let n = length s.views in
      let books' = new_seat id n books in
      let left = after_seating (Some id) v in
      let right : View W E = seated_view (Some id) v in
      let opener = fits-opener S (Some w) table.history books seat v opens (table.fits seat v at) in
      let free' : Contains books.seated id → ⊥ = λ c. free (subst (λ ids. Contains ids id) (sym opener.seated_are) c) in
      let nobody : books.seat_of id ≡ 0 = elim (table.seats id) [ inl z ↦ z | inr c ↦ absurd (free' c) ] in
      let nothing : own S id table.history ≡ [] = nothing_contained (own S id table.history) (λ p c.
      let r = own-contains S id table.history p c in
      free' (subst (λ a. Contains books.seated a) r.1 (table.actors p.entry r.0))) in
      let other : (x : ActorId) → Contains books.seated x → x ≢ id = λ x c same. free' (subst (λ a. Contains books.seated a) same c) in
      let more : (x : ActorId) → Contains books.seated x → Contains books'.seated x = λ x c. Contains-append_left books.seated (id ∷ []) x c in
      let kept : (p : Part E) → IsHandedIn S (Some w) table.history books p → IsHandedIn S (Some w) table.history books' p = λ p h.
      record { part_is = h.part_is; left = new_seat-other id p.id n books (other p.id h.member) ∙ h.left; member = more p.id h.member } in
      record {
        history = table.history;
        books = books';
        word = table.word;
        fine = table.fine;
        room = table.room;
        few = (let l = length-append books.seated (id ∷ []) in let same : length v.seated ≡ length books.seated = ap length opener.seated_are in omega arith);
        actors = (λ e c. more e.actor (table.actors e c));
        seats = (λ x.
            let by : (b : Bool) → same_id x id ≡ b → (cond b (n + 1) (books.seat_of x) ≡ 0) ⊎ Contains books'.seated x = elim [
              | true ↦ λ e. inr (subst (λ a. Contains books'.seated a) (sym (same_id-true x id e)) (Contains-push books.seated id))
              | false ↦ λ e. elim (table.seats x) [ inl z ↦ inl z | inr c ↦ inr (more x c) ]
            ] in by (same_id x id) refl);
        fresh = table.fresh;
        uses = (λ m.
            let total = uses-split m s.views seat v left right at in
            let none' : view_uses m right ≡ 0 = omega arith in
            let old = table.uses m in
            omega arith);
        fits = (λ k u at_k.
            elim (at_split s.views seat k left right u at_k) [
              | inl e ↦ subst (λ z. Fits S (Some w) table.history books' k z) e.1 record {
                world_is = world;
                sits = subst (λ i. books'.seat_of id ≡ i + 1) (sym e.0) (new_seat-self id n books);
                part_is = record { list = sym nothing; gifts = refl; stand = (λ l c. absurd (contains_nil l c)) };
              }
              | inr e ↦ elim (e) [
                | inl here ↦ subst (λ z. Fits S (Some w) table.history books' k z) here.1 (opener-fits S (Some w) table.history books' k left opens record {
                  first = here.0 ∙ opener.first;
                  world_is = opener.world_is;
                  seated_are = ap (λ ids. ids ++ id ∷ []) opener.seated_are;
                  parts_are = (λ p c. kept p (opener.parts_are p c));
                  distinct = opener.distinct;
                })
                | inr elsewhere ↦
                    fits-by S (Some w) table.history table.history books books' k u
                    (λ o. absurd (elsewhere.0 (o.first ∙ sym opener.first)))
                    (λ a.
                    let sits : books.seat_of u.part.id ≡ k + 1 = a.sits in
                    let differ : u.part.id ≢ id = λ same. (let f : books.seat_of u.part.id ≡ books.seat_of id = ap books.seat_of same in absurd (omega arith)) in
                    record { world_is = a.world_is; sits = new_seat-other id u.part.id n books differ ∙ a.sits; part_is = a.part_is })
                    (λ n. n)
                    (table.fits k u elsewhere.1)
              ]
            ]);
      }
