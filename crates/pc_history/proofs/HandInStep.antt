-- The opener takes an actor back.
use Rattle.std.proofs.Common.{◌≡◌, ◌≢◌, ℕ, ◌+◌, ◌≤◌, inl, inr, Bool, true, false, cond, [], ◌∷◌, refl, ap, sym, ◌∙◌, subst, arith, Contains, Some, slice_set}
use Rattle.std.proofs.lemmas.List.{map-append}
use Rattle.std.proofs.lemmas.List.Elements.{Contains-push_cases}
use Rattle.std.proofs.lemmas.List.Sums.{sum_by_push}
use mathlib.Core.Option as found
use lib.ListN.{get_elem?}
use Rattle.atomic_table.specs.Table.{Joins}
use Rattle.atomic_table.proofs.Lists.{set_else}
use Rattle.pc_base.specs.declared.ActorId.{ActorId}
use Rattle.pc_history.specs.declared.view.Role.TheVariants.{Acting, Opening}
use Rattle.pc_history.specs.declared.view.Part.{Part}
use Rattle.pc_history.specs.declared.view.View.{View}
use Rattle.pc_history.specs.Sense.{Sense}
use Rattle.pc_history.specs.Own.{same_id}
use Rattle.pc_history.specs.Parts.{uses_of}
use Rattle.pc_history.specs.Closed.{ids_of}
use Rattle.pc_history.specs.Table.{Books, IsHandedIn, Rules, uses_in, Fits, count_of}
use Rattle.pc_history.specs.Steps.{after_handing_in, spent}
use Rattle.pc_history.proofs.Ids.{same_id-refl, same_id-differ}
use Rattle.pc_history.proofs.Counts.{count-push}
use Rattle.pc_history.proofs.TakeStep.{at_two, uses-joined}
use Rattle.pc_history.proofs.Fitting.{fits-actor, fits-opener, opener-fits, fits-by}
use Rattle.pc_lists.proofs.Lists.{contains_in_map}

-- nobody sits there any more
abbrev left_seat : ActorId → Books → Books
left_seat id books = record books { seat_of = (λ x. cond (same_id x id) 0 (books.seat_of x)) }

left_seat-zero : (id x : ActorId) (books : Books) → books.seat_of x ≡ 0 → (left_seat id books).seat_of x ≡ 0
left_seat-zero id x books h = let by : (b : Bool) → cond b 0 (books.seat_of x) ≡ 0 = elim [ true ↦ refl | false ↦ h ] in by (same_id x id)

left_seat-other : (id x : ActorId) (books : Books) → x ≢ id → (left_seat id books).seat_of x ≡ books.seat_of x
left_seat-other id x books h = ap (λ b. cond b 0 (books.seat_of x)) (same_id-differ x id h)

left_seat-self : (id : ActorId) (books : Books) → (left_seat id books).seat_of id ≡ 0
left_seat-self id books = ap (λ b. cond b 0 (books.seat_of id)) (same_id-refl id)

module _ {X W E : Type 0} (sense : W → Sense E) (w : W) where
  pub hand_in_joins : (seat other : ℕ) (v actor : View W E) → v.role ≡ Opening → actor.role ≡ Acting → Joins {S = X} (Rules sense w) seat v other actor (after_handing_in v actor) spent
  hand_in_joins seat other v actor opens acts s table at apart at' =
      let S = sense w in
      let id = actor.part.id in
      let books = table.books in
      let there : get_elem? s.views other ≡ found.some actor = sym (set_else s.views seat other (after_handing_in v actor) apart) ∙ at' in
      let opener = fits-opener S (Some w) table.history books seat v opens (table.fits seat v at) in
      let gone = fits-actor S (Some w) table.history books other actor acts (table.fits other actor there) in
      let sat : books.seat_of id ≡ other + 1 = gone.sits in
      let member : Contains books.seated id = elim (table.seats id) [ inl zero' ↦ absurd (omega arith) | inr c ↦ c ] in
      let handed : IsHandedIn S (Some w) table.history (left_seat id books) actor.part = record { part_is = gone.part_is; left = left_seat-self id books; member = member } in
      let kept : (p : Part E) → IsHandedIn S (Some w) table.history books p → IsHandedIn S (Some w) table.history (left_seat id books) p = λ p h. record { part_is = h.part_is; left = left_seat-zero id p.id books h.left; member = h.member } in
      let absent : Contains (ids_of v.parts) id → ⊥ = λ c.
      let r = contains_in_map (λ (p : Part E). p.id) v.parts id c in
      let z : books.seat_of r.0.id ≡ 0 = (opener.parts_are r.0 r.1).left in
      let same : books.seat_of r.0.id ≡ books.seat_of id = ap books.seat_of r.2 in omega arith
      in
      record {
        history = table.history;
        books = left_seat id books;
        word = table.word;
        fine = table.fine;
        room = table.room;
        few = table.few;
        actors = table.actors;
        seats = (λ x. elim (table.seats x) [ inl z ↦ inl (left_seat-zero id x books z) | inr c ↦ inr c ]);
        fresh = table.fresh;
        uses = (λ n.
            let less : uses_in n (slice_set (slice_set s.views seat (after_handing_in v actor)) other spent) ≤ uses_in n s.views =
            uses-joined n s.views seat other v actor (after_handing_in v actor) at apart at' (let e = sum_by_push (λ (p : Part E). uses_of n p.known) v.parts actor.part in omega arith) in
            let old = table.uses n in
            omega arith);
        fits = (λ k u at_k.
            elim (at_two s.views seat other k (after_handing_in v actor) spent u at_k) [
              | inl e ↦ subst (λ z. Fits S (Some w) table.history (left_seat id books) k z) e.1 tt
              | inr e ↦ elim (e.1) [
                | inl here ↦ subst (λ z. Fits S (Some w) table.history (left_seat id books) k z) here.1 (opener-fits S (Some w) table.history (left_seat id books) k (after_handing_in v actor) opens record {
                  first = here.0 ∙ opener.first;
                  world_is = opener.world_is;
                  seated_are = opener.seated_are;
                  parts_are = (λ p c. elim (Contains-push_cases v.parts actor.part p c) [
                    | inl old ↦ kept p (opener.parts_are p old)
                    | inr same ↦ subst (λ z. IsHandedIn S (Some w) table.history (left_seat id books) z) same handed
                  ]);
                  distinct = (λ x. subst (λ ids. count_of x ids ≤ 1) (sym (map-append (λ (p : Part E). p.id) v.parts (actor.part ∷ []))) (count-push x id (ids_of v.parts) absent opener.distinct));
                })
                | inr elsewhere ↦
                    fits-by S (Some w) table.history table.history books (left_seat id books) k u
                    (λ o. absurd (elsewhere.0 (o.first ∙ sym opener.first)))
                    (λ a.
                    let sits : books.seat_of u.part.id ≡ k + 1 = a.sits in
                    let differ : u.part.id ≢ id = λ same. (let f : books.seat_of u.part.id ≡ books.seat_of id = ap books.seat_of same in e.0 (omega arith)) in
                    record { world_is = a.world_is; sits = left_seat-other id u.part.id books differ ∙ a.sits; part_is = a.part_is })
                    (λ n. n)
                    (table.fits k u elsewhere.1)
              ]
            ]);
      }
