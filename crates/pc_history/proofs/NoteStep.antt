-- An actor makes a note.
use Rattle.std.proofs.Common.{◌≡◌, ◌≢◌, ℕ, ◌+◌, ◌<◌, inl, inr, false, cond, eqb, List, [], ◌∷◌, length, map, refl, ap, sym, ◌∙◌, subst, arith, Contains, Some, slice_set, slice_get, slice_index, option_map}
use Rattle.std.proofs.lemmas.Bool.{ne_eqb}
use Rattle.std.proofs.lemmas.Option.{slice_get-map, slice_get-get_or}
use Rattle.atomic_table.specs.Table.{Splits}
use Rattle.pc_base.specs.declared.Entry.{Entry}
use Rattle.pc_history.specs.declared.pair.Pair.{Pair}
use Rattle.pc_history.specs.declared.view.Role.TheVariants.{Acting}
use Rattle.pc_history.specs.declared.view.Part.{Part}
use Rattle.pc_history.specs.declared.view.View.{View}
use Rattle.pc_history.specs.Sense.{Sense}
use Rattle.pc_history.specs.Own.{own, entries_of}
use Rattle.pc_history.specs.Parts.{known_entry, known_entry_at, uses_of, noted, gave}
use Rattle.pc_history.specs.Closed.{Stands}
use Rattle.pc_history.specs.Table.{Books, IsPart, Rules, Fits}
use Rattle.pc_history.specs.Steps.{after_noting, noted_view}
use Rattle.pc_history.specs.History.{IsFine}
use Rattle.pc_history.proofs.Histories.{Rises, own-contains, own-rises, fine-one, fine-below}
use Rattle.pc_history.proofs.Uses.{more_given, given-here, given-elsewhere, uses_of-cons}
use Rattle.pc_history.proofs.SeatStep.{at_split, uses-split}
use Rattle.pc_history.proofs.Fitting.{fits-actor, actor-fits, fits-by}
use Rattle.pc_lists.proofs.Lists.{contains_cons, contains_nil, get_contains}

get_some : {A : Type 0} (xs : List A) (i : ℕ) → i < length xs → (a : A) × (slice_get xs i ≡ Some a)
get_some [] i h = absurd (omega arith)
get_some (x ∷ xs) i h = (_, slice_get-get_or (x ∷ xs) i x h)

pub get-map : {A B : Type 0} (f : A → B) (xs : List A) (i : ℕ) (a : A) → slice_get xs i ≡ Some a → slice_get (map f xs) i ≡ Some (f a)
get-map f xs i a h = slice_get-map f xs i ∙ ap (λ o. option_map f o) h

-- uses were given for the entry of this step
abbrev give_at : ℕ → ℕ → Books → Books
give_at step uses books = record books { given_of = more_given books.given_of step uses }

module _ {E : Type 0} (S : Sense E) where
  -- the entries of another actor have other steps
  other-steps : (history : List (Entry E)) (part : Part E) (e : Entry E) → IsFine S history → part.own ≡ own S part.id history → Contains history e → part.id ≢ e.actor
      → (q : Pair E) → Contains part.own q → q.entry.step ≢ e.step
  other-steps history part e fine list has differ q c same =
      let r = own-contains S part.id history q (subst (λ ps. Contains ps q) list c) in
      let one : q.entry ≡ e = fine-one S history q.entry e fine r.0 has same in
      differ (sym r.1 ∙ ap (λ (z : Entry E). z.actor) one)

  -- uses that were given for an entry of one actor leave the counts of the others
  part-elsewhere : (history : List (Entry E)) (given : ℕ → ℕ) (uses : ℕ) (part : Part E) (e : Entry E) → IsFine S history → Contains history e → part.id ≢ e.actor
      → IsPart S history given part → IsPart S history (more_given given e.step uses) part
  part-elsewhere history given uses part e fine has differ is = record {
    list = is.list;
    gifts = is.gifts ∙ sym (given-elsewhere given e.step uses part.own (other-steps history part e fine is.list has differ));
    stand = is.stand;
  }

  -- the actor's own count grows at the place
  part-here : (history : List (Entry E)) (given : ℕ → ℕ) (uses place : ℕ) (part : Part E) (p : Pair E) → IsFine S history → slice_get part.own place ≡ Some p
      → IsPart S history given part → IsPart S history (more_given given p.entry.step uses) (gave place uses part)
  part-here history given uses place part p fine at is =
      let rises = subst (λ ps. Rises 0 ps) (sym is.list) (own-rises S part.id history fine) in
      record {
        list = is.list;
        gifts = ap (λ gs. slice_set gs place (slice_index gs place + uses)) is.gifts ∙ sym (given-here given uses 0 part.own place p rises at);
        stand = is.stand;
      }

module _ {X W E : Type 0} (sense : W → Sense E) (w : W) where
  pub note_splits : (seat : ℕ) (v : View W E) (place uses : ℕ) → v.role ≡ Acting → place < length v.part.own
      → Splits {S = X} (Rules sense w) seat v (after_noting (Some (place, uses)) v) (noted_view (Some (place, uses)) v)
  note_splits seat v place uses acts within s table at =
      let S = sense w in
      let books = table.books in
      let left = after_noting (Some (place, uses)) v in
      let right : View W E = noted_view (Some (place, uses)) v in
      let actor = fits-actor S (Some w) table.history books seat v acts (table.fits seat v at) in
      let r = get_some v.part.own place within in
      let p = r.0 in
      let mine : Contains v.part.own p = get_contains v.part.own place p r.1 in
      let stands = own-contains S v.part.id table.history p (subst (λ ps. Contains ps p) actor.part_is.list mine) in
      let books' = give_at p.entry.step uses books in
      let tells : noted place uses v.part ≡ known_entry p.entry place uses ∷ [] = ap (λ o. known_entry_at place uses o) r.1 in
      let at_place : Stands S table.history (known_entry p.entry place uses) =
      subst (λ a. slice_get (entries_of (own S a table.history)) place ≡ Some p.entry) (sym stands.1)
      (subst (λ ps. slice_get (entries_of ps) place ≡ Some p.entry) actor.part_is.list (get-map (λ (q : Pair E). q.entry) v.part.own place p r.1)) in
      let differ : (part : Part E) → books.seat_of part.id ≢ seat + 1 → part.id ≢ p.entry.actor = λ part h same. h (ap books.seat_of (same ∙ stands.1) ∙ actor.sits) in
      record {
        history = table.history;
        books = books';
        word = table.word;
        fine = table.fine;
        room = table.room;
        few = table.few;
        actors = table.actors;
        seats = table.seats;
        fresh = (λ n past.
            let below = fine-below S table.history p.entry table.fine stands.0 in
            let no' : eqb p.entry.step n ≡ false = ne_eqb p.entry.step n (λ e. omega arith) in
            ap (λ b. books.given_of n + cond b uses 0) no' ∙ (let z = table.fresh n past in omega arith));
        uses = (λ n.
            let total = uses-split n s.views seat v left right at in
            let new' : uses_of n right.part.known ≡ cond (eqb p.entry.step n) uses 0 = ap (λ ks. uses_of n ks) tells ∙ (let c = uses_of-cons n (known_entry p.entry place uses) [] in let z : uses_of {E = E} n [] ≡ 0 = refl in omega arith) in
            let old = table.uses n in
            omega arith);
        fits = (λ k u at_k.
            elim (at_split s.views seat k left right u at_k) [
              | inl e ↦ subst (λ z. Fits S (Some w) table.history books' k z) e.1 record {
                world_is = actor.world_is;
                stand = (λ l c. elim (contains_cons (known_entry p.entry place uses) [] l (subst (λ ks. Contains ks l) tells c)) [
                  | inl same ↦ subst (λ z. Stands S table.history z) same at_place
                  | inr later ↦ absurd (contains_nil l later)
                ]);
              }
              | inr e ↦ elim (e) [
                | inl here ↦ subst (λ z. Fits S (Some w) table.history books' k z) here.1 (actor-fits S (Some w) table.history books' k left acts record {
                  world_is = actor.world_is;
                  sits = subst (λ i. books.seat_of v.part.id ≡ i + 1) (sym here.0) actor.sits;
                  part_is = part-here S table.history books.given_of uses place v.part p table.fine r.1 actor.part_is;
                })
                | inr elsewhere ↦
                    fits-by S (Some w) table.history table.history books books' k u
                    (λ o. record {
                      first = o.first;
                      world_is = o.world_is;
                      seated_are = o.seated_are;
                      parts_are = (λ q c.
                          let h = o.parts_are q c in
                          record { part_is = part-elsewhere S table.history books.given_of uses q p.entry table.fine stands.0 (differ q (λ z. let l = h.left in omega arith)) h.part_is; left = h.left; member = h.member });
                      distinct = o.distinct;
                    })
                    (λ a. record {
                      world_is = a.world_is;
                      sits = a.sits;
                      part_is = part-elsewhere S table.history books.given_of uses u.part p.entry table.fine stands.0 (differ u.part (λ z. let l = a.sits in elsewhere.0 (omega arith))) a.part_is;
                    })
                    (λ n. n)
                    (table.fits k u elsewhere.1)
              ]
            ]);
      }
