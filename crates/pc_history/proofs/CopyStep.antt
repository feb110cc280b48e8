-- A note is copied.
use Rattle.std.proofs.Common.{◌≡◌, ℕ, ◌-◌, ◌≤◌, inl, inr, List, [], ◌∷◌, subst, arith, Some}
use Rattle.atomic_table.specs.Table.{Splits}
use Rattle.pc_base.specs.declared.Entry.{Entry}
use Rattle.pc_history.specs.declared.view.Role.TheVariants.{Noting}
use Rattle.pc_history.specs.declared.view.Known.{Known}
use Rattle.pc_history.specs.declared.view.View.{View}
use Rattle.pc_history.specs.Sense.{Sense}
use Rattle.pc_history.specs.Parts.{uses_left, without_uses, with_uses}
use Rattle.pc_history.specs.Closed.{Stands}
use Rattle.pc_history.specs.Table.{AllStand, Rules, Fits}
use Rattle.pc_history.specs.Steps.{after_copying, copied_view}
use Rattle.pc_history.proofs.Uses.{uses_of-split}
use Rattle.pc_history.proofs.SeatStep.{at_split, uses-split}
use Rattle.pc_history.proofs.Fitting.{fits-note, note-fits}
use Rattle.pc_lists.proofs.Lists.{contains_cons, contains_head, contains_nil, contains_tail}

module _ {E : Type 0} (S : Sense E) (history : List (Entry E)) where
  stand-without : (uses : ℕ) (ks : List (Known E)) → AllStand S history ks → AllStand S history (without_uses uses ks)
  stand-without uses [] stand l c = absurd (contains_nil l c)
  stand-without uses (k ∷ ks) stand l c =
      elim (contains_cons (record k { uses = k.uses - uses }) ks l c) [
        | inl same ↦ subst (λ z. Stands S history z) same (stand k (contains_head k ks))
        | inr later ↦ stand l (contains_tail k ks l later)
      ]

  stand-with : (uses : ℕ) (ks : List (Known E)) → AllStand S history ks → AllStand S history (with_uses uses ks)
  stand-with uses [] stand l c = absurd (contains_nil l c)
  stand-with uses (k ∷ ks) stand l c =
      elim (contains_cons (record k { uses = uses }) [] l c) [
        | inl same ↦ subst (λ z. Stands S history z) same (stand k (contains_head k ks))
        | inr later ↦ absurd (contains_nil l later)
      ]

module _ {X W E : Type 0} (sense : W → Sense E) (w : W) where
  pub copy_splits : (seat : ℕ) (v : View W E) (uses : ℕ) → v.role ≡ Noting → uses ≤ uses_left v.part.known
      → Splits {S = X} (Rules sense w) seat v (after_copying (Some uses) v) (copied_view (Some uses) v)
  copy_splits seat v uses notes enough s table at =
      let S = sense w in
      let left = after_copying (Some uses) v in
      let right : View W E = copied_view (Some uses) v in
      let note = fits-note S (Some w) table.history table.books seat v notes (table.fits seat v at) in
      record {
        history = table.history;
        books = table.books;
        word = table.word;
        fine = table.fine;
        room = table.room;
        few = table.few;
        actors = table.actors;
        seats = table.seats;
        fresh = table.fresh;
        uses = (λ n.
            let total = uses-split n s.views seat v left right at in
            let both = uses_of-split n uses v.part.known enough in
            let old = table.uses n in
            omega arith);
        fits = (λ k u at_k.
            elim (at_split s.views seat k left right u at_k) [
              | inl e ↦ subst (λ z. Fits S (Some w) table.history table.books k z) e.1
                  record { world_is = note.world_is; stand = stand-with S table.history uses v.part.known note.stand }
              | inr e ↦ elim (e) [
                | inl here ↦ subst (λ z. Fits S (Some w) table.history table.books k z) here.1 (note-fits S (Some w) table.history table.books k left notes
                    record { world_is = note.world_is; stand = stand-without S table.history uses v.part.known note.stand })
                | inr elsewhere ↦ table.fits k u elsewhere.1
              ]
            ]);
      }
