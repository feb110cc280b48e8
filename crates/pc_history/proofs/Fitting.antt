-- What the rule says of one seat, and what follows from it.
use Rattle.std.proofs.Common.{◌≡◌, ℕ, ◌*◌, ◌<◌, ◌≤◌, ◌^◌, inl, inr, List, length, refl, ap, sym, subst, arith, All, Contains, Option, slice_set, slice_index, mul-le-mul_right}
use Rattle.std.proofs.lemmas.List.Elements.{All-contains, Contains-append_cases}
use mathlib.Core.Option as found
use lib.ListN.{get_elem?}
use Rattle.pc_base.specs.declared.Entry.{Entry}
use Rattle.pc_history.specs.declared.pair.Pair.{Pair}
use Rattle.pc_history.specs.declared.view.Role.{Role}
use Rattle.pc_history.specs.declared.view.Role.TheVariants.{Opening, Acting, Noting, Spent}
use Rattle.pc_history.specs.declared.view.Known.{Known}
use Rattle.pc_history.specs.declared.view.Part.{Part}
use Rattle.pc_history.specs.declared.view.View.{View}
use Rattle.pc_history.specs.Sense.{Sense}
use Rattle.pc_history.specs.Own.{entries_of}
use Rattle.pc_history.specs.History.{IsFine}
use Rattle.pc_history.specs.World.{IsWorld, HasAll}
use Rattle.pc_history.specs.Parts.{knowledge, told_entries}
use Rattle.pc_history.specs.Closed.{IsSound, Stands}
use Rattle.pc_history.specs.Table.{Books, FitsActing, IsPart, FitsOpener, FitsNote, FitsAs, Fits, IsStepTable}
use Rattle.pc_history.specs.Steps.{TellsLook}
use Rattle.pc_history.proofs.Histories.{own-contains, fine-below, fine-one, fine-kept, stands-contains}
use Rattle.pc_history.proofs.Counts.{history-bound}
use Rattle.pc_lists.proofs.Lists.{all_from_contains, contains_in_map}

module _ {W E : Type 0} (S : Sense E) (world : Option W) (history : List (Entry E)) (books : Books) where
  pub fits-opener : (seat : ℕ) (v : View W E) → v.role ≡ Opening → Fits S world history books seat v → FitsOpener S world history books seat v
  fits-opener seat v role fits = subst (λ r. FitsAs S world history books r seat v) role fits

  pub fits-actor : (seat : ℕ) (v : View W E) → v.role ≡ Acting → Fits S world history books seat v → FitsActing S world history books seat v
  fits-actor seat v role fits = subst (λ r. FitsAs S world history books r seat v) role fits

  pub fits-note : (seat : ℕ) (v : View W E) → v.role ≡ Noting → Fits S world history books seat v → FitsNote S world history v
  fits-note seat v role fits = subst (λ r. FitsAs S world history books r seat v) role fits

  pub opener-fits : (seat : ℕ) (v : View W E) → v.role ≡ Opening → FitsOpener S world history books seat v → Fits S world history books seat v
  opener-fits seat v role fits = subst (λ r. FitsAs S world history books r seat v) (sym role) fits

  pub actor-fits : (seat : ℕ) (v : View W E) → v.role ≡ Acting → FitsActing S world history books seat v → Fits S world history books seat v
  actor-fits seat v role fits = subst (λ r. FitsAs S world history books r seat v) (sym role) fits

  pub note-fits : (seat : ℕ) (v : View W E) → v.role ≡ Noting → FitsNote S world history v → Fits S world history books seat v
  note-fits seat v role fits = subst (λ r. FitsAs S world history books r seat v) (sym role) fits

module _ {W E : Type 0} (S : Sense E) (world : Option W) (history history' : List (Entry E)) (books books' : Books) (seat : ℕ) (v : View W E) where
  fits-as_by : (r : Role)
      → (FitsOpener S world history books seat v → FitsOpener S world history' books' seat v)
      → (FitsActing S world history books seat v → FitsActing S world history' books' seat v)
      → (FitsNote S world history v → FitsNote S world history' v)
      → FitsAs S world history books r seat v → FitsAs S world history' books' r seat v
  fits-as_by Opening o a n f = o f
  fits-as_by Acting o a n f = a f
  fits-as_by Noting o a n f = n f
  fits-as_by Spent o a n f = tt

  -- a view that fits goes on to fit if it does in each role
  pub fits-by : (FitsOpener S world history books seat v → FitsOpener S world history' books' seat v)
      → (FitsActing S world history books seat v → FitsActing S world history' books' seat v)
      → (FitsNote S world history v → FitsNote S world history' v)
      → Fits S world history books seat v → Fits S world history' books' seat v
  fits-by o a n f = fits-as_by v.role o a n f

module _ {E : Type 0} (S : Sense E) where
  -- the history has all that an actor stored or knows
  pub part-in : (history : List (Entry E)) (given : ℕ → ℕ) (part : Part E) → IsPart S history given part → HasAll (knowledge part) history
  part-in history given part is a c =
      elim (Contains-append_cases (entries_of part.own) (told_entries part.known) a c) [
        | inl mine ↦
            let r = contains_in_map (λ (p : Pair E). p.entry) part.own a mine in
            subst (λ z. Contains history z) r.2 (own-contains S part.id history r.0 (subst (λ ps. Contains ps r.0) is.list r.1)).0
        | inr told ↦
            let r = contains_in_map (λ (k : Known E). k.entry) part.known a told in
            subst (λ z. Contains history z) r.2 (stands-contains S history r.0 (is.stand r.0 r.1))
      ]

  -- entries of a fine history are sound
  pub sound-in : IsWorld S → (history entries : List (Entry E)) → IsFine S history → HasAll entries history → IsSound S entries
  sound-in laws history entries fine has = record {
    kept = all_from_contains (λ e. S.kept e.step e.event) entries (λ e c. All-contains (λ e. S.kept e.step e.event) history e (fine-kept S laws history fine) (has e c));
    differ = (λ a b ca cb same. fine-one S history a b fine (has a ca) (has b cb) same);
    one = (λ event a b ca cb na nb. laws.names_one history event fine a b (has a ca) (has b cb) na nb);
  }

  pub above-in : (history entries : List (Entry E)) → IsFine S history → HasAll entries history → All (λ e. e.step < length history) entries
  above-in history entries fine has = all_from_contains (λ e. e.step < length history) entries (λ e c. fine-below S history e fine (has e c))

module _ {W E : Type 0} (S : Sense E) (world : Option W) (words : List ℕ) (views : List (View W E)) where
  -- a table has at most 2^48 entries
  pub table-small : (table : IsStepTable S world words views) → length table.history ≤ 2 ^ 48
  table-small table =
      let bound : length table.history ≤ length table.books.seated * 2 ^ 32 = history-bound S table.books.seated table.history (2 ^ 32) table.actors table.room in
      let few : length table.books.seated * 2 ^ 32 ≤ 65536 * 2 ^ 32 = mul-le-mul_right (2 ^ 32) table.few in
      let top : 65536 * 2 ^ 32 ≡ 2 ^ 48 = refl in
      omega arith

  pub word-is : (table : IsStepTable S world words views) → slice_index words 0 ≡ length table.history
  word-is table = ap (λ ws. slice_index ws 0) table.word

  pub words-same : (table : IsStepTable S world words views) → slice_set words 0 (slice_index words 0) ≡ words
  words-same table = subst (λ ws. slice_set ws 0 (slice_index ws 0) ≡ ws) (sym table.word) refl

  -- what a look at the table tells an actor
  pub table-tells : IsWorld S → (table : IsStepTable S world words views) (seat : ℕ) (v : View W E) → get_elem? views seat ≡ found.some v → v.role ≡ Acting → TellsLook S v.part (slice_index words 0)
  table-tells laws table seat v at role =
      let actor = fits-actor S world table.history table.books seat v role (table.fits seat v at) in
      let has = part-in S table.history table.books.given_of v.part actor.part_is in
      let n = word-is table in
      record {
        small = subst (λ m. m ≤ 2 ^ 48) (sym n) (table-small table);
        above = subst (λ m. All (λ e. e.step < m) (knowledge v.part)) (sym n) (above-in S table.history (knowledge v.part) table.fine has);
        sound = sound-in S laws table.history (knowledge v.part) table.fine has;
        stands = record {
          history = table.history;
          short = table-small table;
          fine = table.fine;
          list = sym actor.part_is.list;
          stand = all_from_contains (Stands S table.history) v.part.known actor.part_is.stand;
        };
      }
