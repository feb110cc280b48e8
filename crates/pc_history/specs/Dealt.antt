-- A history whose entries are dealt out to lists.
use Rattle.std.specs.Prelude.{◌≡◌, ◌<◌, ℕ, eqb, length, List, [], map, filter, All, slice_index_or}
use Rattle.pc_base.specs.declared.Entry.{Entry}

module _ {E : Type 0} where
  -- The entries that go to the list at a place, in their order.
  abbrev pub dealt_to : (Entry E → ℕ) → ℕ → List (Entry E) → List (Entry E)
  dealt_to place at history = filter (λ e. eqb (place e) at) history

  -- Each list has the entries that go to it, in their order.
  abbrev pub HaveDealt : List (Entry E) → (Entry E → ℕ) → List (List (Entry E)) → Type 0
  HaveDealt history place lists = (at : ℕ) → at < length lists → slice_index_or lists at [] ≡ dealt_to place at history

  -- So many entries, whose numbers are their places, are dealt out to the lists.
  pub record IsDealt (history : List (Entry E)) (place : Entry E → ℕ) (lists : List (List (Entry E))) (steps : ℕ) : Type 0 where
    pub whole : length history ≡ steps
    pub numbered : (k : ℕ) (d : Entry E) → k < length history → (slice_index_or history k d).step ≡ k
    pub placed : All (λ e. place e < length lists) history
    pub have : HaveDealt history place lists

  -- Some history of this length is dealt out to the lists.
  abbrev pub AreDealt : List (List (Entry E)) → ℕ → Type 0
  AreDealt lists steps = (history : List (Entry E)) × (place : Entry E → ℕ) × IsDealt history place lists steps

  -- Whatever history of this length is dealt out to the lists, these entries are that history.
  abbrev pub IsDealtBack : List (Entry E) → List (List (Entry E)) → ℕ → Type 0
  IsDealtBack entries lists steps = (history : List (Entry E)) (place : Entry E → ℕ) → IsDealt history place lists steps → entries ≡ history

  -- Whatever history is dealt out to the lists in these turns, these entries are that history.
  abbrev pub AreInTurns : List (Entry E) → List ℕ → List (List (Entry E)) → Type 0
  AreInTurns entries turns lists = (history : List (Entry E)) (place : Entry E → ℕ) → turns ≡ map place history → HaveDealt history place lists → entries ≡ history
