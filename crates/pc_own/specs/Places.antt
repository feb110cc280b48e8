-- Where the writes of an epoch stand among them, by their sequences.
use Rattle.std.specs.Prelude.{◌≡◌, ℕ, suc, false, ◌==◌, cond, Option, None, Some, List, [], ◌∷◌, ⊤}
use Rattle.std.specs.BTreeMap.{get}
use Rattle.std.specs.List.{list_any}
use Rattle.std.specs.Option.{option_map}
use Rattle.std.specs.Ordering.{nat_cmp}
use Rattle.pc_own.specs.declared.places.Places.{Places}
use Rattle.pc_world.specs.Known.Writes.{Write, last_seq_of}

-- The place of the first write of this sequence, if there is one.
abbrev pub place_by_sequence : ℕ → List Write → Option ℕ
place_by_sequence seq [] = None
place_by_sequence seq (w ∷ writes) = cond (w.seq == seq) (Some 0) (option_map suc (place_by_sequence seq writes))

-- No two writes have one sequence.
abbrev pub HaveOwnSequences : List Write → Type 0
HaveOwnSequences [] = ⊤
HaveOwnSequences (w ∷ writes) = (list_any (λ v. v.seq == w.seq) writes ≡ false) × HaveOwnSequences writes

-- The index has the place of each sequence and the last one, and no two writes have one sequence.
pub record ArePlacesOf (writes : List Write) (p : Places) : Type 0 where
  pub there : (seq : ℕ) → get nat_cmp p.places seq ≡ place_by_sequence seq writes
  pub last : p.last ≡ last_seq_of writes
  pub apart : HaveOwnSequences writes
