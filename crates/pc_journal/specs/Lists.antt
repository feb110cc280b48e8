-- How lists are spelled. Own profile.
use Rattle.std.specs.Prelude.{ℕ, List, [], ◌∷◌, map, codes}
use Rattle.std.specs.List.{join_with_byte}

-- The items with a comma between each two, and a dash where there is none: `a,b`, `-`.
abbrev pub listed : {A : Type 0} → (A → List ℕ) → List A → List ℕ
listed text [] = codes "-"
listed text (first ∷ rest) = join_with_byte 44 (map text (first ∷ rest))
