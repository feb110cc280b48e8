-- Keys that rise.
use Rattle.std.specs.Prelude.{Bool, true, ◌&&◌, List, [], ◌∷◌, IsTrue, ℕ}
use Rattle.pc_base.specs.Span.{key_below}

-- Whether each key is strictly above the one before.
abbrev pub keys_rise : List (List ℕ) → Bool
keys_rise [] = true
keys_rise (key ∷ []) = true
keys_rise (key ∷ next ∷ keys) = key_below key next && keys_rise (next ∷ keys)

-- The keys rise.
abbrev pub AreRising : List (List ℕ) → Type 0
AreRising keys = IsTrue (keys_rise keys)
