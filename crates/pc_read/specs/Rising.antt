-- How many keys there are, each above the one before. Own profile.
use Rattle.std.specs.Prelude.{ℕ, suc, Bool, true, ◌&&◌, if◌then◌else◌, List, [], ◌∷◌, Option, None, Some, is_some, option_map}
use Rattle.pc_base.specs.Span.{key_below}
use Rattle.pc_spelling.specs.Reading.{key_at}

-- Every key is above none.
abbrev pub is_above : Option (List ℕ) → List ℕ → Bool
is_above None key = true
is_above (Some before) key = key_below before key

-- The number of texts, where each is a key above the one before.
abbrev pub rising : Option (List ℕ) → List (List ℕ) → Option ℕ
rising before [] = Some 0
rising before (key ∷ keys) =
    if is_some (key_at key) && is_above before key then option_map suc (rising (Some key) keys) else None
