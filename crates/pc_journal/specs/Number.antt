-- How numbers and timestamps are spelled. Own profile.
use Rattle.std.specs.Prelude.{ℕ, ◌/◌, ◌%◌, ◌^◌, List, ◌∷◌, ◌++◌}
use Rattle.std.specs.Fmt.{decimal}

-- A timestamp's two parts with a dot between them: `10.0`.
abbrev pub ts_text : ℕ → List ℕ
ts_text ts = decimal (ts / 2 ^ 32) ++ (46 ∷ decimal (ts % 2 ^ 32))

-- A clock's reading behind an at sign: `@12`.
abbrev pub reading_text : ℕ → List ℕ
reading_text reading = 64 ∷ decimal reading
