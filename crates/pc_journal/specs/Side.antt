-- How two texts stand beside each other, with one byte between them. Each of these groups to the right and each first
-- part lacks the byte that follows it, so that a line is cut at its first such byte. Own profile.
use Rattle.std.specs.Prelude.{ℕ, List, ◌∷◌, ◌++◌}

-- The first text, a space and the second: `tell` and `done` are `tell done`.
infixr 60 ◌·◌
abbrev pub ◌·◌ : List ℕ → List ℕ → List ℕ
first · second = first ++ (32 ∷ second)

-- The first text, a colon and the second: `a` and `1` are `a:1`.
infixr 60 ◌⦂◌
abbrev pub ◌⦂◌ : List ℕ → List ℕ → List ℕ
first ⦂ second = first ++ (58 ∷ second)

-- The first text, a line feed and the second: one line, and the lines below it.
infixr 55 ◌⏎◌
abbrev pub ◌⏎◌ : List ℕ → List ℕ → List ℕ
first ⏎ second = first ++ (10 ∷ second)
