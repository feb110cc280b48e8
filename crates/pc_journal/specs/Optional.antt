-- How keys and values are spelled that may be absent. Own profile.
use Rattle.std.specs.Prelude.{ℕ, List, ◌∷◌, Option, None, Some, codes}

-- What is there as its own text, and what is absent as a dash: `m`, `-`.
abbrev pub or_dash : {A : Type 0} → (A → List ℕ) → Option A → List ℕ
or_dash text None = codes "-"
or_dash text (Some here) = text here

-- A key is its bytes: `a`.
abbrev pub key_text : List ℕ → List ℕ
key_text key = key

-- A value is its bytes behind an equals sign, so that the empty value is no deletion: `=x`.
abbrev pub value_text : List ℕ → List ℕ
value_text value = 61 ∷ value
