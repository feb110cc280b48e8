-- Reading from text to value: where a text is cut, and how what is read of its parts is put together. What cannot be read
-- has no value. Own profile.
use Rattle.std.specs.Prelude.{ℕ, ◌==◌, if◌then◌else◌, List, [], ◌∷◌, Option, None, Some, option_map, option_and_then, bytes_eq, codes}
use Rattle.std.specs.List.{slice_split}
use Rattle.std.specs.Option.{option_map_or}

-- What stands before the first such byte, and what behind it.
unfoldable pub cut : ℕ → List ℕ → Option (List ℕ × List ℕ)
cut byte [] = None
cut byte (b ∷ bs) =
    if b == byte then Some ([], bs) else option_map (λ p. (b ∷ p.0, p.1)) (cut byte bs)

-- What stands before the last such byte, and what behind it.
unfoldable pub cut_last : ℕ → List ℕ → Option (List ℕ × List ℕ)
cut_last byte [] = None
cut_last byte (b ∷ bs) =
    option_map_or (λ p. Some (b ∷ p.0, p.1)) (cut_last byte bs) (if b == byte then Some ([], bs) else None)

-- The two parts of what was cut, each read by its own reading.
abbrev pub each_part : {A B : Type 0} → (List ℕ → Option A) → (List ℕ → Option B) → Option (List ℕ × List ℕ) → Option (A × B)
each_part one other parts =
    option_and_then (λ p. option_and_then (λ x. option_map (λ y. (x, y)) (other p.1)) (one p.0)) parts

-- The part before the first such byte, and the part behind it.
abbrev pub both : {A B : Type 0} → ℕ → (List ℕ → Option A) → (List ℕ → Option B) → List ℕ → Option (A × B)
both byte one other bs = each_part one other (cut byte bs)

-- The same of two parts of a line, which stand one space apart.
infixr 60 ◌&◌
abbrev pub ◌&◌ : {A B : Type 0} → (List ℕ → Option A) → (List ℕ → Option B) → List ℕ → Option (A × B)
(one & other) bs = both 32 one other bs

-- The same of two parts within one part of a line, a colon between them.
infixr 60 ◌:&◌
abbrev pub ◌:&◌ : {A B : Type 0} → (List ℕ → Option A) → (List ℕ → Option B) → List ℕ → Option (A × B)
(one :& other) bs = both 58 one other bs

-- What is made of that which is read.
abbrev pub made : {A B : Type 0} → (A → B) → (List ℕ → Option A) → List ℕ → Option B
made make one bs = option_map make (one bs)

-- A dash for nothing, or what is there.
abbrev pub or_dash_at : {A : Type 0} → (List ℕ → Option A) → List ℕ → Option (Option A)
or_dash_at one bs = if bytes_eq bs (codes "-") then Some None else option_map Some (one bs)

-- Each of some texts.
abbrev pub each_at : {A : Type 0} → (List ℕ → Option A) → List (List ℕ) → Option (List A)
each_at one [] = Some []
each_at one (bs ∷ below) =
    option_and_then (λ first. option_map (λ rest. first ∷ rest) (each_at one below)) (one bs)

-- A dash for no items, or items with a comma between each two.
abbrev pub list_at : {A : Type 0} → (List ℕ → Option A) → List ℕ → Option (List A)
list_at one bs = if bytes_eq bs (codes "-") then Some [] else each_at one (slice_split (λ b. b == 44) bs)

-- The first word and the rest, or all of the text as the word where it was not cut.
abbrev pub word_or_all : List ℕ → Option (List ℕ × List ℕ) → List ℕ × Option (List ℕ)
word_or_all bs None = (bs, None)
word_or_all bs (Some parts) = (parts.0, Some parts.1)

-- A text's first word, which ends at the byte, and what stands behind that byte where it is there.
abbrev pub word_of : ℕ → List ℕ → List ℕ × Option (List ℕ)
word_of byte bs = word_or_all bs (cut byte bs)

-- Where the word is this one, what stands behind it is read so; other words are read as said next.
abbrev pub or_word : {A : Type 0} → List ℕ → (Option (List ℕ) → Option A) → (List ℕ × Option (List ℕ) → Option A) → List ℕ × Option (List ℕ) → Option A
or_word word one other p = if bytes_eq p.0 word then one p.1 else other p

-- No other word is known.
abbrev pub no_word : {A : Type 0} → List ℕ × Option (List ℕ) → Option A
no_word p = None

-- The word alone, and nothing behind it.
abbrev pub alone : {A : Type 0} → A → Option (List ℕ) → Option A
alone value None = Some value
alone value (Some rest) = None

-- What is made of that which is read behind the word.
abbrev pub behind : {A B : Type 0} → (A → B) → (List ℕ → Option A) → Option (List ℕ) → Option B
behind make one None = None
behind make one (Some rest) = option_map make (one rest)
