-- What a print leaves behind that ran out of memory. Own profile.
use Rattle.std.specs.Prelude.{◌≡◌, ℕ, List, ◌++◌, take}

-- Some first part of the text, which may be none or all of it, was appended to the old bytes.
pub record AppendsPart (old text new : List ℕ) : Type 0 where
  pub count : ℕ
  pub appended : new ≡ old ++ take count text
