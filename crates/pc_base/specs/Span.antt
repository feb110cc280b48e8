-- Which keys a span has: one key, or those from its start, which is inside, to its end, which is outside. An open end
-- bounds nothing. Keys are ordered byte by byte.
use Rattle.std.specs.Prelude.{ℕ, Bool, true, false, ◌&&◌, not, Option, None, Some, List}
use Rattle.std.specs.Ordering.{is_eq, is_le, is_lt, nat_cmp}
use Rattle.std.specs.Cmp.Lexicographic.{slice_cmp}
use Rattle.pc_base.specs.declared.span.Span.{Span}
use Rattle.pc_base.specs.declared.span.Span.TheVariants.{One, Between}

-- The first key stands before the second.
abbrev pub key_below : List ℕ → List ℕ → Bool
key_below one other = is_lt (slice_cmp nat_cmp one other)

-- The first key stands before the second, or is it.
abbrev pub key_at_most : List ℕ → List ℕ → Bool
key_at_most one other = is_le (slice_cmp nat_cmp one other)

-- The two keys are the same bytes.
abbrev pub same_key : List ℕ → List ℕ → Bool
same_key one other = is_eq (slice_cmp nat_cmp one other)

-- The key is not before this start; an open start is before every key.
abbrev pub is_from : Option (List ℕ) → List ℕ → Bool
is_from None key = true
is_from (Some from) key = not (key_below key from)

-- The key is before this end; an open end is behind every key.
abbrev pub is_before : Option (List ℕ) → List ℕ → Bool
is_before None key = true
is_before (Some to) key = key_below key to

-- The span has the key.
abbrev pub contains : Span → List ℕ → Bool
contains (One one) key = same_key key one
contains (Between from to) key = is_from from key && is_before to key

-- Both ends are stated, and no key lies between them.
abbrev pub is_empty : Option (List ℕ) → Option (List ℕ) → Bool
is_empty (Some from) (Some to) = not (key_below from to)
is_empty _ _ = false
