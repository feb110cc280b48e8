-- A range's versions, by key, then by timestamp; and plain searches of them.
use Rattle.std.specs.Prelude.{ℕ, ◌+◌, nat_le, nat_lt, ◌&&◌, if◌then◌else◌, Option, None, Some, List, [], ◌∷◌, filter, fold}
use Rattle.std.specs.Cmp.Lexicographic.{slice_cmp}
use Rattle.std.specs.declared.cmp.Ordering.{Ordering}
use Rattle.std.specs.Option.{option_map_or}
use Rattle.std.specs.Ordering.{is_lt, nat_cmp, ordering_then}
use Rattle.pc_base.specs.declared.span.Span.{Span}
use Rattle.pc_base.specs.declared.version.Version.{Version}
use Rattle.pc_base.specs.Span.{contains, key_below, same_key}

-- By key, then by timestamp.
abbrev pub version_cmp : Version → Version → Ordering
version_cmp one other = ordering_then (slice_cmp nat_cmp one.key other.key) (nat_cmp one.ts other.ts)

-- The versions with one more, which stands before the first that is above it.
abbrev pub with_version : List Version → Version → List Version
with_version [] v = v ∷ []
with_version (w ∷ ws) v = if is_lt (version_cmp v w) then v ∷ w ∷ ws else w ∷ with_version ws v

-- The one of the greater timestamp.
abbrev pub later : Option Version → Version → Option Version
later None v = Some v
later (Some best) v = if nat_lt best.ts v.ts then Some v else Some best

-- The one of the lesser key, and of the lesser timestamp where the keys are equal.
abbrev pub sooner : Option Version → Version → Option Version
sooner None v = Some v
sooner (Some best) v =
    if key_below v.key best.key then Some v
    else if same_key v.key best.key && nat_lt v.ts best.ts then Some v
    else Some best

-- The key's version of the greatest timestamp.
abbrev pub newest : List ℕ → List Version → Option Version
newest key versions = fold later None (filter (λ v. same_key v.key key) versions)

-- The key's version of the greatest timestamp that is not above this one.
abbrev pub visible : List ℕ → ℕ → List Version → Option Version
visible key ts versions = fold later None (filter (λ v. same_key v.key key && nat_le v.ts ts) versions)

-- The version in the span, above `from` and not above `to`, of least key, then of least timestamp.
abbrev pub first_between : Span → ℕ → ℕ → List Version → Option Version
first_between span from to versions =
    fold sooner None (filter (λ v. contains span v.key && (nat_lt from v.ts && nat_le v.ts to)) versions)

-- The least timestamp above the key's newest version.
abbrev pub above_newest : List ℕ → List Version → ℕ
above_newest key versions = option_map_or (λ v. v.ts + 1) (newest key versions) 0
