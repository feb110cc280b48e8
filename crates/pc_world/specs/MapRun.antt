-- A map that transactions read and write one after another: what a serializable history must look like.
-- The isolation is that of CockroachDB SIGMOD 2020; how it is stated is own profile.
use Rattle.std.specs.Prelude.{◌≡◌, ℕ, Option, None, Some, List, [], ◌∷◌, filter, fold, ⊤}
use Rattle.std.specs.BTreeMap.{insert_entry}
use Rattle.std.specs.Cmp.Lexicographic.{slice_cmp}
use Rattle.std.specs.Ordering.{nat_cmp}
use Rattle.pc_base.specs.Keyed.{at, without}
use Rattle.pc_base.specs.Span.{contains, same_key}
use Rattle.pc_world.specs.Operations.{Operation, Read, ReadAll, Write}

-- A map: its keys in order, each with its value.
abbrev pub Map : Type 0
Map = List (List ℕ × List ℕ)

-- The map with this value under the key; no value takes the key away.
abbrev pub with_value : List ℕ → Option (List ℕ) → Map → Map
with_value key (Some value) m = insert_entry (slice_cmp nat_cmp) m key value
with_value key None m = without same_key key m

-- The map after an operation.
abbrev pub map_after : Map → Operation → Map
map_after m (Write key seq value) = with_value key value m
map_after m (Read key value) = m
map_after m (ReadAll span rows) = m

-- A read gives what the map has then.
abbrev pub ReadsMap : Map → Operation → Type 0
ReadsMap m (Read key value) = value ≡ at same_key key m
ReadsMap m (ReadAll span rows) = rows ≡ filter (λ e. contains span e.0) m
ReadsMap m (Write key seq value) = ⊤

-- Each read of the transaction gives what the map has then, the transaction's own writes so far included.
abbrev pub ReadsAlong : Map → List Operation → Type 0
ReadsAlong m [] = ⊤
ReadsAlong m (o ∷ os) = ReadsMap m o × ReadsAlong (map_after m o) os

-- The transactions run on the map one after another, from this map on.
abbrev pub IsMapRun : Map → List (List Operation) → Type 0
IsMapRun m [] = ⊤
IsMapRun m (t ∷ ts) = ReadsAlong m t × IsMapRun (fold map_after m t) ts
