-- Versions in chains: one for each key, in the order of the keys, each by timestamp. Own profile (a map of version chains).
use Rattle.std.specs.Prelude.{◌≡◌, ℕ, List, [], ◌∷◌}
use Rattle.std.specs.BTreeSet.{insert_key}
use Rattle.std.specs.Cmp.Lexicographic.{slice_cmp}
use Rattle.std.specs.List.{AllByRecursion as Each, flat_map}
use Rattle.std.specs.List.Sorted.{IsNonDecreasingBy, IsStrictlySortedBy}
use Rattle.std.specs.Map.{keys_of}
use Rattle.std.specs.Ordering.{nat_cmp}
use Rattle.std.specs.Global.{Vec}
use Rattle.pc_base.specs.declared.version.Version.{Version}

-- All versions, chain after chain.
abbrev pub joined : List (List ℕ × Vec Version) → List Version
joined chains = flat_map (λ e. e.1.items) chains

-- A chain of this key: each version is of the key, and their timestamps do not fall.
pub record IsChain (key : List ℕ) (versions : List Version) : Type 0 where
  pub own : Each (λ v. v.key ≡ key) versions
  pub rising : IsNonDecreasingBy (λ v. v.ts) versions

-- Each chain is one of its key, and the keys rise.
pub record AreChains (chains : List (List ℕ × Vec Version)) : Type 0 where
  pub ordered : IsStrictlySortedBy (slice_cmp nat_cmp) (keys_of chains)
  pub each : Each (λ e. IsChain e.0 e.1.items) chains

-- The keys with that of a chain, if the chain has a version.
abbrev pub with_key_of : List ℕ → List Version → List (List ℕ) → List (List ℕ)
with_key_of key [] keys = keys
with_key_of key (v ∷ vs) keys = insert_key (slice_cmp nat_cmp) keys key
