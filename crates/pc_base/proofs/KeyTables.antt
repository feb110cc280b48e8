-- Tables in the order of their keys: what std's searches and changes come to.
use Rattle.std.proofs.Common.{◌≡◌, ℕ, List, Some, refl}
use Rattle.std.proofs.lemmas.Cmp.{nat_list_cmp_total}
use Rattle.std.specs.BTreeMap.{insert_entry, is_at}
use Rattle.std.specs.Cmp.Lexicographic.{slice_cmp}
use Rattle.std.specs.List.Sorted.{IsStrictlySortedBy}
use Rattle.std.specs.Map.{keys_of, lookup, remove_entry, set_value}
use Rattle.std.specs.Ordering.{nat_cmp}
use Rattle.pc_base.proofs.Entries.{lookup_is_at, removed_is_without, written_is_inserted}
use Rattle.pc_base.specs.Keyed.{at, without}
use Rattle.pc_base.specs.Span.{same_key}

module _ {V : Type 0} (key : List ℕ) (entries : List (List ℕ × V)) where
  pub key_lookup : lookup (is_at (slice_cmp nat_cmp key)) entries ≡ at same_key key entries
  key_lookup = lookup_is_at nat_list_cmp_total same_key (λ a b. refl) key entries

  pub key_removed : IsStrictlySortedBy (slice_cmp nat_cmp) (keys_of entries) → remove_entry (is_at (slice_cmp nat_cmp key)) entries ≡ without same_key key entries
  key_removed sorted = removed_is_without nat_list_cmp_total same_key (λ a b. refl) key entries sorted

  pub key_written : (old new : V) → IsStrictlySortedBy (slice_cmp nat_cmp) (keys_of entries) → lookup (is_at (slice_cmp nat_cmp key)) entries ≡ Some old
      → set_value (is_at (slice_cmp nat_cmp key)) entries new ≡ insert_entry (slice_cmp nat_cmp) entries key new
  key_written old new sorted there = written_is_inserted nat_list_cmp_total same_key (λ a b. refl) key old new entries sorted there
