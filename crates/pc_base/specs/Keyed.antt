-- Lists of entries, each under its key. A list that grows by std's `insert_entry` has each key once, in the order of the keys.
use Rattle.std.specs.Prelude.{Bool, not, Option, List, [], filter, find, fold}
use Rattle.std.specs.BTreeMap.{insert_entry}
use Rattle.std.specs.declared.cmp.Ordering.{Ordering}
use Rattle.std.specs.Option.{option_map}

module _ {K V : Type 0} (same : K → K → Bool) where
  -- What stands under the key.
  abbrev pub at : K → List (K × V) → Option V
  at key entries = option_map (λ e. e.1) (find (λ e. same e.0 key) entries)

  -- Nothing stands under the key any more.
  abbrev pub without : K → List (K × V) → List (K × V)
  without key entries = filter (λ e. not (same e.0 key)) entries

-- The entries in the order of their keys, each key once with its last value.
abbrev pub in_order : {K V : Type 0} → (K → K → Ordering) → List (K × V) → List (K × V)
in_order cmp entries = fold (λ sorted e. insert_entry cmp sorted e.0 e.1) [] entries
