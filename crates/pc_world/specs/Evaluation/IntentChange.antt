-- What a request does to the intent at one key: nothing, lay this one, or drop it.
use Rattle.std.specs.Prelude.{ℕ, List}
use Rattle.std.specs.BTreeMap.{insert_entry}
use Rattle.std.specs.Cmp.Lexicographic.{slice_cmp}
use Rattle.std.specs.Ordering.{nat_cmp}
use Rattle.pc_base.specs.Keyed.{without}
use Rattle.pc_base.specs.Span.{same_key}
use Rattle.pc_proto.specs.declared.record.Intent.{Intent}

-- An intent stays as it is, this one takes its place, or it goes.
pub data IntentChange : Type 0 where
  Leave : IntentChange
  Lay : (i : Intent) → IntentChange
  Drop : IntentChange

-- The intents after a change at one key, still in the order of their keys.
abbrev pub intents_with : List ℕ → IntentChange → List (List ℕ × Intent) → List (List ℕ × Intent)
intents_with key Leave intents = intents
intents_with key (Lay i) intents = insert_entry (slice_cmp nat_cmp) intents key i
intents_with key Drop intents = without same_key key intents
