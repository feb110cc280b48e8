-- In what order an intent has its writes, and a range its intents.
use Rattle.std.specs.Prelude.{ℕ, List}
use Rattle.std.specs.Cmp.Lexicographic.{slice_cmp}
use Rattle.std.specs.List.{All}
use Rattle.std.specs.List.Sorted.{IsStrictlySortedBy}
use Rattle.std.specs.Map.{keys_of, values_of}
use Rattle.std.specs.Ordering.{nat_cmp}
use Rattle.pc_proto.specs.declared.record.Intent.{Intent}

-- The sequences of the intent's writes rise strictly.
abbrev pub WritesRise : Intent → Type 0
WritesRise i = IsStrictlySortedBy nat_cmp (keys_of i.history)

-- The intents stand in the order of their keys, and in each of them the writes rise.
pub record IsIntentTable (intents : List (List ℕ × Intent)) : Type 0 where
  pub keys : IsStrictlySortedBy (slice_cmp nat_cmp) (keys_of intents)
  pub writes : All WritesRise (values_of intents)
