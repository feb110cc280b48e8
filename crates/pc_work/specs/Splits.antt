-- The splits of a workload: the first key of each range but the first one, in key order.
use Rattle.std.specs.Prelude.{ℕ, ◌&&◌, List, length, nat_le, Option, Some, None, if◌then◌else◌}
use Rattle.serde_json.specs.Data.{Data}
use Rattle.pc_base.specs.declared.limits.TheConstants.{MOST_SPLITS}
use Rattle.pc_base.specs.Rising.{keys_rise}
use Rattle.pc_work.specs.Reading.{◌>>=◌}
use Rattle.pc_work.specs.Lists.{list_by}
use Rattle.pc_work.specs.Texts.{key_of}

-- The splits that a value states: a list of keys that rises, and is no longer than the limit.
unfoldable pub splits_of : Data → Option (List (List ℕ))
splits_of value = do
  keys ← list_by key_of value
  if nat_le (length keys) MOST_SPLITS && keys_rise keys then Some keys else None
