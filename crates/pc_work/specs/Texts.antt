-- Keys and values in a workload: JSON strings whose bytes are a key or a value.
use Rattle.std.specs.Prelude.{ℕ, Bool, ◌&&◌, List, length, Option, Some, None, nat_le, if◌then◌else◌}
use Rattle.std.specs.List.{list_all}
use Rattle.serde_json.specs.Data.{Data}
use Rattle.serde_json.specs.Find.{as_str}
use Rattle.pc_base.specs.declared.limits.TheConstants.{KEY_BYTES, VALUE_BYTES}
use Rattle.pc_base.specs.Key.{is_key_byte}
use Rattle.pc_base.specs.Value.{is_value_byte}
use Rattle.pc_work.specs.Reading.{◌>>=◌}

-- The bytes are a key: from one byte to the limit, and each of them is allowed in a key.
abbrev pub spells_key : List ℕ → Bool
spells_key bytes = nat_le 1 (length bytes) && nat_le (length bytes) KEY_BYTES && list_all is_key_byte bytes

-- The bytes are a value: no more than the limit, and each of them is allowed in a value.
abbrev pub spells_value : List ℕ → Bool
spells_value bytes = nat_le (length bytes) VALUE_BYTES && list_all is_value_byte bytes

-- The key that a text spells.
abbrev pub key_in : List ℕ → Option (List ℕ)
key_in bytes = if spells_key bytes then Some bytes else None

-- The key that a JSON value spells.
unfoldable pub key_of : Data → Option (List ℕ)
key_of value = as_str value >>= key_in

-- The value that a JSON value spells.
unfoldable pub value_of : Data → Option (List ℕ)
value_of value = do
  bytes ← as_str value
  if spells_value bytes then Some bytes else None
