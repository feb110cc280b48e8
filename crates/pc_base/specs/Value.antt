-- What a value is: at most 1,024 printable ASCII bytes without space and comma. Own profile.
use Rattle.std.specs.Prelude.{ℕ, ◌≤◌, Bool, ◌&&◌, ◌==◌, not, IsTrue, List, length}
use Rattle.std.specs.List.{list_all}
use Rattle.pc_base.specs.declared.limits.TheConstants.{VALUE_BYTES}
use Rattle.pc_base.specs.Key.{is_between}

-- A printable byte that is no space and no comma.
abbrev pub is_value_byte : ℕ → Bool
is_value_byte byte = is_between 33 126 byte && not (byte == 44)

-- A value: its length and each of its bytes are allowed.
pub record IsValue (bytes : List ℕ) : Type 0 where
  pub short : length bytes ≤ VALUE_BYTES
  pub allowed : IsTrue (list_all is_value_byte bytes)
