-- What a key is: one to 64 bytes, each a letter, a digit, `_`, `/` or `.`. Own profile.
use Rattle.std.specs.Prelude.{ℕ, ◌≤◌, Bool, ◌&&◌, ◌||◌, ◌==◌, nat_le, IsTrue, List, length}
use Rattle.std.specs.List.{list_all}
use Rattle.pc_base.specs.declared.limits.TheConstants.{KEY_BYTES}

-- A byte from `low` to `high`, both inside.
abbrev pub is_between : ℕ → ℕ → ℕ → Bool
is_between low high byte = nat_le low byte && nat_le byte high

-- A letter, a digit, `_`, `/` or `.`.
abbrev pub is_key_byte : ℕ → Bool
is_key_byte byte =
    is_between 97 122 byte || is_between 65 90 byte || is_between 46 57 byte || byte == 95

-- At least one byte, and at most the limit.
pub record HasKeyLength (bytes : List ℕ) : Type 0 where
  pub least : 1 ≤ length bytes
  pub most : length bytes ≤ KEY_BYTES

-- A key: its length and each of its bytes are allowed.
pub record IsKey (bytes : List ℕ) : Type 0 where
  pub long : HasKeyLength bytes
  pub allowed : IsTrue (list_all is_key_byte bytes)
