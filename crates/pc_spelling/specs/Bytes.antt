-- The classes of bytes, each within the next. A text is cut at a byte that is outside the class of what stands before it.
-- Own profile.
use Rattle.std.specs.Prelude.{ℕ, Bool, ◌||◌, ◌==◌}
use Rattle.pc_base.specs.Key.{is_between, is_key_byte}

-- A digit: what a number is made of.
abbrev pub is_digit : ℕ → Bool
is_digit byte = is_between 48 57 byte

-- A byte of a key or a dash: what an origin is made of.
abbrev pub is_origin_byte : ℕ → Bool
is_origin_byte byte = is_key_byte byte || byte == 45

-- A printable byte that is no space: what a part of a line is made of.
abbrev pub is_part_byte : ℕ → Bool
is_part_byte byte = is_between 33 126 byte

-- A printable byte: what a line is made of.
abbrev pub is_line_byte : ℕ → Bool
is_line_byte byte = is_between 32 126 byte
