-- The members of a JSON object. A member that stands twice in the text counts once, with its last value, as the JSON reader
-- has it.
use Rattle.std.specs.Prelude.{ℕ, Bool, true, false, ◌&&◌, List, Option, Some, None, nat_le, option_and_then, if◌then◌else◌}
use Rattle.std.specs.List.{list_any}
use Rattle.std.specs.Str.{bytes_eq}
use Rattle.serde_json.specs.Data.{Data, null, boolean, number, string, array, object, Members, no_members, member}
use Rattle.serde_json.specs.Find.{get, as_number, as_u64}
use Rattle.pc_work.specs.Reading.{◌>>=◌}

-- The name is one of these.
abbrev pub is_among : List (List ℕ) → List ℕ → Bool
is_among names name = list_any (λ known. bytes_eq known name) names

-- Each member has one of these names.
abbrev pub only_among : List (List ℕ) → Members → Bool
only_among names no_members = true
only_among names (member name value others) = is_among names name && only_among names others

-- The value is an object, and each of its members has one of these names.
abbrev pub has_only : List (List ℕ) → Data → Bool
has_only names null = false
has_only names (boolean b) = false
has_only names (number n) = false
has_only names (string s) = false
has_only names (array items) = false
has_only names (object members) = only_among names members

-- A whole number of 64 bits: neither a fraction nor an exponent is written, and no minus.
abbrev pub whole_of : Data → Option ℕ
whole_of value = option_and_then as_u64 (as_number value)

-- The whole number in the member of this name.
abbrev pub whole_in : List ℕ → Data → Option ℕ
whole_in name value = option_and_then whole_of (get name value)

-- A whole number that is at most this.
abbrev pub whole_up_to : ℕ → Data → Option ℕ
whole_up_to most value = whole_of value >>= λ number. if nat_le number most then Some number else None

-- A whole number from the one to the other.
abbrev pub whole_between : ℕ → ℕ → Data → Option ℕ
whole_between least most value = whole_of value >>= λ number. if nat_le least number && nat_le number most then Some number else None

-- What was found as it is read, and the default where nothing was found.
abbrev pub read_or : {X : Type 0} → X → (Data → Option X) → Option Data → Option X
read_or default read None = Some default
read_or default read (Some value) = read value

-- The member of this name as it is read, and the default where the member is absent.
abbrev pub member_or : {X : Type 0} → X → (Data → Option X) → List ℕ → Data → Option X
member_or default read name value = read_or default read (get name value)

-- What was found as it is read, if anything was.
abbrev pub read_if : {X : Type 0} → (Data → Option X) → Option Data → Option (Option X)
read_if read None = Some None
read_if read (Some value) = read value >>= λ found. Some (Some found)

-- The member of this name as it is read, where it is there.
abbrev pub member_if : {X : Type 0} → (Data → Option X) → List ℕ → Data → Option (Option X)
member_if read name value = read_if read (get name value)
