-- A turn of a workload: a text, which is the letter of who it is and then its number.
use Rattle.std.specs.Prelude.{ℕ, Bool, ◌&&◌, ◌==◌, nat_le, List, [], ◌∷◌, Option, Some, None, if◌then◌else◌}
use Rattle.serde_json.specs.Data.{Data}
use Rattle.serde_json.specs.Find.{as_str}
use Rattle.pc_work.specs.Reading.{◌>>=◌}
use Rattle.pc_work.specs.Number.{number_in}
use Rattle.pc_work.specs.declared.turn.Turn.{Turn}
use Rattle.pc_work.specs.declared.turn.Turn.TheVariants.{Session, Job, Recoverer}

-- The turn of this letter, `s`, `b` or `v`, and this number.
abbrev pub turn_by : ℕ → ℕ → Option Turn
turn_by letter number =
    if letter == 115 then Some (Session number)
    else (if letter == 98 then Some (Job number)
    else (if letter == 118 then Some (Recoverer number) else None))

-- The turn that a text spells.
abbrev pub turn_in : List ℕ → Option Turn
turn_in [] = None
turn_in (letter ∷ digits) = number_in digits >>= turn_by letter

-- The turn that a value states.
unfoldable pub turn_of : Data → Option Turn
turn_of value = as_str value >>= turn_in

-- Among so many sessions and so many recoverers, the turn is that of one that is there.
abbrev pub is_turn_there : ℕ → ℕ → Turn → Bool
is_turn_there sessions recoverers (Session number) = nat_le 1 number && nat_le number sessions
is_turn_there sessions recoverers (Job number) = nat_le 1 number && nat_le number sessions
is_turn_there sessions recoverers (Recoverer number) = nat_le 1 number && nat_le number recoverers
