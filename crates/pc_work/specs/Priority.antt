-- A transaction's priority: the text `low`, `normal` or `high`.
use Rattle.std.specs.Prelude.{ℕ, List, Option, Some, None, codes, if◌then◌else◌}
use Rattle.std.specs.Str.{bytes_eq}
use Rattle.serde_json.specs.Data.{Data}
use Rattle.serde_json.specs.Find.{as_str}
use Rattle.pc_base.specs.declared.transaction.Priority.{Priority}
use Rattle.pc_base.specs.declared.transaction.Priority.TheVariants.{Low, Normal, High}
use Rattle.pc_work.specs.Reading.{◌>>=◌}

-- The priority that a text names.
unfoldable pub priority_in : List ℕ → Option Priority
priority_in text =
    if bytes_eq text (codes "low") then Some Low
    else (if bytes_eq text (codes "normal") then Some Normal
    else (if bytes_eq text (codes "high") then Some High else None))

-- The priority that a value states.
abbrev pub priority_of : Data → Option Priority
priority_of value = as_str value >>= priority_in
