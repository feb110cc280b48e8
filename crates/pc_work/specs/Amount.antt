-- An amount that a workload adds to a number: a whole number within its limits, with a minus where it is taken away.
use Rattle.std.specs.Prelude.{Option, Some, None, ℤ, neg_ℤ, int_le, ◌&&◌, option_and_then, if◌then◌else◌}
use Rattle.serde_json.specs.Data.{Data}
use Rattle.serde_json.specs.Find.{as_i64, as_number}
use Rattle.pc_work.specs.Reading.{◌>>=◌}
use Rattle.pc_work.specs.declared.amount.TheConstants.{MOST_AMOUNT}

-- The amount that a value states.
abbrev pub amount_of : Data → Option ℤ
amount_of value =
    option_and_then as_i64 (as_number value) >>= λ amount. if int_le (neg_ℤ MOST_AMOUNT) amount && int_le amount MOST_AMOUNT then Some amount else None
