-- Which reports have a spelling: numbers within the limits of their types, keys and values that are keys and values. Own profile.
use Rattle.std.specs.Prelude.{ℕ, List, Option, All}
use Rattle.pc_base.specs.Key.{IsKey}
use Rattle.pc_base.specs.Value.{IsValue}
use Rattle.pc_journal.specs.Fits.{FitsId, FitsTimestamp, FitsValue, FitsWhy}
use Rattle.pc_report.specs.declared.rows.CommittedRow.{CommittedRow}
use Rattle.pc_report.specs.declared.rows.Ending.{Ending}
use Rattle.pc_report.specs.declared.rows.Ending.TheVariants as endings
use Rattle.pc_report.specs.declared.rows.OtherRow.{OtherRow}
use Rattle.pc_report.specs.declared.rows.Report.{Report}

-- A transaction's last write of a key, or its deletion.
pub record FitsLastWrite (write : List ℕ × Option (List ℕ)) : Type 0 where
  pub key : IsKey write.0
  pub value : FitsValue write.1

abbrev pub FitsCommittedRow : CommittedRow → Type 0
FitsCommittedRow row = FitsId row.id × (FitsTimestamp row.ts × All FitsLastWrite row.writes)

abbrev pub FitsEnding : Ending → Type 0
FitsEnding (endings.Aborted why) = FitsWhy why
FitsEnding endings.NoRecord = Unit {0}
FitsEnding endings.Pending = Unit {0}
FitsEnding endings.Staging = Unit {0}

abbrev pub FitsOtherRow : OtherRow → Type 0
FitsOtherRow row = FitsId row.id × FitsEnding row.ending

abbrev pub FitsMapRow : (List ℕ × List ℕ) → Type 0
FitsMapRow row = IsKey row.0 × IsValue row.1

-- A report that has a spelling: each of its rows has one.
pub record FitsReport (report : Report) : Type 0 where
  pub committed : All FitsCommittedRow report.committed
  pub others : All FitsOtherRow report.others
  pub map : All FitsMapRow report.map
