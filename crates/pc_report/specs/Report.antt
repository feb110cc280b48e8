-- How a report is spelled. Own profile.
use Rattle.std.specs.Prelude.{ℕ, List, [], ◌++◌, Option, codes}
use Rattle.std.specs.List.{flat_map}
use Rattle.pc_journal.specs.Lists.{listed}
use Rattle.pc_journal.specs.Names.{id_text}
use Rattle.pc_journal.specs.Number.{ts_text}
use Rattle.pc_journal.specs.Optional.{key_text, or_dash, value_text}
use Rattle.pc_journal.specs.Side.{◌·◌, ◌⏎◌}
use Rattle.pc_journal.specs.Why.{why_text}
use Rattle.pc_report.specs.declared.rows.CommittedRow.{CommittedRow}
use Rattle.pc_report.specs.declared.rows.Ending.{Ending}
use Rattle.pc_report.specs.declared.rows.Ending.TheVariants as endings
use Rattle.pc_report.specs.declared.rows.OtherRow.{OtherRow}
use Rattle.pc_report.specs.declared.rows.Report.{Report}

-- A transaction's last write of a key, `a=x`, or its deletion, `a-`.
abbrev pub last_write_text : (List ℕ × Option (List ℕ)) → List ℕ
last_write_text write = key_text write.0 ++ or_dash value_text write.1

-- A committed transaction, its timestamp and its writes: `committed 1.1 10.0 a=x,b-`.
abbrev pub committed_text : CommittedRow → List ℕ
committed_text row = codes "committed" · id_text row.id · ts_text row.ts · listed last_write_text row.writes

-- A transaction that was aborted, and why, or one that is open, by its record: `aborted 1.1 client`, `open 1.1 none`.
abbrev pub ending_text : List ℕ → Ending → List ℕ
ending_text id (endings.Aborted why) = codes "aborted" · id · why_text why
ending_text id endings.NoRecord = codes "open" · id · codes "none"
ending_text id endings.Pending = codes "open" · id · codes "pending"
ending_text id endings.Staging = codes "open" · id · codes "staging"

abbrev pub other_text : OtherRow → List ℕ
other_text row = ending_text (id_text row.id) row.ending

-- A key and its value in the end: `map a=x`.
abbrev pub map_text : (List ℕ × List ℕ) → List ℕ
map_text row = codes "map" · (key_text row.0 ++ value_text row.1)

-- A line for each row.
abbrev pub rows_text : Report → List ℕ
rows_text report = flat_map (λ row. committed_text row ⏎ []) report.committed
    ++ (flat_map (λ row. other_text row ⏎ []) report.others
    ++ flat_map (λ row. map_text row ⏎ []) report.map)

-- The whole report: `report`, a line for each row, and `end`.
abbrev pub report_text : Report → List ℕ
report_text report = codes "report" ⏎ (rows_text report ++ (codes "end" ⏎ []))
