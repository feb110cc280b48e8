-- The report of the smallest workload's history, computed. It is what the journal of examples/first-commit.expected reports,
-- which goes on from there until the transaction is finished.
use Rattle.std.specs.Prelude.{◌≡◌, ℕ, Some, List, [], ◌∷◌, codes}
use Rattle.pc_journal.specs.Side.{◌⏎◌}
use Rattle.pc_report.specs.declared.rows.Report.{Report}
use Rattle.pc_report.specs.Report.{report_text}
use Rattle.pc_report.specs.ReportOf.{report_of}
use Rattle.pc_serial.specs.FirstRow.{first_head, first_history, first_ts, first_txn}

-- Its transaction is committed with its one write, no other was begun, and the map has that write alone.
abbrev pub first_report : Report
first_report = record {
  committed = record { id = first_txn; ts = first_ts; writes = (codes "a", Some (codes "x")) ∷ [] } ∷ [];
  others = [];
  map = (codes "a", codes "x") ∷ [];
}

-- Its four lines.
abbrev pub first_text : List ℕ
first_text = codes "report" ⏎ codes "committed 1.1 10.0 a=x" ⏎ codes "map a=x" ⏎ codes "end" ⏎ []

-- The history has this report, and its text is these lines.
pub record FirstRowIsReported : Type 0 where
  pub report : report_of first_head first_history ≡ first_report
  pub text : report_text (report_of first_head first_history) ≡ first_text
