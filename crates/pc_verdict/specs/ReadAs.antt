-- What a whole text is read as: a head, entries and the rows of a report. Own profile.
use Rattle.std.specs.Prelude.{◌≡◌, ℕ, List, [], ◌∷◌, ◌++◌, codes, map}
use Rattle.pc_base.specs.declared.entry.Entry.{Entry}
use Rattle.pc_proto.specs.declared.event.Event.{Event}
use Rattle.pc_read.specs.Items.{Head, ReportWord, Row, End, head_items, text_lines}
use Rattle.pc_read.specs.JournalsAreRead.{at_lines}
use Rattle.pc_report.specs.declared.rows.Report.{Report}
use Rattle.pc_report.specs.Report.{committed_text, map_text, other_text}

-- The text is read as this head, these entries, each at its line, and a report of these rows.
pub record IsReadAs (bytes : List ℕ) (splits : List (List ℕ)) (sessions recoverers : ℕ) (entries : List (Entry Event)) (rows : List (List ℕ)) : Type 0 where
  pub items : head_items (text_lines bytes) ≡ Head splits sessions recoverers ∷ (at_lines 4 entries ++ (ReportWord ∷ (map Row rows ++ (End ∷ []))))

-- The texts of a report's rows, in their order.
abbrev pub row_texts : Report → List (List ℕ)
row_texts report = map committed_text report.committed ++ (map other_text report.others ++ map map_text report.map)

-- The lines of a report of these rows, from the line `report` to the line `end`.
abbrev pub report_lines : List (List ℕ) → List (List ℕ)
report_lines rows = codes "report" ∷ (rows ++ (codes "end" ∷ []))
