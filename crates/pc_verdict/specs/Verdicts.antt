-- The one verdict on a text: malformed, no run with its report, or a run with its report. Own profile.
use Rattle.std.specs.Prelude.{◌≡◌, ℕ, ◌+◌, ◌⊎◌, List, ◌++◌, Contains, length}
use Rattle.pc_base.specs.declared.entry.Entry.{Entry}
use Rattle.pc_check.specs.declared.rule.Rule.{Rule}
use Rattle.pc_check.specs.declared.rule.Rule.TheVariants as rules_broken
use Rattle.pc_check.specs.FirstBroken.{IsFirstBroken, head_with}
use Rattle.pc_journal.specs.FitsJournal.{FitsEntries, FitsHead}
use Rattle.pc_journal.specs.Journal.{journal_text}
use Rattle.pc_proto.specs.declared.event.Event.{Event}
use Rattle.pc_read.specs.Items.{Malformed, head_items, text_lines}
use Rattle.pc_report.specs.Report.{report_text}
use Rattle.pc_report.specs.ReportOf.{report_of}
use Rattle.pc_report.specs.Spelled.{FitsReport}
use Rattle.pc_verdict.specs.declared.verdict.Verdict.{Verdict}
use Rattle.pc_verdict.specs.declared.verdict.Verdict.TheVariants as verdicts
use Rattle.pc_verdict.specs.Differing.{IsFirstDifference}
use Rattle.pc_verdict.specs.ReadAs.{IsReadAs, report_lines, row_texts}
use Rattle.pc_world.specs.Local.{Head}
use Rattle.pc_world.specs.Run.{IsRun}

-- The text is the journal of a run, and below it the report of that run.
pub record IsRunText (bytes : List ℕ) : Type 0 where
  pub splits : List (List ℕ)
  pub sessions : ℕ
  pub recoverers : ℕ
  pub entries : List (Entry Event)
  pub run : IsRun (head_with splits sessions recoverers) entries
  pub head_fits : FitsHead splits sessions recoverers
  pub entries_fit : FitsEntries entries
  pub report_fits : FitsReport (report_of (head_with splits sessions recoverers) entries)
  pub whole : bytes ≡ journal_text splits sessions recoverers entries ++ report_text (report_of (head_with splits sessions recoverers) entries)

-- The line is that of the first entry that may not follow those before it, and this is the rule that it breaks. The first
-- entry stands on the fourth line.
pub record BreaksRun (head : Head) (entries : List (Entry Event)) (line : ℕ) (rule : Rule) : Type 0 where
  pub place : ℕ
  pub broken : IsFirstBroken head entries place rule
  pub at : line ≡ place + 4

-- The entries are a run, and the line is the first below them that is not as in the report of that run. The line `report`
-- stands below the last entry.
pub record BreaksReport (head : Head) (entries : List (Entry Event)) (rows : List (List ℕ)) (line : ℕ) (rule : Rule) : Type 0 where
  pub run : IsRun head entries
  pub place : ℕ
  pub differs : IsFirstDifference (report_lines rows) (report_lines (row_texts (report_of head entries))) place
  pub at : line ≡ length entries + 4 + place
  pub named : rule ≡ rules_broken.Report

-- The text is read whole, and this is its first line that is wrong, by this rule.
pub record IsNoRun (bytes : List ℕ) (line : ℕ) (rule : Rule) : Type 0 where
  pub splits : List (List ℕ)
  pub sessions : ℕ
  pub recoverers : ℕ
  pub entries : List (Entry Event)
  pub rows : List (List ℕ)
  pub read : IsReadAs bytes splits sessions recoverers entries rows
  pub breaks : BreaksRun (head_with splits sessions recoverers) entries line rule ⊎ BreaksReport (head_with splits sessions recoverers) entries rows line rule

-- The verdict is right of the text.
abbrev pub IsVerdictOf : List ℕ → Verdict → Type 0
IsVerdictOf bytes verdicts.Run = IsRunText bytes
IsVerdictOf bytes (verdicts.NotRun line rule) = IsNoRun bytes line rule
IsVerdictOf bytes (verdicts.Malformed line) = Contains (head_items (text_lines bytes)) (Malformed line)
