-- What is left to be read, and what one reading takes of it. Own profile.
use Rattle.std.specs.Prelude.{◌≡◌, ℕ, List, [], ◌∷◌, Option, None, Some, Result, Ok, Err, option_map}
use Rattle.pc_read.specs.declared.lines.LineRef.{LineRef}
use Rattle.pc_read.specs.declared.lines.LineRef.TheVariants as line_refs
use Rattle.pc_read.specs.declared.lines.Malformed.{Malformed}
use Rattle.pc_read.specs.declared.lines.Stage.{Stage}
use Rattle.pc_read.specs.declared.lines.Stage.TheVariants as stages
use Rattle.pc_read.specs.declared.lines.Step.{Step}
use Rattle.pc_read.specs.Items.{Item, Head, Line, ReportWord, Row, End, Malformed as malformed_line, entry_items, head_items, over_items, text_lines, row_items}
use Rattle.pc_read.specs.Lines.{own_entry}
use Rattle.pc_read.specs.Texts.{own_splits}

-- The items that are left, by what was read before.
abbrev pub items_left : Stage → ℕ → List ℕ → List Item
items_left stages.Head line rest = head_items (text_lines rest)
items_left stages.Entries line rest = entry_items line (text_lines rest)
items_left stages.Rows line rest = row_items line (text_lines rest)
items_left stages.Over line rest = over_items line (text_lines rest)
items_left stages.Done line rest = []

-- What a line stands for.
abbrev pub own_line : LineRef → Option Item
own_line (line_refs.Head head) = option_map (λ splits. Head splits head.sessions head.recoverers) (own_splits head.splits)
own_line (line_refs.Entry entry) = option_map (λ e. Line entry.line e) (own_entry entry)
own_line line_refs.ReportWord = Some ReportWord
own_line (line_refs.Report text) = Some (Row text.now)
own_line line_refs.End = Some End

-- The same of what was given for it.
abbrev pub own_given : Result LineRef Malformed → Option Item
own_given (Ok line) = own_line line
own_given (Err fault) = Some (malformed_line fault.line)

-- What is given is the first of the items that were left; nothing is given where none was left.
abbrev pub TakesNext : Option (Result LineRef Malformed) → List Item → List Item → Type 0
TakesNext None before after = (before ≡ []) × (after ≡ [])
TakesNext (Some given) before after = option_map (λ item. item ∷ after) (own_given given) ≡ Some before

-- The same of one step of the reading.
abbrev pub StepTakes : Step → List Item → Type 0
StepTakes step before = TakesNext (Some step.given) before (items_left step.stage step.line step.rest.now)
