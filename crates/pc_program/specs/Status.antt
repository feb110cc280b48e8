-- How the ways in which the program ends are numbered and told. Own profile.
use Rattle.std.specs.Prelude.{ℕ, ◌-◌, List, [], ◌++◌, codes}
use Rattle.std.specs.Fmt.{decimal}
use Rattle.pc_check.specs.declared.rule.Rule.{Rule}
use Rattle.pc_check.specs.declared.rule.Rule.TheVariants as rules_broken
use Rattle.pc_program.specs.declared.status.Status.{Status}
use Rattle.pc_program.specs.declared.status.Status.TheVariants as statuses

-- The exit status.
abbrev pub code_of : Status → ℕ
code_of statuses.Done = 0
code_of (statuses.NotRun line rule) = 1
code_of statuses.Usage = 2
code_of statuses.ReadFault = 3
code_of (statuses.WriteFault written) = 4
code_of (statuses.Workload number) = 5
code_of (statuses.Journal line) = 6
code_of (statuses.TooLong bytes) = 7
code_of statuses.NoMemory = 8

-- A rule in one word.
abbrev pub rule_word : Rule → List ℕ
rule_word rules_broken.Step = codes "step"
rule_word rules_broken.Actor = codes "actor"
rule_word rules_broken.Ask = codes "ask"
rule_word rules_broken.Send = codes "send"
rule_word rules_broken.Eval = codes "eval"
rule_word rules_broken.Hear = codes "hear"
rule_word rules_broken.Tell = codes "tell"
rule_word rules_broken.Meet = codes "meet"
rule_word rules_broken.Report = codes "report"

-- The line on standard error; there is none where all went well.
abbrev pub line_of : Status → List ℕ
line_of statuses.Done = []
line_of (statuses.NotRun line rule) = codes "pcommit: not a run: line " ++ decimal line ++ codes ", rule " ++ rule_word rule
line_of statuses.Usage = codes "pcommit: usage: pcommit run|check|make --number N"
line_of statuses.ReadFault = codes "pcommit: read failed"
line_of (statuses.WriteFault written) = codes "pcommit: write failed after " ++ decimal written ++ codes " bytes"
line_of (statuses.Workload number) = codes "pcommit: workload refused: W" ++ decimal number
line_of (statuses.Journal line) = codes "pcommit: journal malformed: line " ++ decimal line
line_of (statuses.TooLong bytes) = codes "pcommit: more than " ++ decimal (bytes - 1) ++ codes " bytes"
line_of statuses.NoMemory = codes "pcommit: out of memory"
