-- How views, goals, findings and fates are spelled; each has several words, and stands last in its line. Own profile.
use Rattle.std.specs.Prelude.{ℕ, List, codes}
use Rattle.std.specs.Fmt.{decimal}
use Rattle.pc_proto.specs.declared.view.View.{View}
use Rattle.pc_proto.specs.declared.view.View.TheVariants as views
use Rattle.pc_proto.specs.declared.fate.Goal.{Goal}
use Rattle.pc_proto.specs.declared.fate.Goal.TheVariants as goals
use Rattle.pc_proto.specs.declared.fate.Finding.{Finding}
use Rattle.pc_proto.specs.declared.fate.Finding.TheVariants as findings
use Rattle.pc_proto.specs.declared.fate.Fate.{Fate}
use Rattle.pc_proto.specs.declared.fate.Fate.TheVariants as fates
use Rattle.pc_journal.specs.Lists.{listed}
use Rattle.pc_journal.specs.Meta.{write_text}
use Rattle.pc_journal.specs.Names.{who_text}
use Rattle.pc_journal.specs.Number.{ts_text}
use Rattle.pc_journal.specs.Optional.{key_text}
use Rattle.pc_journal.specs.Side.{◌·◌}
use Rattle.pc_journal.specs.Why.{why_text}

-- What a record or mark says: `none`, `pending 0 20.1`, `staging 0 10.0 a:1,b:2`, `committed 0 10.0 a,b`, `aborted 0 client -`.
abbrev pub view_text : View → List ℕ
view_text views.Nothing = codes "none"
view_text (views.Pending epoch ts) = codes "pending" · decimal epoch · ts_text ts
view_text (views.Staging epoch ts writes) = codes "staging" · decimal epoch · ts_text ts · listed write_text writes
view_text (views.Committed epoch ts locks) = codes "committed" · decimal epoch · ts_text ts · listed key_text locks
view_text (views.Aborted epoch why locks) = codes "aborted" · decimal epoch · why_text why · listed key_text locks

-- What a push asks for: `abort`, `move 20.1`.
abbrev pub goal_text : Goal → List ℕ
goal_text goals.Abort = codes "abort"
goal_text (goals.Move ts) = codes "move" · ts_text ts

-- What a recovery found: `found`, `missing n v1`.
abbrev pub finding_text : Finding → List ℕ
finding_text findings.All = codes "found"
finding_text (findings.Missing key by) = codes "missing" · key_text key · who_text by

-- What becomes of an intent: `committed 0 10.0`, `aborted`, `pending 20.1`.
abbrev pub fate_text : Fate → List ℕ
fate_text (fates.Committed epoch ts) = codes "committed" · decimal epoch · ts_text ts
fate_text fates.Aborted = codes "aborted"
fate_text (fates.Pending ts) = codes "pending" · ts_text ts
