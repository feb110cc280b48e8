-- How answers are spelled. Own profile.
use Rattle.std.specs.Prelude.{ℕ, List, ◌++◌, codes}
use Rattle.std.specs.Fmt.{decimal}
use Rattle.pc_proto.specs.declared.answer.Answer.{Answer}
use Rattle.pc_proto.specs.declared.answer.Answer.TheVariants as answers
use Rattle.pc_proto.specs.declared.reply.Origin.{Origin}
use Rattle.pc_journal.specs.Lists.{listed}
use Rattle.pc_journal.specs.Names.{id_text}
use Rattle.pc_journal.specs.Number.{ts_text}
use Rattle.pc_journal.specs.Optional.{or_dash, key_text, value_text}
use Rattle.pc_journal.specs.Side.{◌·◌}
use Rattle.pc_journal.specs.Why.{why_text}

-- A row that a client is told, without its origin: `n=2`.
abbrev pub told_row_text : (List ℕ × Origin × List ℕ) → List ℕ
told_row_text row = key_text row.0 ++ value_text row.2

-- What a call is told: `begun 1.1 10.0`, `value =x`, `rows a=x,b=y`, `committed 1.1 10.0`, `aborted pushed:2.1`.
abbrev pub answer_text : Answer → List ℕ
answer_text (answers.Begun id ts) = codes "begun" · id_text id · ts_text ts
answer_text (answers.Value value) = codes "value" · or_dash value_text value
answer_text (answers.Rows rows) = codes "rows" · listed told_row_text rows
answer_text answers.Written = codes "written"
answer_text (answers.Committed id ts) = codes "committed" · id_text id · ts_text ts
answer_text (answers.RolledBack id why) = codes "rolledback" · id_text id · why_text why
answer_text answers.Learnt = codes "learnt"
answer_text answers.NotYet = codes "notyet"
answer_text answers.Done = codes "done"
answer_text (answers.Blocked holder) = codes "blocked" · id_text holder
answer_text (answers.Unavailable faults) = codes "unavailable" · decimal faults
answer_text (answers.Aborted why) = codes "aborted" · why_text why
answer_text (answers.Restart key ts) = codes "restart" · key_text key · ts_text ts
answer_text (answers.Unknown id) = codes "unknown" · id_text id
answer_text (answers.Moved ts) = codes "moved" · ts_text ts
answer_text (answers.Clock reading) = codes "clock" · decimal reading
answer_text answers.NoTxn = codes "notxn"
