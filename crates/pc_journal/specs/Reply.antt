-- How replies are spelled. Own profile.
use Rattle.std.specs.Prelude.{ℕ, List, ◌∷◌, ◌++◌, codes}
use Rattle.pc_proto.specs.declared.reply.Origin.{Origin}
use Rattle.pc_proto.specs.declared.reply.Origin.TheVariants as origins
use Rattle.pc_proto.specs.declared.reply.Reply.{Reply}
use Rattle.pc_proto.specs.declared.reply.Reply.TheVariants as replies
use Rattle.pc_journal.specs.Lists.{listed}
use Rattle.pc_journal.specs.Meta.{meta_text}
use Rattle.pc_journal.specs.Number.{ts_text}
use Rattle.pc_journal.specs.Optional.{or_dash, key_text, value_text}
use Rattle.pc_journal.specs.Side.{◌·◌}
use Rattle.pc_journal.specs.View.{view_text}

-- Where a value comes from, nothing as a dash: `own`, `10.0`, `-`.
abbrev pub origin_text : Origin → List ℕ
origin_text origins.Nothing = codes "-"
origin_text origins.Own = codes "own"
origin_text (origins.At ts) = ts_text ts

-- A row of a reply, with its origin: `n@own=2`.
abbrev pub row_text : (List ℕ × Origin × List ℕ) → List ℕ
row_text row = key_text row.0 ++ (64 ∷ (origin_text row.1 ++ value_text row.2))

-- What a range answered: `value own =x`, `rows a@10.0=x,b@own=y`, `written 10.0`, `status none`, `listed -`.
abbrev pub reply_text : Reply → List ℕ
reply_text (replies.Value origin value) = codes "value" · origin_text origin · or_dash value_text value
reply_text (replies.Rows rows) = codes "rows" · listed row_text rows
reply_text (replies.Conflict holder ts key) = codes "conflict" · meta_text holder · ts_text ts · key_text key
reply_text (replies.Written ts) = codes "written" · ts_text ts
reply_text replies.Refreshed = codes "refreshed"
reply_text (replies.Unrefreshed key ts) = codes "unrefreshed" · key_text key · ts_text ts
reply_text (replies.Status view) = codes "status" · view_text view
reply_text (replies.Refused view) = codes "refused" · view_text view
reply_text (replies.Unsure view) = codes "unsure" · view_text view
reply_text replies.Found = codes "found"
reply_text replies.Missing = codes "missing"
reply_text replies.Resolved = codes "resolved"
reply_text replies.Removed = codes "removed"
reply_text (replies.Listed metas) = codes "listed" · listed meta_text metas
