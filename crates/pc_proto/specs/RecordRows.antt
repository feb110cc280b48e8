-- The rows of the evaluation table for requests to a transaction record: what each changes, and what it answers.
-- RFC 20180324 and the ParallelCommits TLA+ specification; each row's own file says which part.
use Rattle.std.specs.Prelude.{Option, None, Some, if◌then◌else◌}
use Rattle.pc_base.specs.declared.transaction.TxnId.{TxnId}
use Rattle.pc_proto.specs.declared.reply.Reply.{Reply}
use Rattle.pc_proto.specs.declared.reply.Reply.TheVariants as replies
use Rattle.pc_proto.specs.declared.request.Request.{Request}
use Rattle.pc_proto.specs.declared.request.Request.TheVariants as requests
use Rattle.pc_proto.specs.Place.{Place, Change, Stay, after, is_decided, view_of}
use Rattle.pc_proto.specs.Requests.{subject}
use Rattle.pc_proto.specs.Table.{Table, place_of, applied_to}
use Rattle.pc_proto.specs.RecordRows.Abort.{abort}
use Rattle.pc_proto.specs.RecordRows.Beat.{beat}
use Rattle.pc_proto.specs.RecordRows.Commit.{commit}
use Rattle.pc_proto.specs.RecordRows.Push.{push, push_verdict, Verdict, There, Refuse, Doubt, Do}
use Rattle.pc_proto.specs.RecordRows.Records.{listed_metas}
use Rattle.pc_proto.specs.RecordRows.Recover.{recover}
use Rattle.pc_proto.specs.RecordRows.Remove.{remove}
use Rattle.pc_proto.specs.RecordRows.Stage.{stage}
pub mod Abort
pub mod Beat
pub mod Commit
pub mod Push
pub mod Reached
pub mod Records
pub mod Recover
pub mod Remove
pub mod Stage

-- A decided transaction changes no more.
abbrev pub unless_decided : Place → Change → Change
unless_decided p change = if is_decided p then Stay else change

-- What a request does to the place of its transaction.
abbrev pub place_change : Request → Place → Change
place_change (requests.Beat meta ts now) p = unless_decided p (beat meta ts now p)
place_change (requests.Stage meta ts now writes locks) p = unless_decided p (stage meta ts now writes locks p)
place_change (requests.Commit meta ts locks) p = unless_decided p (commit meta ts locks p)
place_change (requests.Abort meta why locks) p = unless_decided p (abort meta why locks p)
place_change (requests.Push holder by level now goal) p = unless_decided p (push holder by level now goal p)
place_change (requests.Recover id epoch ts anchor finding) p = unless_decided p (recover epoch ts finding p)
place_change (requests.Remove id anchor) p = remove p
place_change _ p = Stay

-- How a push is answered: the place as it is after the push, whether it was refused, or that a recovery must decide.
abbrev pub push_reply : Verdict → Place → Place → Reply
push_reply There before after = replies.Status (view_of after)
push_reply Refuse before after = replies.Refused (view_of before)
push_reply Doubt before after = replies.Unsure (view_of before)
push_reply Do before after = replies.Status (view_of after)

-- The answer of a request that finds this place.
abbrev pub answer : Request → Place → Reply
answer (requests.Push holder by level now goal) p =
    if is_decided p then replies.Status (view_of p)
    else push_reply (push_verdict holder level now goal p) p (after p (push holder by level now goal p))
answer (requests.Remove id anchor) p = if is_decided p then replies.Removed else replies.Status (view_of p)
answer request p = replies.Status (view_of (after p (place_change request p)))

-- The table after a request that speaks of this transaction, or of none.
abbrev pub table_for : Option TxnId → Request → Table → Table
table_for None request table = table
table_for (Some id) request table = applied_to id (place_change request (place_of id table)) table

-- What a request makes of a range's records and marks.
abbrev pub table_after : Request → Table → Table
table_after request table = table_for (subject request) request table

-- The reply to a request that speaks of this transaction, or that lists the records.
abbrev pub reply_for : Option TxnId → Request → Table → Reply
reply_for None request table = replies.Listed (listed_metas table.records)
reply_for (Some id) request table = answer request (place_of id table)

-- What a range answers to a request by its records and marks.
abbrev pub record_reply : Request → Table → Reply
record_reply request table = reply_for (subject request) request table
