-- The kinds of reply that a range gives to each request, whatever has happened (the law `replies_have_kinds`). That a record which a commit
-- leaves undecided is past it is said of runs alone (the law `open_records_are_past`). Own profile.
use Rattle.std.specs.Prelude.{◌≡◌, true, false, ⊤}
use Rattle.pc_base.specs.declared.transaction.TxnId.{TxnId}
use Rattle.pc_proto.specs.declared.reply.Reply.{Reply}
use Rattle.pc_proto.specs.declared.reply.Reply.TheVariants as replies
use Rattle.pc_proto.specs.declared.request.Request.{Request}
use Rattle.pc_proto.specs.declared.request.Request.TheVariants as requests
use Rattle.pc_proto.specs.declared.view.View.{View}
use Rattle.pc_proto.specs.declared.view.View.TheVariants as views
use Rattle.pc_proto.specs.Views.{is_final_view}

-- A conflict is with another transaction.
abbrev pub IsWithAnother : TxnId → Reply → Type 0
IsWithAnother id (replies.Conflict holder ts key) = holder.id ≡ id → ⊥
IsWithAnother id _ = ⊥

-- A get is answered by a value, or met an intent of another.
abbrev pub IsGetReply : TxnId → Reply → Type 0
IsGetReply id (replies.Value origin value) = ⊤
IsGetReply id told = IsWithAnother id told

-- A scan is answered by rows, or met an intent of another.
abbrev pub IsScanReply : TxnId → Reply → Type 0
IsScanReply id (replies.Rows rows) = ⊤
IsScanReply id told = IsWithAnother id told

-- A put is answered by where it was written, or met an intent of another.
abbrev pub IsPutReply : TxnId → Reply → Type 0
IsPutReply id (replies.Written ts) = ⊤
IsPutReply id told = IsWithAnother id told

-- A refresh is answered that it held, or by the write that refutes it.
abbrev pub IsRefreshReply : Reply → Type 0
IsRefreshReply replies.Refreshed = ⊤
IsRefreshReply (replies.Unrefreshed key ts) = ⊤
IsRefreshReply _ = ⊥

-- The view is of a record or a mark.
abbrev pub IsOfSome : View → Type 0
IsOfSome views.Nothing = ⊥
IsOfSome view = ⊤

-- The view is of a staging record.
abbrev pub IsOfStaging : View → Type 0
IsOfStaging (views.Staging epoch ts writes) = ⊤
IsOfStaging view = ⊥

-- An abort is answered by a final status.
abbrev pub IsAbortReply : Reply → Type 0
IsAbortReply (replies.Status view) = is_final_view view ≡ true
IsAbortReply _ = ⊥

-- A heartbeat, a stage and a commit are answered by what is there after them.
abbrev pub IsRecordReply : Reply → Type 0
IsRecordReply (replies.Status view) = IsOfSome view
IsRecordReply told = ⊥

-- A push is answered by what is there after it; or it is refused, by what is not decided; or a recovery must decide, of what is staging.
abbrev pub IsPushReply : Reply → Type 0
IsPushReply (replies.Status view) = IsOfSome view
IsPushReply (replies.Refused view) = is_final_view view ≡ false
IsPushReply (replies.Unsure view) = IsOfStaging view
IsPushReply told = ⊥

-- A query found its write, or missed it.
abbrev pub IsQueryReply : Reply → Type 0
IsQueryReply replies.Found = ⊤
IsQueryReply replies.Missing = ⊤
IsQueryReply told = ⊥

abbrev pub IsResolved : Reply → Type 0
IsResolved replies.Resolved = ⊤
IsResolved _ = ⊥

-- A recovery is answered by what the range has then.
abbrev pub IsRecoverReply : Reply → Type 0
IsRecoverReply (replies.Status view) = ⊤
IsRecoverReply told = ⊥

-- A removal is done, or is answered by what is not decided.
abbrev pub IsRemoveReply : Reply → Type 0
IsRemoveReply replies.Removed = ⊤
IsRemoveReply (replies.Status view) = is_final_view view ≡ false
IsRemoveReply told = ⊥

-- Records are listed.
abbrev pub IsListing : Reply → Type 0
IsListing (replies.Listed metas) = ⊤
IsListing told = ⊥

-- The request may be answered so: the reply is of its kind.
abbrev pub MayAnswer : Request → Reply → Type 0
MayAnswer (requests.Get id epoch seq ts key) told = IsGetReply id told
MayAnswer (requests.Scan id epoch seq ts span) told = IsScanReply id told
MayAnswer (requests.Put meta seq ts key value) told = IsPutReply meta.id told
MayAnswer (requests.Refresh id from to span) told = IsRefreshReply told
MayAnswer (requests.Beat meta ts now) told = IsRecordReply told
MayAnswer (requests.Stage meta ts now writes locks) told = IsRecordReply told
MayAnswer (requests.Commit meta ts locks) told = IsRecordReply told
MayAnswer (requests.Abort meta why locks) told = IsAbortReply told
MayAnswer (requests.Push holder by level now goal) told = IsPushReply told
MayAnswer (requests.Query id epoch seq ts key by) told = IsQueryReply told
MayAnswer (requests.Recover id epoch ts anchor finding) told = IsRecoverReply told
MayAnswer (requests.Resolve id key fate) told = IsResolved told
MayAnswer (requests.Remove id anchor) told = IsRemoveReply told
MayAnswer requests.Records told = IsListing told
