-- What the notions of several words stand for, as they are read over the bytes of a line. Own profile.
use Rattle.std.specs.Prelude.{Option, Some, option_map, option_and_then}
use Rattle.pc_base.specs.declared.entry.Entry.{Entry}
use Rattle.pc_proto.specs.declared.answer.Answer.{Answer}
use Rattle.pc_proto.specs.declared.answer.Answer.TheVariants as answers
use Rattle.pc_proto.specs.declared.call.Call.{Call}
use Rattle.pc_proto.specs.declared.call.Call.TheVariants as calls
use Rattle.pc_proto.specs.declared.event.Event.{Event}
use Rattle.pc_proto.specs.declared.event.Event.TheVariants as events
use Rattle.pc_proto.specs.declared.fate.Finding.{Finding}
use Rattle.pc_proto.specs.declared.fate.Finding.TheVariants as findings
use Rattle.pc_proto.specs.declared.reply.Reply.{Reply}
use Rattle.pc_proto.specs.declared.reply.Reply.TheVariants as replies
use Rattle.pc_proto.specs.declared.request.Request.{Request}
use Rattle.pc_proto.specs.declared.request.Request.TheVariants as requests
use Rattle.pc_proto.specs.declared.view.View.{View}
use Rattle.pc_proto.specs.declared.view.View.TheVariants as views
use Rattle.pc_read.specs.declared.answer.AnswerRef.{AnswerRef}
use Rattle.pc_read.specs.declared.answer.AnswerRef.TheVariants as answer_refs
use Rattle.pc_read.specs.declared.call.CallRef.{CallRef}
use Rattle.pc_read.specs.declared.call.CallRef.TheVariants as call_refs
use Rattle.pc_read.specs.declared.event.EntryRef.{EntryRef}
use Rattle.pc_read.specs.declared.event.EventRef.{EventRef}
use Rattle.pc_read.specs.declared.event.EventRef.TheVariants as event_refs
use Rattle.pc_read.specs.declared.reply.ReplyRef.{ReplyRef}
use Rattle.pc_read.specs.declared.reply.ReplyRef.TheVariants as reply_refs
use Rattle.pc_read.specs.declared.request.RequestRef.{RequestRef}
use Rattle.pc_read.specs.declared.request.RequestRef.TheVariants as request_refs
use Rattle.pc_read.specs.declared.view.FindingRef.{FindingRef}
use Rattle.pc_read.specs.declared.view.FindingRef.TheVariants as finding_refs
use Rattle.pc_read.specs.declared.view.ViewRef.{ViewRef}
use Rattle.pc_read.specs.declared.view.ViewRef.TheVariants as view_refs
use Rattle.pc_read.specs.Lists.{own_keys, own_metas, own_rows, own_told_rows, own_writes}
use Rattle.pc_read.specs.Parts.{own_meta, own_span, own_why}
use Rattle.pc_read.specs.Texts.{own_key, own_option, own_value_bytes}

-- What is made of two values where both are there.
abbrev pub of_both : {A B C : Type 0} → (A → B → C) → Option A → Option B → Option C
of_both make one other = option_and_then (λ x. option_map (make x) other) one

abbrev pub own_view : ViewRef → Option View
own_view view_refs.Nothing = Some views.Nothing
own_view (view_refs.Pending epoch ts) = Some (views.Pending epoch ts)
own_view (view_refs.Staging epoch ts writes) = option_map (λ w. views.Staging epoch ts w) (own_writes writes)
own_view (view_refs.Committed epoch ts locks) = option_map (λ k. views.Committed epoch ts k) (own_keys locks)
own_view (view_refs.Aborted epoch why locks) = of_both (λ w k. views.Aborted epoch w k) (own_why why) (own_keys locks)

abbrev pub own_finding : FindingRef → Option Finding
own_finding finding_refs.All = Some findings.All
own_finding (finding_refs.Missing key by) = option_map (λ k. findings.Missing k by) (own_key key)

abbrev pub own_request : RequestRef → Option Request
own_request (request_refs.Get id epoch seq ts key) = option_map (λ k. requests.Get id epoch seq ts k) (own_key key)
own_request (request_refs.Scan id epoch seq ts span) = option_map (λ s. requests.Scan id epoch seq ts s) (own_span span)
own_request (request_refs.Put meta seq ts key value) =
    option_and_then (λ m. of_both (λ k v. requests.Put m seq ts k v) (own_key key) (own_option own_value_bytes value)) (own_meta meta)
own_request (request_refs.Refresh id from to span) = option_map (λ s. requests.Refresh id from to s) (own_span span)
own_request (request_refs.Beat meta ts now) = option_map (λ m. requests.Beat m ts now) (own_meta meta)
own_request (request_refs.Stage meta ts now writes locks) =
    option_and_then (λ m. of_both (λ w k. requests.Stage m ts now w k) (own_writes writes) (own_keys locks)) (own_meta meta)
own_request (request_refs.Commit meta ts locks) = of_both (λ m k. requests.Commit m ts k) (own_meta meta) (own_keys locks)
own_request (request_refs.Abort meta why locks) =
    option_and_then (λ m. of_both (λ w k. requests.Abort m w k) (own_why why) (own_keys locks)) (own_meta meta)
own_request (request_refs.Push holder by level now goal) = option_map (λ m. requests.Push m by level now goal) (own_meta holder)
own_request (request_refs.Query id epoch seq ts key by) = option_map (λ k. requests.Query id epoch seq ts k by) (own_key key)
own_request (request_refs.Recover id epoch ts anchor finding) =
    of_both (λ k f. requests.Recover id epoch ts k f) (own_key anchor) (own_finding finding)
own_request (request_refs.Resolve id key fate) = option_map (λ k. requests.Resolve id k fate) (own_key key)
own_request (request_refs.Remove id anchor) = option_map (λ k. requests.Remove id k) (own_key anchor)
own_request request_refs.Records = Some requests.Records

abbrev pub own_reply : ReplyRef → Option Reply
own_reply (reply_refs.Value origin value) = option_map (λ v. replies.Value origin v) (own_option own_value_bytes value)
own_reply (reply_refs.Rows rows) = option_map replies.Rows (own_rows rows)
own_reply (reply_refs.Conflict holder ts key) = of_both (λ m k. replies.Conflict m ts k) (own_meta holder) (own_key key)
own_reply (reply_refs.Written ts) = Some (replies.Written ts)
own_reply reply_refs.Refreshed = Some replies.Refreshed
own_reply (reply_refs.Unrefreshed key ts) = option_map (λ k. replies.Unrefreshed k ts) (own_key key)
own_reply (reply_refs.Status view) = option_map replies.Status (own_view view)
own_reply (reply_refs.Refused view) = option_map replies.Refused (own_view view)
own_reply (reply_refs.Unsure view) = option_map replies.Unsure (own_view view)
own_reply reply_refs.Found = Some replies.Found
own_reply reply_refs.Missing = Some replies.Missing
own_reply reply_refs.Resolved = Some replies.Resolved
own_reply reply_refs.Removed = Some replies.Removed
own_reply (reply_refs.Listed metas) = option_map replies.Listed (own_metas metas)

abbrev pub own_call : CallRef → Option Call
own_call (call_refs.Begin priority) = Some (calls.Begin priority)
own_call (call_refs.Get key) = option_map calls.Get (own_key key)
own_call (call_refs.Scan span) = option_map calls.Scan (own_span span)
own_call (call_refs.Put key value) = of_both (λ k v. calls.Put k v) (own_key key) (own_value_bytes value)
own_call (call_refs.Delete key) = option_map calls.Delete (own_key key)
own_call call_refs.Commit = Some calls.Commit
own_call call_refs.Rollback = Some calls.Rollback
own_call (call_refs.Learn id) = Some (calls.Learn id)
own_call call_refs.Round = Some calls.Round

abbrev pub own_answer : AnswerRef → Option Answer
own_answer (answer_refs.Begun id ts) = Some (answers.Begun id ts)
own_answer (answer_refs.Value value) = option_map answers.Value (own_option own_value_bytes value)
own_answer (answer_refs.Rows rows) = option_map answers.Rows (own_told_rows rows)
own_answer answer_refs.Written = Some answers.Written
own_answer (answer_refs.Committed id ts) = Some (answers.Committed id ts)
own_answer (answer_refs.RolledBack id why) = option_map (λ w. answers.RolledBack id w) (own_why why)
own_answer answer_refs.Learnt = Some answers.Learnt
own_answer answer_refs.NotYet = Some answers.NotYet
own_answer answer_refs.Done = Some answers.Done
own_answer (answer_refs.Blocked holder) = Some (answers.Blocked holder)
own_answer (answer_refs.Unavailable faults) = Some (answers.Unavailable faults)
own_answer (answer_refs.Aborted why) = option_map answers.Aborted (own_why why)
own_answer (answer_refs.Restart key ts) = option_map (λ k. answers.Restart k ts) (own_key key)
own_answer (answer_refs.Unknown id) = Some (answers.Unknown id)
own_answer (answer_refs.Moved ts) = Some (answers.Moved ts)
own_answer (answer_refs.Clock reading) = Some (answers.Clock reading)
own_answer answer_refs.NoTxn = Some answers.NoTxn

abbrev pub own_event : EventRef → Option Event
own_event (event_refs.Ask call reading) = option_map (λ c. events.Ask c reading) (own_call call)
own_event (event_refs.Send number range request) = option_map (λ r. events.Send number range r) (own_request request)
own_event (event_refs.Eval actor number reply) = option_map (λ r. events.Eval actor number r) (own_reply reply)
own_event (event_refs.Hear number step) = Some (events.Hear number step)
own_event (event_refs.Tell answer) = option_map events.Tell (own_answer answer)
own_event (event_refs.Meet id step) = Some (events.Meet id step)

-- The entry that a line spells.
abbrev pub own_entry : EntryRef → Option (Entry Event)
own_entry entry = option_map (λ e. record { step = entry.step; actor = entry.actor; event = e }) (own_event entry.event)
