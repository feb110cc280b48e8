-- The timestamps that stand in a message or an event.
use Rattle.std.specs.Prelude.{ℕ, max, List, [], ◌∷◌, fold}
use Rattle.std.specs.List.{flat_map}
use Rattle.pc_proto.specs.declared.answer.Answer.{Answer}
use Rattle.pc_proto.specs.declared.answer.Answer.TheVariants as answers
use Rattle.pc_proto.specs.declared.event.Event.{Event}
use Rattle.pc_proto.specs.declared.event.Event.TheVariants as events
use Rattle.pc_proto.specs.declared.fate.Fate.{Fate}
use Rattle.pc_proto.specs.declared.fate.Fate.TheVariants as fates
use Rattle.pc_proto.specs.declared.fate.Goal.{Goal}
use Rattle.pc_proto.specs.declared.fate.Goal.TheVariants as goals
use Rattle.pc_proto.specs.declared.reply.Origin.{Origin}
use Rattle.pc_proto.specs.declared.reply.Origin.TheVariants as origins
use Rattle.pc_proto.specs.declared.reply.Reply.{Reply}
use Rattle.pc_proto.specs.declared.reply.Reply.TheVariants as replies
use Rattle.pc_proto.specs.declared.request.Request.{Request}
use Rattle.pc_proto.specs.declared.request.Request.TheVariants as requests
use Rattle.pc_proto.specs.declared.view.View.{View}
use Rattle.pc_proto.specs.declared.view.View.TheVariants as views
use Rattle.pc_proto.specs.declared.why.Why.{Why}
use Rattle.pc_proto.specs.declared.why.Why.TheVariants as whys

-- The timestamps in the cause of an abort.
abbrev pub why_stamps : Why → List ℕ
why_stamps (whys.Refresh key ts) = ts ∷ []
why_stamps (whys.Pushed by) = []
why_stamps (whys.Missing key by) = []
why_stamps whys.Client = []

-- The timestamps in what a push is for.
abbrev pub goal_stamps : Goal → List ℕ
goal_stamps goals.Abort = []
goal_stamps (goals.Move ts) = ts ∷ []

-- The timestamps in the fate of a transaction.
abbrev pub fate_stamps : Fate → List ℕ
fate_stamps (fates.Committed epoch ts) = ts ∷ []
fate_stamps fates.Aborted = []
fate_stamps (fates.Pending ts) = ts ∷ []

-- The timestamps in where a value comes from.
abbrev pub origin_stamps : Origin → List ℕ
origin_stamps origins.Nothing = []
origin_stamps origins.Own = []
origin_stamps (origins.At ts) = ts ∷ []

-- The timestamps in a view of a transaction.
abbrev pub view_stamps : View → List ℕ
view_stamps views.Nothing = []
view_stamps (views.Pending epoch ts) = ts ∷ []
view_stamps (views.Staging epoch ts writes) = ts ∷ []
view_stamps (views.Committed epoch ts locks) = ts ∷ []
view_stamps (views.Aborted epoch why locks) = why_stamps why

-- The timestamps in the rows of a scan.
abbrev pub row_stamps : List (List ℕ × Origin × List ℕ) → List ℕ
row_stamps rows = flat_map (λ row. origin_stamps row.1) rows

-- The timestamps in a request.
abbrev pub request_stamps : Request → List ℕ
request_stamps (requests.Get id epoch seq ts key) = ts ∷ []
request_stamps (requests.Scan id epoch seq ts span) = ts ∷ []
request_stamps (requests.Put meta seq ts key value) = ts ∷ []
request_stamps (requests.Refresh id from to span) = from ∷ to ∷ []
request_stamps (requests.Beat meta ts now) = ts ∷ []
request_stamps (requests.Stage meta ts now writes locks) = ts ∷ []
request_stamps (requests.Commit meta ts locks) = ts ∷ []
request_stamps (requests.Abort meta why locks) = why_stamps why
request_stamps (requests.Push holder by level now goal) = goal_stamps goal
request_stamps (requests.Query id epoch seq ts key by) = ts ∷ []
request_stamps (requests.Recover id epoch ts anchor finding) = ts ∷ []
request_stamps (requests.Resolve id key fate) = fate_stamps fate
request_stamps (requests.Remove id anchor) = []
request_stamps requests.Records = []

-- The timestamps in a reply.
abbrev pub reply_stamps : Reply → List ℕ
reply_stamps (replies.Value origin value) = origin_stamps origin
reply_stamps (replies.Rows rows) = row_stamps rows
reply_stamps (replies.Conflict holder ts key) = ts ∷ []
reply_stamps (replies.Written ts) = ts ∷ []
reply_stamps replies.Refreshed = []
reply_stamps (replies.Unrefreshed key ts) = ts ∷ []
reply_stamps (replies.Status view) = view_stamps view
reply_stamps (replies.Refused view) = view_stamps view
reply_stamps (replies.Unsure view) = view_stamps view
reply_stamps replies.Found = []
reply_stamps replies.Missing = []
reply_stamps replies.Resolved = []
reply_stamps replies.Removed = []
reply_stamps (replies.Listed metas) = []

-- The timestamps in an answer.
abbrev pub answer_stamps : Answer → List ℕ
answer_stamps (answers.Begun id ts) = ts ∷ []
answer_stamps (answers.Value value) = []
answer_stamps (answers.Rows rows) = row_stamps rows
answer_stamps answers.Written = []
answer_stamps (answers.Committed id ts) = ts ∷ []
answer_stamps (answers.RolledBack id why) = why_stamps why
answer_stamps answers.Learnt = []
answer_stamps answers.NotYet = []
answer_stamps answers.Done = []
answer_stamps (answers.Blocked holder) = []
answer_stamps (answers.Unavailable faults) = []
answer_stamps (answers.Aborted why) = why_stamps why
answer_stamps (answers.Restart key ts) = ts ∷ []
answer_stamps (answers.Unknown id) = []
answer_stamps (answers.Moved ts) = ts ∷ []
answer_stamps (answers.Clock reading) = []
answer_stamps answers.NoTxn = []

-- The timestamps in an event.
abbrev pub event_stamps : Event → List ℕ
event_stamps (events.Ask call reading) = []
event_stamps (events.Send number range request) = request_stamps request
event_stamps (events.Eval actor number reply) = reply_stamps reply
event_stamps (events.Hear number step) = []
event_stamps (events.Tell answer) = answer_stamps answer
event_stamps (events.Meet id step) = []

-- The greatest of these timestamps, 0 where there is none.
abbrev pub greatest_of : List ℕ → ℕ
greatest_of stamps = fold (λ most ts. max most ts) 0 stamps
