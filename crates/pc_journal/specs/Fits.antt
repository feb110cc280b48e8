-- What has a spelling: numbers within the limits of their types, keys and values that are keys and values, and rows of what
-- a client is told without their origin. Own profile.
use Rattle.std.specs.Prelude.{◌≡◌, ℕ, ◌^◌, ◌<◌, List, Option, IfSome}
use Rattle.std.specs.Prelude.{All}
use Rattle.pc_base.specs.declared.actor.ActorId.{ActorId}
use Rattle.pc_base.specs.declared.actor.ActorId.TheVariants as actors
use Rattle.pc_base.specs.declared.entry.Entry.{Entry}
use Rattle.pc_base.specs.declared.span.Span.{Span}
use Rattle.pc_base.specs.declared.span.Span.TheVariants as spans
use Rattle.pc_base.specs.declared.transaction.Priority.{Priority}
use Rattle.pc_base.specs.declared.transaction.TxnId.{TxnId}
use Rattle.pc_base.specs.declared.transaction.Who.{Who}
use Rattle.pc_base.specs.declared.transaction.Who.TheVariants as whos
use Rattle.pc_base.specs.Key.{IsKey}
use Rattle.pc_base.specs.Value.{IsValue}
use Rattle.pc_proto.specs.declared.answer.Answer.{Answer}
use Rattle.pc_proto.specs.declared.answer.Answer.TheVariants as answers
use Rattle.pc_proto.specs.declared.call.Call.{Call}
use Rattle.pc_proto.specs.declared.call.Call.TheVariants as calls
use Rattle.pc_proto.specs.declared.event.Event.{Event}
use Rattle.pc_proto.specs.declared.event.Event.TheVariants as events
use Rattle.pc_proto.specs.declared.fate.Fate.{Fate}
use Rattle.pc_proto.specs.declared.fate.Fate.TheVariants as fates
use Rattle.pc_proto.specs.declared.fate.Finding.{Finding}
use Rattle.pc_proto.specs.declared.fate.Finding.TheVariants as findings
use Rattle.pc_proto.specs.declared.fate.Goal.{Goal}
use Rattle.pc_proto.specs.declared.fate.Goal.TheVariants as goals
use Rattle.pc_proto.specs.declared.meta.TxnMeta.{TxnMeta}
use Rattle.pc_proto.specs.declared.reply.Origin.{Origin}
use Rattle.pc_proto.specs.declared.reply.Origin.TheVariants as origins
use Rattle.pc_proto.specs.declared.reply.Reply.{Reply}
use Rattle.pc_proto.specs.declared.reply.Reply.TheVariants as replies
use Rattle.pc_proto.specs.declared.request.Request.{Request}
use Rattle.pc_proto.specs.declared.request.Request.TheVariants as requests
use Rattle.pc_proto.specs.declared.view.View.{View}
use Rattle.pc_proto.specs.declared.view.View.TheVariants as views
use Rattle.pc_proto.specs.declared.why.Why.{Why}
use Rattle.pc_proto.specs.declared.why.Why.TheVariants as whys

-- A number of 32 bits.
abbrev pub Fits32 : ℕ → Type 0
Fits32 number = number < 2 ^ 32

-- A number of 64 bits.
abbrev pub Fits64 : ℕ → Type 0
Fits64 number = number < 2 ^ 64

-- A timestamp: a wall part of 64 bits and a logical part of 32.
abbrev pub FitsTimestamp : ℕ → Type 0
FitsTimestamp ts = ts < 2 ^ 96

-- Every priority has a spelling.
abbrev pub FitsPriority : Priority → Type 0
FitsPriority priority = Unit {0}

abbrev pub FitsId : TxnId → Type 0
FitsId id = Fits32 id.session × Fits32 id.number

abbrev pub FitsActor : ActorId → Type 0
FitsActor (actors.Range number) = Fits32 number
FitsActor (actors.Session number) = Fits32 number
FitsActor (actors.Recoverer number) = Fits32 number

abbrev pub FitsWho : Who → Type 0
FitsWho (whos.Txn id) = FitsId id
FitsWho (whos.Recoverer number) = Fits32 number

-- Any two ends have a spelling, also those between which no key lies.
abbrev pub FitsSpan : Span → Type 0
FitsSpan (spans.One key) = IsKey key
FitsSpan (spans.Between from to) = IfSome from IsKey × IfSome to IsKey

abbrev pub FitsValue : Option (List ℕ) → Type 0
FitsValue value = IfSome value IsValue

abbrev pub FitsKeys : List (List ℕ) → Type 0
FitsKeys keys = All IsKey keys

abbrev pub FitsWrite : (List ℕ × ℕ) → Type 0
FitsWrite write = IsKey write.0 × Fits32 write.1

abbrev pub FitsWrites : List (List ℕ × ℕ) → Type 0
FitsWrites writes = All FitsWrite writes

abbrev pub FitsWhy : Why → Type 0
FitsWhy (whys.Pushed by) = FitsWho by
FitsWhy (whys.Missing key by) = IsKey key × FitsWho by
FitsWhy (whys.Refresh key ts) = IsKey key × FitsTimestamp ts
FitsWhy whys.Client = Unit {0}

abbrev pub FitsMeta : TxnMeta → Type 0
FitsMeta meta = FitsId meta.id × (Fits32 meta.epoch × (FitsPriority meta.priority × (Fits64 meta.born × IsKey meta.anchor)))

-- A point of a transaction's history: its name, its epoch and a sequence.
abbrev pub FitsPoint : (TxnId × (ℕ × ℕ)) → Type 0
FitsPoint point = FitsId point.0 × (Fits32 point.1.0 × Fits32 point.1.1)

abbrev pub FitsView : View → Type 0
FitsView views.Nothing = Unit {0}
FitsView (views.Pending epoch ts) = Fits32 epoch × FitsTimestamp ts
FitsView (views.Staging epoch ts writes) = Fits32 epoch × (FitsTimestamp ts × FitsWrites writes)
FitsView (views.Committed epoch ts locks) = Fits32 epoch × (FitsTimestamp ts × FitsKeys locks)
FitsView (views.Aborted epoch why locks) = Fits32 epoch × (FitsWhy why × FitsKeys locks)

abbrev pub FitsGoal : Goal → Type 0
FitsGoal goals.Abort = Unit {0}
FitsGoal (goals.Move ts) = FitsTimestamp ts

abbrev pub FitsFinding : Finding → Type 0
FitsFinding findings.All = Unit {0}
FitsFinding (findings.Missing key by) = IsKey key × FitsWho by

abbrev pub FitsFate : Fate → Type 0
FitsFate (fates.Committed epoch ts) = Fits32 epoch × FitsTimestamp ts
FitsFate fates.Aborted = Unit {0}
FitsFate (fates.Pending ts) = FitsTimestamp ts

abbrev pub FitsRequest : Request → Type 0
FitsRequest (requests.Get id epoch seq ts key) = FitsPoint (id, (epoch, seq)) × (FitsTimestamp ts × IsKey key)
FitsRequest (requests.Scan id epoch seq ts span) = FitsPoint (id, (epoch, seq)) × (FitsTimestamp ts × FitsSpan span)
FitsRequest (requests.Put meta seq ts key value) = FitsMeta meta × (Fits32 seq × (FitsTimestamp ts × (IsKey key × FitsValue value)))
FitsRequest (requests.Refresh id from to span) = FitsId id × (FitsTimestamp from × (FitsTimestamp to × FitsSpan span))
FitsRequest (requests.Beat meta ts now) = FitsMeta meta × (FitsTimestamp ts × Fits64 now)
FitsRequest (requests.Stage meta ts now writes locks) = FitsMeta meta × (FitsTimestamp ts × (Fits64 now × (FitsWrites writes × FitsKeys locks)))
FitsRequest (requests.Commit meta ts locks) = FitsMeta meta × (FitsTimestamp ts × FitsKeys locks)
FitsRequest (requests.Abort meta why locks) = FitsMeta meta × (FitsWhy why × FitsKeys locks)
FitsRequest (requests.Push holder by level now goal) = FitsMeta holder × (FitsWho by × (FitsPriority level × (Fits64 now × FitsGoal goal)))
FitsRequest (requests.Query id epoch seq ts key by) = FitsPoint (id, (epoch, seq)) × (FitsTimestamp ts × (IsKey key × FitsWho by))
FitsRequest (requests.Recover id epoch ts anchor finding) = FitsId id × (Fits32 epoch × (FitsTimestamp ts × (IsKey anchor × FitsFinding finding)))
FitsRequest (requests.Resolve id key fate) = FitsId id × (IsKey key × FitsFate fate)
FitsRequest (requests.Remove id anchor) = FitsId id × IsKey anchor
FitsRequest requests.Records = Unit {0}

abbrev pub FitsOrigin : Origin → Type 0
FitsOrigin origins.Nothing = Unit {0}
FitsOrigin origins.Own = Unit {0}
FitsOrigin (origins.At ts) = FitsTimestamp ts

-- A row of a reply.
abbrev pub FitsRow : (List ℕ × Origin × List ℕ) → Type 0
FitsRow row = IsKey row.0 × (FitsOrigin row.1 × IsValue row.2)

-- What is printed of a row that a client is told.
pub record FitsBareRow (row : List ℕ × Origin × List ℕ) : Type 0 where
  pub key : IsKey row.0
  pub value : IsValue row.2

-- A row that a client is told: its origin is not printed, so it has none.
abbrev pub FitsToldRow : (List ℕ × Origin × List ℕ) → Type 0
FitsToldRow row = IsKey row.0 × ((row.1 ≡ origins.Nothing) × IsValue row.2)

abbrev pub FitsReply : Reply → Type 0
FitsReply (replies.Value origin value) = FitsOrigin origin × FitsValue value
FitsReply (replies.Rows rows) = All FitsRow rows
FitsReply (replies.Conflict holder ts key) = FitsMeta holder × (FitsTimestamp ts × IsKey key)
FitsReply (replies.Written ts) = FitsTimestamp ts
FitsReply replies.Refreshed = Unit {0}
FitsReply (replies.Unrefreshed key ts) = IsKey key × FitsTimestamp ts
FitsReply (replies.Status view) = FitsView view
FitsReply (replies.Refused view) = FitsView view
FitsReply (replies.Unsure view) = FitsView view
FitsReply replies.Found = Unit {0}
FitsReply replies.Missing = Unit {0}
FitsReply replies.Resolved = Unit {0}
FitsReply replies.Removed = Unit {0}
FitsReply (replies.Listed metas) = All FitsMeta metas

abbrev pub FitsCall : Call → Type 0
FitsCall (calls.Begin priority) = FitsPriority priority
FitsCall (calls.Get key) = IsKey key
FitsCall (calls.Scan span) = FitsSpan span
FitsCall (calls.Put key value) = IsKey key × IsValue value
FitsCall (calls.Delete key) = IsKey key
FitsCall calls.Commit = Unit {0}
FitsCall calls.Rollback = Unit {0}
FitsCall (calls.Learn id) = FitsId id
FitsCall calls.Round = Unit {0}

abbrev pub FitsAnswer : Answer → Type 0
FitsAnswer (answers.Begun id ts) = FitsId id × FitsTimestamp ts
FitsAnswer (answers.Value value) = FitsValue value
FitsAnswer (answers.Rows rows) = All FitsToldRow rows
FitsAnswer answers.Written = Unit {0}
FitsAnswer (answers.Committed id ts) = FitsId id × FitsTimestamp ts
FitsAnswer (answers.RolledBack id why) = FitsId id × FitsWhy why
FitsAnswer answers.Learnt = Unit {0}
FitsAnswer answers.NotYet = Unit {0}
FitsAnswer answers.Done = Unit {0}
FitsAnswer (answers.Blocked holder) = FitsId holder
FitsAnswer (answers.Unavailable faults) = Fits32 faults
FitsAnswer (answers.Aborted why) = FitsWhy why
FitsAnswer (answers.Restart key ts) = IsKey key × FitsTimestamp ts
FitsAnswer (answers.Unknown id) = FitsId id
FitsAnswer (answers.Moved ts) = FitsTimestamp ts
FitsAnswer (answers.Clock reading) = Fits64 reading
FitsAnswer answers.NoTxn = Unit {0}

abbrev pub FitsEvent : Event → Type 0
FitsEvent (events.Ask call reading) = FitsCall call × Fits64 reading
FitsEvent (events.Send number range request) = Fits64 number × (Fits32 range × FitsRequest request)
FitsEvent (events.Eval actor number reply) = FitsActor actor × (Fits64 number × FitsReply reply)
FitsEvent (events.Hear number step) = Fits64 number × Fits64 step
FitsEvent (events.Tell answer) = FitsAnswer answer
FitsEvent (events.Meet id step) = FitsId id × Fits64 step

-- An entry that has a spelling.
abbrev pub FitsEntry : Entry Event → Type 0
FitsEntry entry = Fits64 entry.step × (FitsActor entry.actor × FitsEvent entry.event)
