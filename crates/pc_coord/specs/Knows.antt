-- How a coordinator stands beside what its session knows.
use Rattle.std.specs.Prelude.{◌≡◌, ℕ, ◌≤◌, ◌⊎◌, Bool, true, false, Option, None, Some, IfSome, List, [], ◌∷◌, ◌++◌, All, IsTrue, ⊤}
use Rattle.pc_base.specs.declared.actor.ActorId.TheVariants as actors
use Rattle.pc_base.specs.Rising.{AreRising}
use Rattle.pc_call.specs.declared.call.OpenCall.{OpenCall}
use Rattle.pc_call.specs.declared.later.LaterPut.{LaterPut}
use Rattle.pc_call.specs.declared.over.Left.{Left}
use Rattle.pc_call.specs.Finished.{MayBeSettled}
use Rattle.pc_call.specs.Sending.{IsConflictNow, IsSendable}
use Rattle.pc_call.specs.Serving.{InCall}
use Rattle.pc_call.specs.Outbox.{MayWait}
use Rattle.pc_call.specs.Stages.{HasOutboxBetween}
use Rattle.pc_call.specs.Telling.{StandsOpen, TellsAfterEighth}
use Rattle.pc_coord.specs.Aside.{KeepsAside}
use Rattle.pc_coord.specs.Coordination.{Coordination, awaits_number, setting_of}
use Rattle.pc_coord.specs.declared.due.Due.{Due}
use Rattle.pc_coord.specs.declared.due.Due.TheVariants as dues
use Rattle.pc_coord.specs.declared.job.Job.{Job}
use Rattle.pc_coord.specs.declared.next.Next.{Next}
use Rattle.pc_coord.specs.declared.next.Next.TheVariants as nexts
use Rattle.pc_coord.specs.Ranged.{IsRanged, WentToOneRange}
use Rattle.pc_coord.specs.Suiting.{SuitsNext}
use Rattle.pc_proto.specs.declared.answer.Answer.{Answer}
use Rattle.pc_proto.specs.declared.call.Call.TheVariants as calls
use Rattle.pc_proto.specs.declared.event.Event.{Event}
use Rattle.pc_proto.specs.declared.event.Event.TheVariants as events
use Rattle.pc_proto.specs.declared.request.Request.{Request}
use Rattle.pc_proto.specs.declared.request.Request.TheVariants as requests
use Rattle.pc_proto.specs.Requests.{is_put, is_stage}
use Rattle.pc_txn.specs.Counted.{IsCounted}
use Rattle.pc_txn.specs.declared.txn.OpenTxn.{OpenTxn}
use Rattle.pc_wave.specs.declared.step.Step.{Step}
use Rattle.pc_wave.specs.declared.step.Step.TheVariants as steps
use Rattle.pc_wave.specs.Messages.{step_of}
use Rattle.pc_wave.specs.Standing.{goes_beside}
use Rattle.pc_follows.specs.FinishingJobs.{finishing_messages, left_by}
use Rattle.pc_follows.specs.FirstBlock.{TellsFirstBlock}
use Rattle.pc_follows.specs.Heartbeats.{KeepsHeartbeats}
use Rattle.pc_follows.specs.Rollbacks.{AbortsFirst, TellsRollbacks}
use Rattle.pc_follows.specs.PipelinedPuts.{TellsWritten}
use Rattle.pc_follows.specs.Refreshes.{RefreshesReads}
use Rattle.pc_world.specs.Known.{Known, known_after, reading_of}
use Rattle.pc_world.specs.Known.Clock.{high_after, top_after}
use Rattle.pc_world.specs.Known.Statements.{Statement}
use Rattle.pc_world.specs.Known.Traffic.{Sent, heard_by, request_sent}
use Rattle.pc_world.specs.MayTell.{MayTell}
use Rattle.pc_world.specs.RangeOf.{IsForOne}
use Rattle.pc_world.specs.SameRequest.{IsSameRequest}
use Rattle.pc_world.specs.Tell.Refusal.{is_heard}

-- What a session knows after an event of its own that names no entry.
abbrev pub learned : Event → Known → Known
learned event k = known_after event (heard_by event None k.sent) (top_after event None k.top) (high_after event None k.high) k

-- What was left, of which this is the job.
abbrev pub left_for : Job → Left
left_for job = record { meta = job.meta; staged = job.staged; fate = job.fate; locks = job.locks }

-- The job's transaction may be finished as the job says; or, where its record is to be committed first, that may be done.
abbrev pub MayFinishJob : Known → Job → Type 0
MayFinishJob k job = MayBeSettled k (left_for job)

-- The commit with which a job begins, if it does.
abbrev pub commit_in_front : Option ℕ → Job → List Request
commit_in_front None job = []
commit_in_front (Some ts) job = requests.Commit job.meta ts job.locks ∷ []

-- The messages that a job comes to: where it begins with a commit, that goes first; then each lock is settled, then the record is removed.
abbrev pub messages_of_job : Job → List Request
messages_of_job job = commit_in_front job.staged job ++ finishing_messages job.meta.id job.fate job.meta.anchor job.locks

-- The messages that what is left comes to.
abbrev pub messages_left : Option Job → List Request
messages_left None = []
messages_left (Some job) = messages_of_job job

-- No transaction is open; or the coordinator's is, and it stands between calls.
abbrev pub IsHeld : Option OpenTxn → Known → Type 0
IsHeld None k = k.is_open ≡ false
IsHeld (Some x) k = StandsOpen k x

-- The message was heard, or goes beside the waves of calls, or is a put.
abbrev pub IsHeardBesideOrPut : Known → Sent → Type 0
IsHeardBesideOrPut k m = IsTrue (is_heard k.heard m) ⊎ (goes_beside m.request ≡ true) ⊎ (is_put m.request ≡ true)

-- Where nothing is lost, of all that was sent only puts are not heard.
abbrev pub AreAllHeard : Bool → Known → Type 0
AreAllHeard loses k = loses ≡ false → All (IsHeardBesideOrPut k) k.sent

-- Puts of the open transaction alone wait in the outbox, and where nothing is lost only puts are not heard of all that was sent.
abbrev pub IsOutboxOf : Bool → Option OpenTxn → List LaterPut → Known → Type 0
IsOutboxOf loses None later k = (later ≡ []) × AreAllHeard loses k
IsOutboxOf loses (Some x) later k = HasOutboxBetween loses k x later

-- No statement is open, the coordinator's transaction is the session's, and what the last one left may be done.
pub record Rests (loses : Bool) (session clock begun : ℕ) (txn : Option OpenTxn) (later : List LaterPut) (job : Option Job) (k : Known) : Type 0 where
  pub counted : IsCounted session clock begun k
  pub none_open : k.statement ≡ None
  pub held : IsHeld txn k
  pub outbox : IsOutboxOf loses txn later k
  pub left : IfSome job (MayFinishJob k)

-- More is due of the messages: one is to be sent, or delivered, or its conflict is to have its round.
abbrev pub is_under_way : Step → Type 0
is_under_way (steps.Send request) = ⊤
is_under_way steps.Deliver = ⊤
is_under_way (steps.Round number conflict) = ⊤
is_under_way (steps.Blocked holder) = ⊥
is_under_way steps.Answered = ⊥

-- The messages of the open call stand beside what the session knows, and more is due of them; the call was asked at the coordinator's reading, and what waits in
-- the outbox is apart from its messages; nothing is left of an earlier transaction.
pub record HasCallDue (loses : Bool) (c : Coordination) (k : Known) (call : OpenCall) : Type 0 where
  pub counted : IsCounted c.session c.clock c.begun k
  pub x : OpenTxn
  pub held : c.txn ≡ Some x
  pub in_call : InCall (setting_of loses c) k x call.purpose call.wave
  pub asked_at : reading_of k ≡ Some c.reading
  pub aside : KeepsAside loses c.pipelining k x call.purpose c.later call.wave
  pub on : is_under_way (step_of call.wave)
  pub handed : c.job ≡ None

-- The open call may be told the answer, as its workload has it; this is what it leaves to be done, and which calls suit the transaction then.
pub record IsTellable (loses : Bool) (c : Coordination) (k : Known) (answer : Answer) : Type 0 where
  pub may : MayTell c.splits (actors.Session c.session) k answer
  pub written : TellsWritten c.pipelining k (events.Tell answer)
  pub aborts : loses ≡ false → AbortsFirst k (events.Tell answer)
  pub rolled_back : TellsRollbacks k (events.Tell answer)
  pub restarts : RefreshesReads k (events.Tell answer)
  pub eighth : (s : Statement) → k.statement ≡ Some s → TellsAfterEighth loses k s answer
  pub blocked : c.pipelining ≡ true → (s : Statement) → k.statement ≡ Some s → s.call ≡ calls.Commit → TellsFirstBlock true k answer
  pub beats : loses ≡ false → KeepsHeartbeats k (events.Tell answer)
  pub left : messages_left c.job ≡ left_by answer k
  pub suits : (s : Statement) → k.statement ≡ Some s → SuitsNext c.pipelining answer s.call c.txn

-- The answer may be told, and once it is no statement is open.
pub record TellsNow (loses : Bool) (c : Coordination) (k : Known) (answer : Answer) : Type 0 where
  pub may : IsTellable loses c k answer
  pub after : Rests loses c.session c.clock c.begun c.txn c.later c.job (learned (events.Tell answer) k)

-- How the coordinator stands beside what its session knows, by what is due.
abbrev pub KnowsAt : Bool → Coordination → Known → Due → Type 0
KnowsAt loses c k dues.Nothing = Rests loses c.session c.clock c.begun c.txn c.later c.job k
KnowsAt loses c k (dues.Call call) = HasCallDue loses c k call
KnowsAt loses c k (dues.Tell answer) = TellsNow loses c k answer

-- What holds at any time: some try is allowed; the keys at which the ranges are cut rise, and each message was for one range; where messages may be lost, those of one
-- request went to one range; without pipelining no put waits, and no stage was sent.
pub record KeepsCourse (loses : Bool) (c : Coordination) (k : Known) : Type 0 where
  pub tried : 1 ≤ c.tries
  pub rising : AreRising c.splits
  pub ranged : IsRanged c.splits k
  pub one_range : loses ≡ true → WentToOneRange k
  pub may_wait : MayWait c.pipelining c.later
  pub unstaged : c.pipelining ≡ false → All (λ m. is_stage m.request ≡ false) k.sent

-- The coordinator knows what its session knows. What is due may be sent or told, and once it is, the coordinator stands as the session does.
pub record Knows (loses : Bool) (c : Coordination) (k : Known) : Type 0 where
  pub course : KeepsCourse loses c k
  pub stands : KnowsAt loses c k c.due

-- The coordinator waits for no message of this request.
abbrev pub AwaitsNone : Coordination → Known → Request → Type 0
AwaitsNone c k request =
    (number : ℕ) (other : Request) → IsTrue (awaits_number number c.due) → request_sent number k.sent ≡ Some other → IsSameRequest request other → ⊥

-- What comes next is allowed: a request may be sent, none of the same is waited for, and it is for one range; messages are delivered where one
-- is waited for; an answer may be told; a conflict was met; and nothing comes only where no call is open.
abbrev pub MayCome : Bool → Coordination → Known → Next → Type 0
MayCome loses c k (nexts.Send request) = IsSendable (setting_of loses c) c.session k request × AwaitsNone c k request × IsForOne c.splits request
MayCome loses c k (nexts.Later request) = IsSendable (setting_of loses c) c.session k request × AwaitsNone c k request × IsForOne c.splits request
MayCome loses c k nexts.Wave = (number : ℕ) × IsTrue (awaits_number number c.due)
MayCome loses c k (nexts.Conflict number conflict reader) = IsConflictNow (setting_of loses c).course k number conflict reader
MayCome loses c k (nexts.Tell answer) = IsTellable loses c k answer
MayCome loses c k nexts.Idle = k.statement ≡ None
