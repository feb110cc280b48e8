-- The session's next event, as its coordinator is told of it.
use Rattle.std.specs.Prelude.{◌≡◌, ℕ, ◌≤◌, true, false, None, Some, Contains, ⊤}
use Rattle.pc_base.specs.declared.actor.ActorId.{ActorId}
use Rattle.pc_base.specs.declared.entry.Entry.{Entry}
use Rattle.pc_call.specs.Missing.{IsAboveMisses}
use Rattle.pc_call.specs.GivingUp.{IsAfterAllHeard}
use Rattle.pc_coord.specs.Coordination.{Coordination, HasSentWave, awaits_number, next_of, request_next}
use Rattle.pc_coord.specs.declared.next.Next.TheVariants as nexts
use Rattle.pc_coord.specs.Suiting.{Suits}
use Rattle.pc_history.specs.declared.pair.Pair.{Pair}
use Rattle.pc_proto.specs.declared.answer.Answer.{Answer}
use Rattle.pc_proto.specs.declared.call.Call.{Call}
use Rattle.pc_proto.specs.declared.event.Event.{Event}
use Rattle.pc_proto.specs.declared.event.Event.TheVariants as events
use Rattle.pc_proto.specs.declared.reply.Reply.{Reply}
use Rattle.pc_proto.specs.declared.reply.Reply.TheVariants as replies
use Rattle.pc_proto.specs.declared.request.Request.{Request}
use Rattle.pc_proto.specs.declared.request.Request.TheVariants as requests
use Rattle.pc_proto.specs.declared.view.View.TheVariants as views
use Rattle.pc_wave.specs.Shown.{ShowsSentStage}
use Rattle.pc_wave.specs.Standing.{IsPastWhereUndecided}
use Rattle.pc_world.specs.Answering.{MayAnswer}
use Rattle.pc_world.specs.Known.{Known, next_number, open_txn}
use Rattle.pc_world.specs.Known.Traffic.{request_sent}
use Rattle.pc_world.specs.Known.Transactions.{Txn}
use Rattle.pc_world.specs.Local.{is_outside, is_round}
use Rattle.pc_world.specs.StageFate.{IsUncommitted}

-- The entry is this event, and names none.
pub record IsOf (event : Event) (p : Pair Event) : Type 0 where
  pub says : p.entry.event ≡ event
  pub names : p.named ≡ None

-- The call is asked where none is open, and begin and learn where no transaction is; it suits the open transaction, and what the
-- last one left was handed out.
pub record IsAsked (c : Coordination) (call : Call) (reading : ℕ) (k : Known) (p : Pair Event) : Type 0 where
  pub is : IsOf (events.Ask call reading) p
  pub none_open : k.statement ≡ None
  pub outside : is_outside call ≡ true → k.is_open ≡ false
  pub no_round : is_round call ≡ false
  pub suits : Suits c.pipelining call c.txn
  pub handed : c.job ≡ None

-- The request that was due, at once or for later, went out under the session's next number.
pub record SendsDue (c : Coordination) (number range : ℕ) (request : Request) (k : Known) (p : Pair Event) : Type 0 where
  pub due : request_next (next_of c) ≡ Some request
  pub is : IsOf (events.Send number range request) p
  pub next : number ≡ next_number k

-- The record is there, and was not committed.
abbrev pub ShowsUncommitted : Reply → Type 0
ShowsUncommitted (replies.Status (views.Pending epoch ts)) = ⊤
ShowsUncommitted (replies.Status (views.Staging epoch ts writes)) = ⊤
ShowsUncommitted (replies.Status (views.Aborted epoch why locks)) = ⊤
ShowsUncommitted _ = ⊥

-- If the request is a heartbeat of the open transaction, none of whose stages and commits may have committed it, the record that the reply shows was
-- not committed.
abbrev pub IsAnsweredAlive : Known → Request → Reply → Type 0
IsAnsweredAlive k (requests.Beat meta ts now) reply = (t : Txn) → open_txn k ≡ Some t → meta.id ≡ t.id → IsUncommitted t.id k.sent k.heard → ShowsUncommitted reply
IsAnsweredAlive k _ reply = ⊤

-- The reply that was waited for was heard, once all messages of the wave were sent, but for what was lost since, and in the order of their numbers: the entry names an evaluation that answered so, as the message
-- may be answered, by no record in a later epoch than the session has reached, by none that stages as no stage of the session does, and to a heartbeat by
-- no commit; the reply to a heartbeat was evaluated after all that was heard before; and a write that was missed before is above that.
pub record HearsAwaited (c : Coordination) (number step : ℕ) (reply : Reply) (k : Known) (p : Pair Event) : Type 0 where
  pub waited : awaits_number number c.due ≡ true
  pub whole : HasSentWave c.due
  pub event : p.entry.event ≡ events.Hear number step
  pub evaluation : Entry Event
  pub actor : ActorId
  pub asked : ℕ
  pub named : p.named ≡ Some evaluation
  pub told : evaluation.event ≡ events.Eval actor asked reply
  pub kind : (request : Request) → request_sent number k.sent ≡ Some request → MayAnswer request reply
  pub past : (request : Request) → request_sent number k.sent ≡ Some request → (t : Txn) → Contains k.txns t → IsPastWhereUndecided t request reply
  pub alive : (request : Request) → request_sent number k.sent ≡ Some request → IsAnsweredAlive k request reply
  pub shown : (request : Request) → request_sent number k.sent ≡ Some request → (t : Txn) → Contains k.txns t → ShowsSentStage k t.id (record { number = number; request = request; reply = reply; step = step })
  pub turn : (other : ℕ) → awaits_number other c.due ≡ true → number ≤ other
  pub after : (request : Request) → request_sent number k.sent ≡ Some request → IsAfterAllHeard k.heard (record { number = number; request = request; reply = reply; step = step })
  pub missed : (request : Request) → request_sent number k.sent ≡ Some request → IsAboveMisses k.heard request reply

-- The answer that was due was told.
pub record IsTold (c : Coordination) (answer : Answer) (p : Pair Event) : Type 0 where
  pub due : next_of c ≡ nexts.Tell answer
  pub is : IsOf (events.Tell answer) p
