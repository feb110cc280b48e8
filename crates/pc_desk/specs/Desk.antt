-- The messages of an actor on their way: each that it sent stands at one stage.
use Rattle.std.specs.Prelude.{◌≡◌, ℕ, ◌+◌, ◌-◌, ◌<◌, ◌≤◌, Bool, true, false, ◌&&◌, ◌||◌, ◌==◌, cond, not, ◌⊎◌, Option, None, Some, List, [], ◌∷◌, ◌++◌, length, count_by, slice_get, All, Contains, ⊤}
use Rattle.std.specs.List.{list_any}
use Rattle.pc_base.specs.declared.actor.ActorId.{ActorId}
use Rattle.pc_base.specs.declared.actor.ActorId.TheVariants as actors
use Rattle.pc_base.specs.Rising.{AreRising}
use Rattle.pc_desk.specs.declared.answered.Answered.{Answered}
use Rattle.pc_desk.specs.declared.halt.Halt.{Halt}
use Rattle.pc_desk.specs.declared.halt.Halt.TheVariants as halts
use Rattle.pc_desk.specs.Keeping.{KeepsNext}
use Rattle.pc_desk.specs.OwnLog.{HasEntered, IsOwnLog, LogMeaning}
use Rattle.pc_desk.specs.Waiting.{WaitInWave}
use Rattle.pc_history.specs.declared.view.Known.{Known as KnownEntry}
use Rattle.pc_history.specs.declared.view.Part.{Part}
use Rattle.pc_history.specs.declared.pair.Pair.{Pair}
use Rattle.pc_history.specs.Parts.{gave, named_by, told}
use Rattle.pc_proto.specs.declared.event.Event.{Event}
use Rattle.pc_proto.specs.declared.event.Event.TheVariants as events
use Rattle.pc_proto.specs.declared.reply.Reply.{Reply}
use Rattle.pc_proto.specs.declared.request.Request.{Request}
use Rattle.pc_proto.specs.Requests.{is_put}
use Rattle.pc_proto.specs.Stamps.{request_stamps}
use Rattle.pc_range.specs.Message.{IsFullNote, evaluation, sending}
use Rattle.pc_wire.specs.declared.verdict.Verdict.{Verdict}
use Rattle.pc_wire.specs.declared.verdict.Verdict.TheVariants as verdicts
use Rattle.pc_world.specs.Exchange.{IsAllowed}
use Rattle.pc_world.specs.Known.{Known, known_of}
use Rattle.pc_world.specs.Known.Traffic.{Sent, request_sent}
use Rattle.pc_world.specs.Local.{Head}
use Rattle.pc_world.specs.RangeOf.{GoesTo, IsForOne}
use Rattle.pc_world.specs.Run.{protocol}
use Rattle.pc_world.specs.Stamps.{AllBelowGreatest}

-- A message that was sent and not evaluated yet, with how often it may be evaluated.
pub record Posted : Type 0 where
  pub number : ℕ
  pub range : ℕ
  pub request : Request
  pub uses : ℕ

abbrev pub posting : ℕ → ℕ → Request → ℕ → Posted
posting number range request uses = record { number = number; range = range; request = request; uses = uses }

-- The actor's own list, how many messages it sent, those that wait to be evaluated, those that were set aside until a wave waits for them, and the
-- replies that wait to be heard; and how many entries a range may have.
pub record DeskMeaning (C : Type 0) : Type 0 where
  pub log : LogMeaning C
  pub sends : ℕ
  pub posted : List Posted
  pub later : List Posted
  pub replies : List Answered
  pub range_limit : ℕ

-- An actor that has sent nothing, with its new list.
abbrev pub new_desk : {C : Type 0} → Head → Part Event → ℕ → C → Bool → Bool → ℕ → Option ℕ → ℕ → DeskMeaning C
new_desk head part spare clock pipelining beside limit stop range_limit = record {
  log = record { head = head; part = part; spare = spare; clock = clock; pipelining = pipelining; beside = beside; limit = limit; stop = stop; stopped = false };
  sends = 0;
  posted = [];
  later = [];
  replies = [];
  range_limit = range_limit;
}

-- How often a message of this verdict may be evaluated.
abbrev pub uses_by : Verdict → ℕ
uses_by verdicts.Deliver = 1
uses_by verdicts.LoseRequest = 0
uses_by verdicts.LoseReply = 1
uses_by (verdicts.Repeat later) = 2
uses_by (verdicts.Hold later) = 1

-- How many of these messages have this number.
abbrev pub posted_as : ℕ → List Posted → ℕ
posted_as number posted = count_by (λ m. m.number == number) posted

-- How many of these replies are to the message of this number.
abbrev pub answered_as : ℕ → List Answered → ℕ
answered_as number replies = count_by (λ a. a.number == number) replies

-- How many replies to the message of this number were heard.
abbrev pub heard_as_number : ℕ → Known → ℕ
heard_as_number number k = count_by (λ h. h.number == number) k.heard

-- How many messages of this number were sent.
abbrev pub times_sent : ℕ → Known → ℕ
times_sent number k = count_by (λ m. m.number == number) k.sent

-- A message that waits: the number under which it stands, its own number, its sender, its verdict, and what contracts see of it.
pub record WaitingMessage : Type 0 where
  pub key : ℕ
  pub sender : ActorId
  pub verdict : Verdict
  pub posted : Posted

abbrev pub waiting_as : ℕ → ActorId → Verdict → Posted → WaitingMessage
waiting_as key sender verdict posted = record { key = key; sender = sender; verdict = verdict; posted = posted }

-- The message may go: it stands under its number, is delivered, and goes to a range that is there, which may evaluate it.
pub record IsReadyToGo (id : ActorId) (splits : List (List ℕ)) (w : WaitingMessage) : Type 0 where
  pub numbered : w.key ≡ w.posted.number
  pub whose : w.sender ≡ id
  pub delivered : w.verdict ≡ verdicts.Deliver
  pub there : w.posted.range ≤ length splits
  pub use_left : 1 ≤ w.posted.uses
  pub below : AllBelowGreatest (request_stamps w.posted.request)

-- The ranges are those of the actor's world, and each message that waits may go.
pub record IsDesk {C : Type 0} (splits : List (List ℕ)) (log : LogMeaning C) (waiting : List WaitingMessage) : Type 0 where
  pub same : splits ≡ log.head.splits
  pub rising : AreRising log.head.splits
  pub few : length log.head.splits ≤ 31
  pub ready : All (IsReadyToGo log.part.id log.head.splits) waiting

-- The reply is that of an evaluation which the actor knows, of a message that it sent.
pub record IsAnsweredBy {C : Type 0} (log : LogMeaning C) (a : Answered) : Type 0 where
  pub range : ℕ
  pub place : ℕ
  pub request : Request
  pub said : request_sent a.number (known_of log.part.own).sent ≡ Some request
  pub knows : Contains log.part.known (record { entry = evaluation a.step range log.part.id a.number a.reply; place = place; uses = 0 })

-- The actor counts the uses that it gave of each of its entries: of none more than one.
pub record GivesOnce (part : Part Event) : Type 0 where
  pub each : length part.given ≡ length part.own
  pub once : All (λ uses. uses ≤ 1) part.given

-- A message that waits, as it was sent.
abbrev pub as_sent : Posted → Sent
as_sent m = record { number = m.number; range = m.range; request = m.request }

-- What waits is one of the messages that were sent.
abbrev pub IsOneSent : List Sent → Posted → Type 0
IsOneSent sent m = Contains sent (as_sent m)

-- What was set aside is one of the messages that were sent, and puts a write.
pub record WasSetAside (sent : List Sent) (m : Posted) : Type 0 where
  pub one : IsOneSent sent m
  pub puts : is_put m.request ≡ true

-- The message is a stray: it was set aside, the actor knows an evaluation of it, and nobody hears its reply.
pub record IsStray {C : Type 0} (log : LogMeaning C) (m : Posted) : Type 0 where
  pub aside : WasSetAside (known_of log.part.own).sent m
  pub step : ℕ
  pub reply : Reply
  pub place : ℕ
  pub knows : Contains log.part.known (record { entry = evaluation step m.range log.part.id m.number reply; place = place; uses = 0 })

-- The replies are to messages of rising numbers.
abbrev pub AreInTurn : List Answered → Type 0
AreInTurn [] = Unit {0}
AreInTurn (a ∷ replies) = All (λ later. a.number < later.number) replies × AreInTurn replies

-- The replies wait in the order of their messages' numbers, which are below those of all messages that wait to be evaluated.
pub record WaitInTurn (replies : List Answered) (posted : List Posted) : Type 0 where
  pub rising : AreInTurn replies
  pub behind : All (λ m. All (λ a. a.number < m.number) replies) posted

-- Each message that the actor sent stands at one stage, and no other does at any: it waits to be evaluated, or was set aside, or its reply waits to be
-- heard, or that was heard, or it is a stray whose reply was dropped. What waits says what was sent, is in turn, and waits with its wave; and of no entry
-- more than one use was given.
pub record KeepsTrack {C : Type 0} (d : DeskMeaning C) : Type 0 where
  pub log : IsOwnLog d.log
  pub counted : d.sends ≡ length (known_of d.log.part.own).sent
  pub numbers : All (λ m. m.number ≤ length (known_of d.log.part.own).sent) (known_of d.log.part.own).sent
  pub once : (number : ℕ) → times_sent number (known_of d.log.part.own) ≤ 1
  pub dropped : List Posted
  pub strays : All (IsStray d.log) dropped
  pub stages : (number : ℕ) → posted_as number d.posted + (posted_as number d.later + posted_as number dropped) + answered_as number d.replies + heard_as_number number (known_of d.log.part.own) ≡ times_sent number (known_of d.log.part.own)
  pub posted : All (λ m. request_sent m.number (known_of d.log.part.own).sent ≡ Some m.request) d.posted
  pub waits : All (IsOneSent (known_of d.log.part.own).sent) d.posted
  pub aside : All (WasSetAside (known_of d.log.part.own).sent) d.later
  pub answered : All (IsAnsweredBy d.log) d.replies
  pub turn : WaitInTurn d.replies d.posted
  pub wave : WaitInWave d.log.beside d.log.part.own d.posted d.replies
  pub given : GivesOnce d.log.part

-- The message of the least number was taken from those that wait, and nothing else was done.
pub record HasTakenFirst {C : Type 0} (old new : DeskMeaning C) (m : Posted) : Type 0 where
  pub first : old.posted ≡ m ∷ new.posted
  pub rest : new ≡ record old { posted = new.posted }
  pub later : All (λ p. m.number < p.number) new.posted

-- The message was taken from those that wait, or from those that were set aside, and nothing else was done; those that wait then were sent later.
pub record HasTaken {C : Type 0} (old new : DeskMeaning C) (m : Posted) : Type 0 where
  pub there : Contains (old.posted ++ old.later) m
  pub others : (p : Posted) → Contains (old.posted ++ old.later) p → (m ≡ p) ⊎ Contains (new.posted ++ new.later) p
  pub left : (p : Posted) → Contains (new.posted ++ new.later) p → Contains (old.posted ++ old.later) p
  pub rest : new ≡ record old { posted = new.posted; later = new.later }
  pub later : All (λ p. m.number < p.number) new.posted

-- The message of this number is on its way: it waits to be evaluated, or its reply to be heard.
abbrev pub is_on_way : {C : Type 0} → ℕ → DeskMeaning C → Bool
is_on_way number d = list_any (λ m. m.number == number) d.posted || list_any (λ a. a.number == number) d.replies

-- The actor may send this now, which is for one range, and each entry that does keeps what is asked of it.
pub record MaySendNow {C : Type 0} (l : LogMeaning C) (request : Request) : Type 0 where
  pub allowed : IsAllowed l.head.splits l.part.id (known_of l.part.own) request
  pub one : IsForOne l.head.splits request
  pub keeps : (number range : ℕ) → KeepsNext l.part.id l.head.splits l.pipelining l.part.own (events.Send number range request) None

-- The actor may send this to this range now: it goes there, and the entry keeps what is asked of it.
pub record MaySendTo {C : Type 0} (l : LogMeaning C) (range : ℕ) (request : Request) : Type 0 where
  pub allowed : IsAllowed l.head.splits l.part.id (known_of l.part.own) request
  pub goes : GoesTo l.head.splits request range
  pub keeps : (number : ℕ) → KeepsNext l.part.id l.head.splits l.pipelining l.part.own (events.Send number range request) None

-- The actor sent this under its next number, to its range; its note, with one use, waits in the outbox.
pub record HasSentNext {C : Type 0} (old new : DeskMeaning C) (number : ℕ) (request : Request) : Type 0 where
  pub range : ℕ
  pub goes : GoesTo old.log.head.splits request range
  pub next : number ≡ old.sends + 1
  pub sent : LogMeaning C
  pub entered : HasEntered old.log sent (events.Send number range request)
  pub noted : new.log ≡ record sent { part = gave (length sent.part.own - 1) 1 sent.part }
  pub track : KeepsTrack new
  pub way : (other : ℕ) → is_on_way other new ≡ (number == other || is_on_way other old)
  pub replies : new.replies ≡ old.replies
  pub later : new.later ≡ old.later
  pub limit : new.range_limit ≡ old.range_limit

-- The actor sent this so, to this range.
pub record HasSentTo {C : Type 0} (old new : DeskMeaning C) (number range : ℕ) (request : Request) : Type 0 where
  pub sent : HasSentNext old new number request
  pub there : sent.range ≡ range

-- The actor's last entry sends this message.
pub record EndsWithSend {C : Type 0} (l : LogMeaning C) (number range : ℕ) (request : Request) : Type 0 where
  pub last : Pair Event
  pub step : ℕ
  pub some : 1 ≤ length l.part.own
  pub there : slice_get l.part.own (length l.part.own - 1) ≡ Some last
  pub is : last.entry ≡ sending step l.part.id number range request

-- The message waits in the outbox now, with one use of the entry in which it was sent, which is the actor's last.
pub record HasPosted {C : Type 0} (old new : DeskMeaning C) (number range : ℕ) (request : Request) : Type 0 where
  pub log : new.log ≡ record old.log { part = gave (length old.log.part.own - 1) 1 old.log.part }
  pub rest : new ≡ record old { log = new.log; posted = new.posted }
  pub counts : (n : ℕ) → posted_as n new.posted ≡ posted_as n old.posted + cond (number == n) 1 0
  pub all : (m : Posted) → Contains new.posted m → Contains old.posted m ⊎ (posting number range request 1 ≡ m)

-- The actor made this event, which sends and hears nothing, and did nothing else.
pub record HasDone {C : Type 0} (old new : DeskMeaning C) (event : Event) : Type 0 where
  pub entered : HasEntered old.log new.log event
  pub rest : new ≡ record old { log = new.log }
  pub track : KeepsTrack new

-- The actor knows this evaluation now, and its reply waits to be heard.
pub record HasKept {C : Type 0} (old new : DeskMeaning C) (a : Answered) (note : List (KnownEntry Event)) : Type 0 where
  pub kept : new ≡ record old { log = record old.log { part = told note old.log.part }; replies = old.replies ++ a ∷ [] }
  pub log : IsOwnLog new.log

-- What was posted was evaluated, and the actor made no entry; what it knew it knows still.
pub record HasDelivered {C : Type 0} (old new : DeskMeaning C) : Type 0 where
  pub own : new.log ≡ record old.log { part = record old.log.part { known = new.log.part.known } }
  pub sends : new.sends ≡ old.sends
  pub track : KeepsTrack new
  pub way : (number : ℕ) → is_on_way number new ≡ is_on_way number old
  pub later : new.later ≡ old.later
  pub more : (k : KnownEntry Event) → Contains old.log.part.known k → Contains new.log.part.known k
  pub limit : new.range_limit ≡ old.range_limit

-- The reply that has waited longest may be heard now as the actor's work has it.
pub record MayHearNow {C : Type 0} (d : DeskMeaning C) : Type 0 where
  pub each :
      (a : Answered) (rest : List Answered) (range : ℕ) → d.replies ≡ a ∷ rest
      → KeepsNext d.log.part.id d.log.head.splits d.log.pipelining d.log.part.own (events.Hear a.number a.step) (Some (evaluation a.step range d.log.part.id a.number a.reply))

-- The reply that had waited longest was heard.
pub record HasHeardFirst {C : Type 0} (old new : DeskMeaning C) (a : Answered) : Type 0 where
  pub range : ℕ
  pub first : old.replies ≡ a ∷ new.replies
  pub posted : new.posted ≡ old.posted
  pub entered : HasEntered old.log new.log (events.Hear a.number a.step)
  pub named : named_by (protocol old.log.head) old.log.part (events.Hear a.number a.step) ≡ Some (evaluation a.step range old.log.part.id a.number a.reply)
  pub track : KeepsTrack new
  pub way : (number : ℕ) → is_on_way number new ≡ (is_on_way number old && not (a.number == number))
  pub later : new.later ≡ old.later
  pub limit : new.range_limit ≡ old.range_limit

-- The actor knows an entry of the range, which has at least so many entries up to it.
pub record KnowsFull (range limit : ℕ) (known : List (KnownEntry Event)) : Type 0 where
  pub entry : KnownEntry Event
  pub knows : Contains known entry
  pub full : IsFullNote range limit (entry ∷ [])

-- Why the actor made no more entries: it had stopped, or its list reached the entry at which it stops; its own list or a range's has as many
-- entries as it may have; or memory was wanted.
abbrev pub IsCause : {C : Type 0} → DeskMeaning C → DeskMeaning C → Halt → Type 0
IsCause old new halts.Stopped = (old.log.stopped ≡ true) ⊎ (new.log.stop ≡ Some (length new.log.part.own))
IsCause old new (halts.Full actor) =
    ((actor ≡ new.log.part.id) × (length new.log.part.own ≡ new.log.limit))
    ⊎ ((range : ℕ) × (actor ≡ actors.Range range) × KnowsFull range new.range_limit new.log.part.known)
IsCause old new halts.NoMemory = ⊤

-- The actor makes no more entries, for this cause. It is who it was.
pub record HasHalted {C : Type 0} (old new : DeskMeaning C) (halt : Halt) : Type 0 where
  pub stopped : new.log.stopped ≡ true
  pub head : new.log.head ≡ old.log.head
  pub id : new.log.part.id ≡ old.log.part.id
  pub cause : IsCause old new halt
