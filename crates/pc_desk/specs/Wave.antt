-- A wave whose messages are evaluated beside each other: they are taken from the outbox together, and then what became of each is taken in.
use Rattle.std.specs.Prelude.{◌≡◌, ℕ, ◌<◌, ◌≤◌, ◌⊎◌, true, List, [], ◌∷◌, ◌++◌, length, map, All, Contains, Result, Ok, Err, ⊤}
use Rattle.pc_base.specs.declared.actor.ActorId.TheVariants as actors
use Rattle.pc_desk.specs.declared.answered.Answered.{Answered}
use Rattle.pc_desk.specs.declared.halt.Halt.{Halt}
use Rattle.pc_desk.specs.declared.halt.Halt.TheVariants as halts
use Rattle.pc_desk.specs.Desk.{DeskMeaning, HasHalted, Posted, posting}
use Rattle.pc_desk.specs.OwnLog.{IsOwnLog}
use Rattle.pc_desk.specs.Waiting.{IsBehindAll}
use Rattle.pc_history.specs.declared.named.Named.{Ghosts}
use Rattle.pc_history.specs.declared.view.Known.{Known as KnownEntry}
use Rattle.pc_history.specs.declared.view.Part.{Part}
use Rattle.pc_history.specs.Parts.{uses_left, with_uses}
use Rattle.pc_proto.specs.declared.event.Event.{Event}
use Rattle.pc_proto.specs.Stamps.{request_stamps}
use Rattle.pc_range.specs.declared.commit_world.CommitWorld.{CommitWorld}
use Rattle.pc_range.specs.declared.message.Message.{Message}
use Rattle.pc_range.specs.declared.message.ReplyMsg.{ReplyMsg}
use Rattle.pc_range.specs.declared.message.ServeFault.{ServeFault}
use Rattle.pc_range.specs.declared.message.ServeFault.TheVariants as faults
use Rattle.pc_serving.specs.declared.delivery.Delivery.{Delivery}
use Rattle.pc_serving.specs.Delivery.{MayBeServed}
use Rattle.pc_world.specs.Stamps.{AllBelowGreatest}

-- The message, as it waited.
abbrev pub posted_of : {N : Type 0} {G : Ghosts N CommitWorld} → Message N G → Posted
posted_of m = posting m.number m.range m.request (uses_left m.note.known)

-- The messages of a wave, as they waited.
abbrev pub posted_in : {N : Type 0} {G : Ghosts N CommitWorld} → List (Delivery N G) → List Posted
posted_in wave = map (λ d. posted_of d.message) wave

-- Of these messages each has a smaller number than those behind it.
abbrev pub AreRisingMessages : List Posted → Type 0
AreRisingMessages [] = Unit {0}
AreRisingMessages (m ∷ posted) = All (λ later. m.number < later.number) posted × AreRisingMessages posted

-- The actor's message may go to its range, which is there and may evaluate it.
pub record MayGo {C N : Type 0} {G : Ghosts N CommitWorld} (desk : DeskMeaning C) (m : Message N G) : Type 0 where
  pub whose : m.sender ≡ desk.log.part.id
  pub there : m.range ≤ length desk.log.head.splits
  pub use_left : 1 ≤ uses_left m.note.known
  pub below : AllBelowGreatest (request_stamps m.request)

-- The actor's message goes to its range, to be evaluated behind all that the actor made.
pub record GoesOut {C N : Type 0} {G : Ghosts N CommitWorld} (desk : DeskMeaning C) (d : Delivery N G) : Type 0 where
  pub whose : d.message.sender ≡ desk.log.part.id
  pub may : MayBeServed desk.log.head.splits d
  pub behind : IsBehindAll desk.log.part.own d.last.known

-- The first of the messages that waited were taken, in the order of their numbers, and nothing else was done.
pub record HasTakenWave {C N : Type 0} {G : Ghosts N CommitWorld} (old new : DeskMeaning C) (wave : List (Delivery N G)) : Type 0 where
  pub whole : old.posted ≡ posted_in wave ++ new.posted
  pub rest : new ≡ record old { posted = new.posted }
  pub rising : AreRisingMessages (posted_in wave)
  pub later : All (λ m. All (λ p. m.number < p.number) new.posted) (posted_in wave)
  pub each : All (GoesOut old) wave

-- The message stands behind the others of its wave, beside a copy of a note that tells this.
pub record HasJoined {N : Type 0} {G : Ghosts N CommitWorld} (old new : List (Delivery N G)) (message : Message N G) (note : List (KnownEntry Event)) : Type 0 where
  pub joined : Delivery N G
  pub behind : new ≡ old ++ joined ∷ []
  pub message_is : joined.message ≡ message
  pub note_is : joined.last.known ≡ with_uses 0 note

-- The outcome is a reply.
abbrev pub IsReply : {N : Type 0} {G : Ghosts N CommitWorld} → Result (ReplyMsg N) (ServeFault N G) → Type 0
IsReply (Ok reply) = ⊤
IsReply (Err fault) = ⊥

-- The reply, as it waits to be heard.
abbrev pub answered_by : {N : Type 0} → ReplyMsg N → Answered
answered_by r = record { number = r.number; step = r.step; reply = r.reply }

-- The replies among these outcomes.
abbrev pub answers_in : {N : Type 0} {G : Ghosts N CommitWorld} → List (Result (ReplyMsg N) (ServeFault N G)) → List Answered
answers_in [] = []
answers_in (Ok r ∷ outcomes) = answered_by r ∷ answers_in outcomes
answers_in (Err fault ∷ outcomes) = answers_in outcomes

-- The actor knows what the outcome tells: of the evaluation; or of the last entry of a full range, and of the message that this gave back, with its
-- use. Want of memory tells nothing that could be known.
abbrev pub KnowsOutcome : {N : Type 0} {G : Ghosts N CommitWorld} → Part Event → Result (ReplyMsg N) (ServeFault N G) → Type 0
KnowsOutcome part (Ok r) = (k : KnownEntry Event) → Contains r.note.known k → Contains part.known k
KnowsOutcome part (Err (faults.Full at last message)) = (k : KnownEntry Event) → Contains (last.known ++ message.note.known) k → Contains part.known k
KnowsOutcome part (Err faults.NoMemory) = ⊥

-- The actor knows what the outcome tells, and did nothing else; it forgot nothing.
pub record HasTakenIn {C N : Type 0} {G : Ghosts N CommitWorld} (old new : DeskMeaning C) (outcome : Result (ReplyMsg N) (ServeFault N G)) : Type 0 where
  pub rest : new ≡ record old { log = record old.log { part = record old.log.part { known = new.log.part.known } } }
  pub more : (k : KnownEntry Event) → Contains old.log.part.known k → Contains new.log.part.known k
  pub knows : KnowsOutcome new.log.part outcome

-- The actor knows what these outcomes tell, and forgot nothing.
pub record HasTakenAllIn {C N : Type 0} {G : Ghosts N CommitWorld} (old new : DeskMeaning C) (outcomes : List (Result (ReplyMsg N) (ServeFault N G))) : Type 0 where
  pub more : (k : KnownEntry Event) → Contains old.log.part.known k → Contains new.log.part.known k
  pub knows : All (KnowsOutcome new.log.part) outcomes

-- The outcomes, which are replies, are known, and wait to be heard in their order behind those that wait.
pub record HasKeptAll {C N : Type 0} {G : Ghosts N CommitWorld} (old new : DeskMeaning C) (outcomes : List (Result (ReplyMsg N) (ServeFault N G))) : Type 0 where
  pub rest : new ≡ record old { log = record old.log { part = record old.log.part { known = new.log.part.known } }; replies = old.replies ++ answers_in outcomes }
  pub learnt : HasTakenAllIn old new outcomes
  pub log : IsOwnLog new.log

-- The outcomes are known, and the list has stopped.
pub record HasStoppedFor {C N : Type 0} {G : Ghosts N CommitWorld} (old new : DeskMeaning C) (outcomes : List (Result (ReplyMsg N) (ServeFault N G))) : Type 0 where
  pub rest : new ≡ record old { log = record old.log { part = record old.log.part { known = new.log.part.known }; stopped = true } }
  pub learnt : HasTakenAllIn old new outcomes

-- The list ends so at this fault: for the range, which is full, or for want of memory.
abbrev pub IsHaltOf : {N : Type 0} {G : Ghosts N CommitWorld} → ServeFault N G → Halt → Type 0
IsHaltOf (faults.Full at last message) halt = halt ≡ halts.Full (actors.Range at)
IsHaltOf faults.NoMemory halt = halt ≡ halts.NoMemory

-- Why a wave is not heard: the first of these outcomes that is no reply is a fault at which the list ends so.
pub record IsRefusalIn {N : Type 0} {G : Ghosts N CommitWorld} (outcomes : List (Result (ReplyMsg N) (ServeFault N G))) (halt : Halt) : Type 0 where
  pub before : List (Result (ReplyMsg N) (ServeFault N G))
  pub fault : ServeFault N G
  pub behind : List (Result (ReplyMsg N) (ServeFault N G))
  pub whole : outcomes ≡ before ++ Err fault ∷ behind
  pub first : All IsReply before
  pub is : IsHaltOf fault halt

-- How a list ended for this cause: all outcomes are known; or memory was wanted.
abbrev pub EndsFor : {C N : Type 0} {G : Ghosts N CommitWorld} → DeskMeaning C → DeskMeaning C → List (Result (ReplyMsg N) (ServeFault N G)) → Halt → Halt → Type 0
EndsFor old new outcomes cause halt = ((halt ≡ halts.NoMemory) × HasHalted old new halts.NoMemory) ⊎ ((halt ≡ cause) × HasStoppedFor old new outcomes)
