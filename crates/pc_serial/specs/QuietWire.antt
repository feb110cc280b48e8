-- A quiet wire under one session. No message is lost and none is evaluated twice; and a message reaches its range while its transaction is open.
-- Nothing is said of when a reply is heard: a write may be told written while it is on its way, over as many calls as its transaction has, and a
-- commit may stage it there. So a session that pipelines its writes and commits in parallel has such a wire, as one has that waits for each reply.
use Rattle.std.specs.Prelude.{◌≡◌, ℕ, Bool, false, ◌&&◌, List, ◌∷◌, ◌++◌, All, Contains, IsTrue}
use Rattle.pc_base.specs.declared.actor.ActorId.{ActorId}
use Rattle.pc_base.specs.declared.actor.ActorId.TheVariants as actors
use Rattle.pc_base.specs.declared.entry.Entry.{Entry}
use Rattle.pc_proto.specs.declared.answer.Answer.{Answer}
use Rattle.pc_proto.specs.declared.event.Event.{Event}
use Rattle.pc_proto.specs.declared.event.Event.TheVariants as events
use Rattle.pc_serial.specs.Laws.{IsTalk, SaysLost}
use Rattle.pc_world.specs.After.{known_at}
use Rattle.pc_world.specs.Caused.{Evaluates}
use Rattle.pc_world.specs.Known.{Known}
use Rattle.pc_world.specs.Known.Statements.{is_open_after}
use Rattle.pc_world.specs.Local.{Head}
use Rattle.pc_world.specs.Tell.Refusal.{is_heard}

-- The one session.
abbrev pub the_session : ActorId
the_session = actors.Session 1

-- The session's message of this number was evaluated.
abbrev pub IsEvaluated : ℕ → List (Entry Event) → Type 0
IsEvaluated number history = (e : Entry Event) × Contains history e × Evaluates the_session number e.event

-- No message is evaluated a second time.
abbrev pub EvaluatesOnce : List (Entry Event) → Type 0
EvaluatesOnce history =
    (before between later : List (Entry Event)) (e other : Entry Event) (actor : ActorId) (number : ℕ)
    → history ≡ before ++ e ∷ (between ++ other ∷ later) → Evaluates actor number e.event → Evaluates actor number other.event → ⊥

-- A transaction is open before the event, and goes on to be.
abbrev pub stays_open : Known → Event → Bool
stays_open k event = k.is_open && is_open_after event k.is_open

-- Where the session asks a call or is told an answer, and not in the midst of a transaction, each message that it sent was evaluated. So when
-- a commit is acknowledged, or a rollback told, each write and each stage has reached its range; and when the next transaction begins, each
-- message has that finished the one before.
abbrev pub EvaluatesInTime : Head → List (Entry Event) → Type 0
EvaluatesInTime head history =
    (before : List (Entry Event)) (e : Entry Event) (later : List (Entry Event))
    → history ≡ before ++ e ∷ later → e.actor ≡ the_session → IsTalk e.event → stays_open (known_at head the_session before) e.event ≡ false
    → All (λ m. IsEvaluated m.number before) (known_at head the_session before).sent

-- No message is lost: before an answer that gives messages up as lost the reply to each is heard. So there is no such answer.
abbrev pub LosesNothing : Head → List (Entry Event) → Type 0
LosesNothing head history =
    (before : List (Entry Event)) (e : Entry Event) (later : List (Entry Event)) (answer : Answer)
    → history ≡ before ++ e ∷ later → e.actor ≡ the_session → e.event ≡ events.Tell answer → SaysLost answer
    → All (λ m. IsTrue (is_heard (known_at head the_session before).heard m)) (known_at head the_session before).sent

-- The session's wire is quiet.
pub record IsOnQuietWire (head : Head) (history : List (Entry Event)) : Type 0 where
  pub once : EvaluatesOnce history
  pub in_time : EvaluatesInTime head history
  pub none_lost : LosesNothing head history
