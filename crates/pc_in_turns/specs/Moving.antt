-- Sessions and recoverers that move one after another: the order of the entries that they have made so far, and how it grows. Own profile.
use Rattle.std.specs.Prelude.{◌≡◌, ◌≢◌, ℕ, ◌+◌, ◌<◌, ◌≤◌, Bool, false, Some, List, [], ◌∷◌, ◌++◌, length, slice_get, slice_set, Contains}
use Rattle.pc_base.specs.declared.actor.ActorId.{ActorId}
use Rattle.pc_history.specs.declared.pair.Pair.{Pair}
use Rattle.pc_history.specs.declared.view.Known.{Known as KnownEntry}
use Rattle.pc_history.specs.Parts.{told, told_entries}
use Rattle.pc_in_turns.specs.declared.task.Task.{Task}
use Rattle.pc_in_turns.specs.declared.task.Task.TheVariants as tasks
use Rattle.pc_in_turns.specs.Learning.{LearnsBehind}
use Rattle.pc_in_turns.specs.Task.{EndsWithTask}
use Rattle.pc_proto.specs.declared.event.Event.{Event}
use Rattle.pc_runs.specs.Learning.{LearnInOrder}
use Rattle.pc_rounds.specs.Counted.{CountedMeaning, GoesInRounds, HasMadeNext}
use Rattle.pc_runs.specs.Order.{ended_in_work, is_work_opened, next_in_work, recoverer_ended_in_work, rounds_in_work}
use Rattle.pc_runs.specs.Recoverers.{AreRecoverers, HasNoRoundLeft}
use Rattle.pc_runs.specs.Runners.{AreRunners, head_in_work}
use Rattle.pc_runs.specs.Together.{ClientsMeaning, ClientsSayHeldUp, HaveClientClocks, client_lists}
use Rattle.pc_scripted.specs.Scripted.{IsScripted, ScriptedMeaning, own_list}
use Rattle.pc_scripted.specs.Taking.{HasMoved, IsRunOut, Move, are_items_over}
use Rattle.pc_turns.specs.Order.{AreTakenIn, GoToEnds, GoesByItself, IsTakenIn, MakeRoundsLeft, entries_by, is_at_end}
use Rattle.pc_turns.specs.Shares.{AreShares}
use Rattle.pc_work.specs.declared.session.SessionWork.{SessionWork}
use Rattle.pc_work.specs.declared.turn.Turn.{Turn}
use Rattle.pc_work.specs.declared.turn.Turn.TheVariants as turns
use Rattle.pc_work.specs.declared.workload.Workload.{Workload}
use Rattle.pc_world.specs.Known.Traffic.{Sent}

-- What may be said of a part of the clients' entries, behind others, where a test says which messages of whom are held up.
abbrev pub Stretch : Type 1
Stretch = (ActorId → Sent → Bool) → List (Pair Event) → List (Pair Event) → Type 0

module _ (work : Workload) where
  -- The part is what the session of this index makes of its task.
  abbrev pub IsTask : Task → ℕ → Stretch
  IsTask (tasks.Open items) index held before part =
      (session : SessionWork) → slice_get work.sessions index ≡ Some session
      → GoesByItself (next_in_work work) (ended_in_work work held) (index + 1) (λ order. are_items_over items work.reruns session.script (entries_by (index + 1) order)) before part
  IsTask tasks.Call index held before part = IsTakenIn (next_in_work work) (ended_in_work work held) (recoverer_ended_in_work work held) (rounds_in_work work) (turns.Session (index + 1)) before part
  IsTask tasks.Job index held before part = IsTakenIn (next_in_work work) (ended_in_work work held) (recoverer_ended_in_work work held) (rounds_in_work work) (turns.Job (index + 1)) before part
  IsTask tasks.Rest index held before part = GoesByItself (next_in_work work) (ended_in_work work held) (index + 1) (is_at_end (next_in_work work) (index + 1)) before part

  -- The part is the workload's opening.
  abbrev pub IsOpening : Stretch
  IsOpening held before part = GoesByItself (next_in_work work) (ended_in_work work held) 1 (is_work_opened work) before part

  -- The part is what this turn takes.
  abbrev pub TakesTurn : Turn → Stretch
  TakesTurn turn held before part = IsTakenIn (next_in_work work) (ended_in_work work held) (recoverer_ended_in_work work held) (rounds_in_work work) turn before part

  -- The part is what these turns take, one after another.
  abbrev pub TakeTurns : List Turn → Stretch
  TakeTurns stated held before part = AreTakenIn (next_in_work work) (ended_in_work work held) (recoverer_ended_in_work work held) (rounds_in_work work) stated before part

  -- The part is what is left to the first sessions, of this number, which go to their ends one after another.
  abbrev pub GoOut : ℕ → Stretch
  GoOut count held before part = GoToEnds (next_in_work work) (ended_in_work work held) 1 count before part

  -- The part is what is left to the first recoverers, of this number, which make the rounds that are left one after another.
  abbrev pub RecoverOut : ℕ → Stretch
  RecoverOut count held before part = MakeRoundsLeft (next_in_work work) (ended_in_work work held) (recoverer_ended_in_work work held) (rounds_in_work work) 1 count before part

-- The sessions and recoverers of a workload, and the index, among all of them in order, of the one that made the last entry.
pub record TurnsMeaning (C : Type 0) : Type 0 where
  pub work : Workload
  pub sessions : List (ScriptedMeaning C)
  pub recoverers : List (CountedMeaning C)
  pub last : ℕ

-- The sessions and the recoverers together.
abbrev pub clients_in : {C : Type 0} → TurnsMeaning C → ClientsMeaning C
clients_in t = record { sessions = t.sessions; recoverers = t.recoverers }

-- Their own lists, in order.
abbrev pub lists_in_turns : {C : Type 0} → TurnsMeaning C → List (List (Pair Event))
lists_in_turns t = client_lists (clients_in t)

-- These are the workload's sessions, of which there is one, and its recoverers; and the one that made the last entry is there.
pub record AreClientsInTurns {C : Type 0} (t : TurnsMeaning C) : Type 0 where
  pub some : 1 ≤ length t.work.sessions
  pub runners : AreRunners t.work t.sessions
  pub recoverers : AreRecoverers t.work t.recoverers
  pub there : t.last < length t.sessions + length t.recoverers

-- The client of this index, whose own list is among these, made the last of these entries, if there is one.
abbrev pub MadeLast : List (List (Pair Event)) → ℕ → List (Pair Event) → Type 0
MadeLast lists last order =
    (front : List (Pair Event)) (p : Pair Event) (list : List (Pair Event)) → order ≡ front ++ p ∷ [] → slice_get lists last ≡ Some list
    → (mine : List (Pair Event)) × (list ≡ mine ++ p ∷ [])

-- The clients have made these entries, in this order: their own lists are their shares of them, and they learn of commits in order.
pub record HaveMade {C : Type 0} (t : TurnsMeaning C) (order : List (Pair Event)) : Type 0 where
  pub shares : AreShares (head_in_work t.work) (lists_in_turns t) order
  pub learns : LearnInOrder order
  pub made : MadeLast (lists_in_turns t) t.last order

-- The clients went on, and forgot nothing: behind the entries that they had made they made a part of which this is so, whichever messages
-- are held up beside those that they know to be refused.
pub record HaveGoneOn {C : Type 0} (rule : C → ℕ → ℕ → Bool) (Is : Stretch) (old new : TurnsMeaning C) : Type 0 where
  pub in_turns : AreClientsInTurns new
  pub work : new.work ≡ old.work
  pub knows : (held : ActorId → Sent → Bool) → ClientsSayHeldUp held (clients_in new) → ClientsSayHeldUp held (clients_in old)
  pub clocks : (rules : ActorId → ℕ → ℕ → Bool) → HaveClientClocks rule rules old.work (clients_in old) → HaveClientClocks rule rules old.work (clients_in new)
  pub goes :
      (order : List (Pair Event)) → HaveMade old order
      → (part : List (Pair Event)) × HaveMade new (order ++ part) × ((held : ActorId → Sent → Bool) → ClientsSayHeldUp held (clients_in new) → Is held order part)

-- No session but that of this index has changed, and it has done its task.
pub record HaveMovedAt {C : Type 0} (index : ℕ) (task : Task) (old new : List (ScriptedMeaning C)) : Type 0 where
  pub others : (other : ℕ) → other ≢ index → slice_get new other ≡ slice_get old other
  pub ends : (s : ScriptedMeaning C) → slice_get new index ≡ Some s → EndsWithTask task s

-- The sessions below this index have run out.
abbrev pub AreRunOutBelow : {C : Type 0} → ℕ → List (ScriptedMeaning C) → Type 0
AreRunOutBelow {C} index sessions = (other : ℕ) (s : ScriptedMeaning C) → other < index → slice_get sessions other ≡ Some s → IsRunOut s

-- A note of these entries tells of the last one of the client that made an entry last.
abbrev pub TellsLast : {C : Type 0} → TurnsMeaning C → List (KnownEntry Event) → Type 0
TellsLast t note =
    (list mine : List (Pair Event)) (p : Pair Event) → slice_get (lists_in_turns t) t.last ≡ Some list → list ≡ mine ++ p ∷ []
    → Contains (told_entries note) p.entry

-- The client that made an entry last has made none.
abbrev pub HasNoLast : {C : Type 0} → TurnsMeaning C → Type 0
HasNoLast t = (list : List (Pair Event)) → slice_get (lists_in_turns t) t.last ≡ Some list → list ≡ []

-- The session, once it was told of these entries.
abbrev pub told_of : {C : Type 0} → List (KnownEntry Event) → ScriptedMeaning C → ScriptedMeaning C
told_of ks s = record s { session = record s.session { desk = record s.session.desk { log = record s.session.desk.log { part = told ks s.session.desk.log.part } } } }

-- The session of this index was told of the last entry of the one that made an entry last; nothing else has changed.
pub record HasFollowed {C : Type 0} (index : ℕ) (old new : TurnsMeaning C) : Type 0 where
  pub session : ScriptedMeaning C
  pub at : slice_get old.sessions index ≡ Some session
  pub note : List (KnownEntry Event)
  pub scripted : IsScripted (told_of note session)
  pub whole : new ≡ record old { sessions = slice_set old.sessions index (told_of note session) }
  pub tells : TellsLast old note

-- The session of this index moved so, and learnt in order; no other has changed.
pub record HasActed {C : Type 0} (rule : C → ℕ → ℕ → Bool) (Is : ScriptedMeaning C → Move) (index : ℕ) (old new : TurnsMeaning C) : Type 0 where
  pub session : ScriptedMeaning C
  pub now : ScriptedMeaning C
  pub at : slice_get old.sessions index ≡ Some session
  pub whole : new ≡ record old { sessions = slice_set old.sessions index now }
  pub moved : HasMoved (Is session) session now
  pub kept : rule now.session.desk.log.clock ≡ rule session.session.desk.log.clock
  pub learns : LearnsBehind old.sessions session now

-- Of the session of this index this is so.
abbrev pub IsAt : {C : Type 0} → (ScriptedMeaning C → Type 0) → ℕ → TurnsMeaning C → Type 0
IsAt {C} Is index t = (s : ScriptedMeaning C) → slice_get t.sessions index ≡ Some s → Is s

-- The recoverer, once it was told of these entries.
abbrev pub taught_of : {C : Type 0} → List (KnownEntry Event) → CountedMeaning C → CountedMeaning C
taught_of ks r = record r { recoverer = record r.recoverer { desk = record r.recoverer.desk { log = record r.recoverer.desk.log { part = told ks r.recoverer.desk.log.part } } } }

-- The recoverer of this index was told of the last entry of the client that made an entry last; nothing else has changed.
pub record HasFollowedInRounds {C : Type 0} (index : ℕ) (old new : TurnsMeaning C) : Type 0 where
  pub recoverer : CountedMeaning C
  pub at : slice_get old.recoverers index ≡ Some recoverer
  pub note : List (KnownEntry Event)
  pub counted : GoesInRounds (taught_of note recoverer)
  pub whole : new ≡ record old { recoverers = slice_set old.recoverers index (taught_of note recoverer) }
  pub tells : TellsLast old note

-- The recoverer of this index made its next round, if one was left; no other client has changed.
pub record HasMadeRoundAt {C : Type 0} (rule : C → ℕ → ℕ → Bool) (index : ℕ) (old new : TurnsMeaning C) : Type 0 where
  pub recoverer : CountedMeaning C
  pub now : CountedMeaning C
  pub at : slice_get old.recoverers index ≡ Some recoverer
  pub whole : new ≡ record old { recoverers = slice_set old.recoverers index now }
  pub made : HasMadeNext recoverer now
  pub kept : rule now.recoverer.desk.log.clock ≡ rule recoverer.recoverer.desk.log.clock

-- No recoverer but that of this index has changed, nor any session; where that one goes on, and rounds are left to it, it made one.
pub record HaveRoundedAt {C : Type 0} (index : ℕ) (old new : TurnsMeaning C) : Type 0 where
  pub sessions : new.sessions ≡ old.sessions
  pub others : (other : ℕ) → other ≢ index → slice_get new.recoverers other ≡ slice_get old.recoverers other
  pub onward :
      (now : CountedMeaning C) → slice_get new.recoverers index ≡ Some now
      → (before : CountedMeaning C) × (slice_get old.recoverers index ≡ Some before) × (now.rounds ≡ before.rounds)
      × (now.recoverer.desk.log.stopped ≡ false → now.made < now.rounds → (before.recoverer.desk.log.stopped ≡ false) × (now.made ≡ before.made + 1))

-- The recoverer of this index has no round left.
abbrev pub HasNoneLeftAt : {C : Type 0} → ℕ → List (CountedMeaning C) → Type 0
HasNoneLeftAt {C} index recoverers = (r : CountedMeaning C) → slice_get recoverers index ≡ Some r → HasNoRoundLeft r
