-- Laws of the one history that sessions on threads, or in turns, leave.
use Rattle.std.specs.Prelude.{◌≡◌, ℕ, ◌≤◌, ◌<◌, Bool, true, Option, Some, List, [], ◌∷◌, ◌++◌, All, Contains, slice_get, slice_index, slice_set}
use Rattle.pc_base.specs.declared.actor.ActorId.{ActorId}
use Rattle.pc_base.specs.declared.actor.ActorId.TheVariants.{Session}
use Rattle.pc_base.specs.declared.entry.Entry.{Entry}
use Rattle.pc_history.specs.Closed.{IsClosedPart}
use Rattle.pc_history.specs.declared.pair.Pair.{Pair}
use Rattle.pc_history.specs.declared.view.Known.{Known as KnownEntry}
use Rattle.pc_history.specs.declared.view.Part.{Part}
use Rattle.pc_history.specs.Parts.{uses_of}
use Rattle.pc_proto.specs.declared.call.Call.{Call}
use Rattle.pc_proto.specs.declared.event.Event.{Event}
use Rattle.pc_world.specs.Caused.{Evaluates}
use Rattle.pc_world.specs.Local.{Head}
use Rattle.pc_world.specs.Named.{is_send_of}
use Rattle.pc_world.specs.Run.{IsRun, protocol}
use Rattle.pc_turns.specs.Clients.{BeginsEach, IsAfterAll, IsStoredBy, MakesUpEach, RisesFrom, client_pairs}
use Rattle.pc_turns.specs.Once.{IsServed, evaluations_of}
use Rattle.pc_turns.specs.Order.{GoInTurns, GoOnThreads, GoesByItself, is_at_end}
use Rattle.pc_turns.specs.Shares.{AreHandedIn, AreShares, client_at}
use Rattle.pc_work.specs.declared.turn.Turn.{Turn}

-- Where each client stored just its share of entries whose steps rise, the history has the clients' entries in that order.
abbrev pub ClientsKeepOrder : Type 0
ClientsKeepOrder =
    (head : Head) (history : List (Entry Event)) (parts : List (Part Event)) (order : List (Pair Event))
    → IsStoredBy head history parts → MakesUpEach parts order → client_pairs head history ≡ order

-- What each client begins with, and goes on after all of, comes first in the history.
abbrev pub BeginningsComeFirst : Type 0
BeginningsComeFirst =
    (head : Head) (history : List (Entry Event)) (parts : List (Part Event)) (first : List (Pair Event))
    → IsStoredBy head history parts → BeginsEach parts first
    → (rest : List (Pair Event)) × (client_pairs head history ≡ first ++ rest)

-- A message is evaluated just once where one use was given of its sending, and its sender was told of an evaluation.
abbrev pub ServedIsEvaluatedOnce : Type 0
ServedIsEvaluatedOnce =
    (head : Head) (history : List (Entry Event)) (sender : ActorId) (number : ℕ)
    → IsRun head history → IsServed head history sender number → evaluations_of sender number history ≡ 1

-- The actor knows the last of these entries, if there is one: it took a mark of whoever made it.
abbrev pub HasMark : List (Pair Event) → List (Entry Event) → Type 0
HasMark order known = (front : List (Pair Event)) (last : Pair Event) → order ≡ front ++ last ∷ [] → Contains known last.entry

-- Each of these entries has a greater step than all that its actor knew before.
abbrev pub AreAboveKnown : List (Entry Event) → List (Pair Event) → Type 0
AreAboveKnown known part = All (λ p. All (λ e. e.step < p.entry.step) known) part

-- What an actor makes after it took a mark of the last of some entries whose steps rise comes after all of them.
abbrev pub MarksPutAfter : Type 0
MarksPutAfter =
    (order part : List (Pair Event)) (known : List (Entry Event))
    → RisesFrom 0 order → HasMark order known → AreAboveKnown known part → All (IsAfterAll order) part

-- Where each actor that moves took a mark of the last entry before it, the steps rise from turn to turn.
abbrev pub MarksKeepOrder : Type 0
MarksKeepOrder =
    (order part : List (Pair Event)) (known : List (Entry Event))
    → RisesFrom 0 order → RisesFrom 0 part → HasMark order known → AreAboveKnown known part → RisesFrom 0 (order ++ part)

-- One more turn: where the client of this index took the mark of the last entry and made these entries, all own lists are their clients'
-- shares still.
abbrev pub TurnsAddUp : Type 0
TurnsAddUp =
    (head : Head) (lists : List (List (Pair Event))) (order list part : List (Pair Event)) (known : List (Entry Event)) (index : ℕ)
    → AreShares head lists order → slice_get lists index ≡ Some list → All (λ p. p.entry.actor ≡ client_at head index) part
    → RisesFrom 0 part → HasMark order known → AreAboveKnown known part
    → AreShares head (slice_set lists index (list ++ part)) (order ++ part)

-- Own lists that are the clients' shares make up what the clients stored, once they were handed in.
abbrev pub SharesMakeUp : Type 0
SharesMakeUp =
    (head : Head) (lists : List (List (Pair Event))) (order : List (Pair Event)) (parts : List (Part Event))
    → AreShares head lists order → AreHandedIn head lists parts → MakesUpEach parts order

-- A message of an actor that was handed in is served, where it gave one use of its sending at most and was told of an evaluation.
abbrev pub ClosedIsServed : Type 0
ClosedIsServed =
    (head : Head) (history : List (Entry Event)) (part : Part Event) (place number : ℕ) (p : Pair Event) (k : KnownEntry Event)
    → IsClosedPart (protocol head) history part → slice_get part.own place ≡ Some p → is_send_of number p.entry.event ≡ true
    → slice_index part.given place ≤ 1 → Contains part.known k → Evaluates part.id number k.entry.event
    → IsServed head history part.id number

-- A message of an actor that was handed in is never evaluated, where the actor has all uses itself that it gave of its sending.
abbrev pub UnspentIsNeverEvaluated : Type 0
UnspentIsNeverEvaluated =
    (head : Head) (history : List (Entry Event)) (part : Part Event) (place number : ℕ) (p : Pair Event)
    → IsRun head history → IsClosedPart (protocol head) history part → slice_get part.own place ≡ Some p → is_send_of number p.entry.event ≡ true
    → slice_index part.given place ≤ uses_of p.entry.step part.known → evaluations_of part.id number history ≡ 0

-- Where the clients stored entries that go in stated turns, the history goes in those turns.
abbrev pub TurnsAreKept : Type 0
TurnsAreKept =
    (head : Head) (history : List (Entry Event)) (parts : List (Part Event)) (order : List (Pair Event))
    (next : ℕ → List (Pair Event) → Option Call) (ended recoverer_ended : ℕ → List (Pair Event) → Bool) (rounds : ℕ → ℕ) (opened : List (Pair Event) → Bool) (stated : List Turn)
    → IsStoredBy head history parts → MakesUpEach parts order → GoInTurns next ended recoverer_ended rounds opened stated head.sessions head.recoverers order
    → GoInTurns next ended recoverer_ended rounds opened stated head.sessions head.recoverers (client_pairs head history)

-- The session has a part, and its entries are those of a session that goes by itself to its end.
abbrev pub HasGoneAlone : (ℕ → List (Pair Event) → Option Call) → (ℕ → List (Pair Event) → Bool) → List (Part Event) → ℕ → Type 0
HasGoneAlone next ended parts number =
    (part : Part Event) × Contains parts part × (part.id ≡ Session number) × GoesByItself next ended number (is_at_end next number) [] part.own

-- Where all others took a mark of the opening's end, and each session went by itself to its end, the history goes so on threads.
abbrev pub ThreadsGoOn : Type 0
ThreadsGoOn =
    (head : Head) (history : List (Entry Event)) (parts : List (Part Event)) (opening : List (Pair Event))
    (next : ℕ → List (Pair Event) → Option Call) (ended : ℕ → List (Pair Event) → Bool) (opened : List (Pair Event) → Bool)
    → IsStoredBy head history parts → BeginsEach parts opening → GoesByItself next ended 1 opened [] opening
    → ((number : ℕ) → 1 ≤ number → number ≤ head.sessions → HasGoneAlone next ended parts number)
    → GoOnThreads next ended opened head.sessions (client_pairs head history)
