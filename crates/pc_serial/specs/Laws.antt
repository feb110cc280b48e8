-- Laws of runs: the commit order is that of the committed transactions, and in it they are one legal history.
use Rattle.std.specs.List.Sorted.{IsStrictlySortedBy}
use Rattle.std.specs.Prelude.{◌≡◌, ℕ, ◌<◌, All, List, [], ◌∷◌, ◌++◌, Contains, IsTrue, filter, is_some, map, ⊤}
use Rattle.pc_base.specs.declared.entry.Entry.{Entry}
use Rattle.pc_base.specs.declared.transaction.TxnId.{TxnId}
use Rattle.pc_base.specs.Transaction.{same_txn}
use Rattle.pc_proto.specs.declared.answer.Answer.{Answer}
use Rattle.pc_proto.specs.declared.answer.Answer.TheVariants as answers
use Rattle.pc_proto.specs.declared.event.Event.{Event}
use Rattle.pc_proto.specs.declared.event.Event.TheVariants as events
use Rattle.pc_world.specs.After.{known_at}
use Rattle.pc_world.specs.CommitOrder.{all_begun, commit_order, rank_cmp}
use Rattle.pc_world.specs.Committed.{IsCommitted, commit_point, commit_ts}
use Rattle.pc_world.specs.Decisions.{TellsCommit}
use Rattle.pc_world.specs.Legal.{IsLegal, StandsBefore, committed_in_order}
use Rattle.pc_world.specs.Local.{Head}
use Rattle.pc_world.specs.MapRun.{IsMapRun}
use Rattle.pc_world.specs.Operations.{operations_of}
use Rattle.pc_world.specs.Run.{IsRun}
use Rattle.pc_world.specs.Tell.Refusal.{is_heard}

-- The history of a run is legal.
abbrev pub HistoriesAreLegal : Type 0
HistoriesAreLegal = (head : Head) (history : List (Entry Event)) → IsRun head history → IsLegal head history

-- The transaction stands in the commit order just once, with this timestamp and its commit point.
abbrev pub StandsOnce : Head → List (Entry Event) → TxnId → ℕ → Type 0
StandsOnce head history id ts =
    filter (λ e. same_txn e.1 id) (commit_order head history)
    ≡ (record { ts = ts; point = commit_point head history id }, id) ∷ []

-- The commit order has the committed transactions and no others, each once, by timestamp and then by commit point.
pub record OrdersCommits (head : Head) (history : List (Entry Event)) : Type 0 where
  pub each : (id : TxnId) (ts : ℕ) → IsCommitted head history id ts → StandsOnce head history id ts
  pub others : All (λ e. IsCommitted head history e.1 e.0.ts) (commit_order head history)
  pub sorted : IsStrictlySortedBy rank_cmp (map (λ e. e.0) (commit_order head history))

-- The commit order of a run is that of its committed transactions.
abbrev pub CommitsAreOrdered : Type 0
CommitsAreOrdered = (head : Head) (history : List (Entry Event)) → IsRun head history → OrdersCommits head history

-- A transaction that was told committed stands in it once, with the timestamp that was told.
abbrev pub CommittedOnce : Type 0
CommittedOnce =
    (head : Head) (history : List (Entry Event)) (e : Entry Event) (id : TxnId) (ts : ℕ)
    → IsRun head history → Contains history e → TellsCommit id ts e.event
    → StandsOnce head history id ts

-- In turn: of two committed transactions of one session the one that was begun first stands first, unless the session was told that it is
-- not known whether that one committed.
abbrev pub SessionsGoInTurn : Type 0
SessionsGoInTurn =
    (head : Head) (history : List (Entry Event)) (one other : TxnId) (ts later : ℕ)
    → IsRun head history → one.session ≡ other.session → one.number < other.number
    → ((e : Entry Event) → Contains history e → e.event ≡ events.Tell (answers.Unknown one) → ⊥)
    → IsCommitted head history one ts → IsCommitted head history other later
    → StandsBefore one other (committed_in_order head history)

-- The committed transactions, in the order of their begins.
abbrev pub committed_as_begun : Head → List (Entry Event) → List TxnId
committed_as_begun head history = filter (λ id. is_some (commit_ts head history id)) (all_begun history)

-- The committed transactions stand in the order of their begins, and run so on the plain map, from the empty one on: each read gives what
-- the map has then.
pub record RunsInTurn (head : Head) (history : List (Entry Event)) : Type 0 where
  pub order : committed_in_order head history ≡ committed_as_begun head history
  pub plain : IsMapRun [] (map (operations_of history) (committed_as_begun head history))

-- One session alone runs in turn, where it was never told that a commit is unknown.
abbrev pub OneSessionRunsInTurn : Type 0
OneSessionRunsInTurn =
    (head : Head) (history : List (Entry Event))
    → IsRun head history → head.sessions ≡ 1
    → ((e : Entry Event) (id : TxnId) → Contains history e → e.event ≡ events.Tell (answers.Unknown id) → ⊥)
    → RunsInTurn head history

-- A session asks a call, or is told an answer.
abbrev pub IsTalk : Event → Type 0
IsTalk (events.Ask call reading) = ⊤
IsTalk (events.Tell answer) = ⊤
IsTalk _ = ⊥

-- Quiet: where a session asks or is told anything, it heard the reply to each message that it sent.
abbrev pub IsQuiet : Head → List (Entry Event) → Type 0
IsQuiet head history =
    (before : List (Entry Event)) (e : Entry Event) (later : List (Entry Event))
    → history ≡ before ++ e ∷ later → IsTalk e.event
    → All (λ m. IsTrue (is_heard (known_at head e.actor before).heard m)) (known_at head e.actor before).sent

-- The answer says that messages were lost.
abbrev pub SaysLost : Answer → Type 0
SaysLost (answers.Unavailable faults) = ⊤
SaysLost (answers.Unknown id) = ⊤
SaysLost _ = ⊥

-- One session alone, quiet: it is never told that messages were lost, so it knows of each commit, and its committed transactions run on the
-- plain map in the order of their begins.
abbrev pub OneQuietSession : Type 0
OneQuietSession =
    (head : Head) (history : List (Entry Event))
    → IsRun head history → head.sessions ≡ 1 → IsQuiet head history
    → RunsInTurn head history
    × ((e : Entry Event) (answer : Answer) → Contains history e → e.event ≡ events.Tell answer → SaysLost answer → ⊥)
