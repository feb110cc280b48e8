-- What never commits: a transaction of which a record or mark says that it is aborted, or of which its session was told that it is
-- over. And what is not committed yet: a transaction whose session is told that its call gave up. RFC 20180324; own profile.
use Rattle.std.specs.Prelude.{◌≡◌, ℕ, Some, List, [], ◌∷◌, ◌++◌, ⊤}
use Rattle.pc_base.specs.declared.entry.Entry.{Entry}
use Rattle.pc_base.specs.declared.transaction.TxnId.{TxnId}
use Rattle.pc_implicit.specs.Decided.{decision}
use Rattle.pc_proto.specs.declared.answer.Answer.{Answer}
use Rattle.pc_proto.specs.declared.answer.Answer.TheVariants as answers
use Rattle.pc_proto.specs.declared.event.Event.{Event}
use Rattle.pc_proto.specs.declared.event.Event.TheVariants as events
use Rattle.pc_proto.specs.declared.record.Standing.TheVariants as standings
use Rattle.pc_proto.specs.declared.why.Why.{Why}
use Rattle.pc_proto.specs.RecordRows.Reached.{status_of}
use Rattle.pc_world.specs.After.{known_at, place_at}
use Rattle.pc_world.specs.Committed.{IsCommitted}
use Rattle.pc_world.specs.Known.{open_txn}
use Rattle.pc_world.specs.Known.Transactions.{Txn}
use Rattle.pc_world.specs.Local.{Head}
use Rattle.pc_world.specs.Run.{IsRun}

-- The answer says that the transaction is over, and not committed.
abbrev pub SaysOver : Answer → Type 0
SaysOver (answers.Aborted why) = ⊤
SaysOver (answers.RolledBack id why) = ⊤
SaysOver _ = ⊥

-- The answer gives a call up, and leaves the transaction open.
abbrev pub SaysGivenUp : Answer → Type 0
SaysGivenUp (answers.Restart key ts) = ⊤
SaysGivenUp (answers.Blocked holder) = ⊤
SaysGivenUp (answers.Moved ts) = ⊤
SaysGivenUp (answers.Unavailable faults) = ⊤
SaysGivenUp _ = ⊥

-- After this history the entry tells such an answer to a call of the transaction, which is open.
pub record TellsOpen (head : Head) (before : List (Entry Event)) (id : TxnId) (Says : Answer → Type 0) (e : Entry Event) : Type 0 where
  pub answer : Answer
  pub tells : e.event ≡ events.Tell answer
  pub says : Says answer
  pub t : Txn
  pub opened : open_txn (known_at head e.actor before) ≡ Some t
  pub named : t.id ≡ id

-- Aborted never commits: where a record or mark says that the transaction is aborted, it is committed in no beginning of the history.
abbrev pub AbortedNeverCommits : Type 0
AbortedNeverCommits =
    (head : Head) (range : ℕ) (front back : List (Entry Event)) (id : TxnId) (epoch ts : ℕ) (why : Why) (at : ℕ)
    → IsRun head (front ++ back) → decision (place_at head range id (front ++ back)) ≡ Some (status_of (standings.Aborted why) epoch ts)
    → IsCommitted head front id at → ⊥

-- Ended never commits: where a session is told that its transaction is over, the transaction is committed in no beginning of the history,
-- however long it goes on.
abbrev pub EndedNeverCommits : Type 0
EndedNeverCommits =
    (head : Head) (before : List (Entry Event)) (e : Entry Event) (later : List (Entry Event)) (id : TxnId) (front back : List (Entry Event)) (at : ℕ)
    → IsRun head (before ++ e ∷ later) → TellsOpen head before id SaysOver e → before ++ e ∷ later ≡ front ++ back
    → IsCommitted head front id at → ⊥

-- Given up is not committed: where a session is told that a call gave up, its transaction is not committed then.
abbrev pub GivenUpIsUncommitted : Type 0
GivenUpIsUncommitted =
    (head : Head) (before : List (Entry Event)) (e : Entry Event) (later : List (Entry Event)) (id : TxnId) (at : ℕ)
    → IsRun head (before ++ e ∷ later) → TellsOpen head before id SaysGivenUp e
    → IsCommitted head (before ++ e ∷ []) id at → ⊥
