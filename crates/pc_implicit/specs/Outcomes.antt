-- The outcomes of the transactions of one history are true: what is aborted, or was told to be over, is committed nowhere in it; a call that
-- gave up left its transaction uncommitted; and each abort has the cause that it names. Own profile.
use Rattle.std.specs.Prelude.{◌≡◌, ℕ, Some, List, [], ◌∷◌, ◌++◌}
use Rattle.pc_base.specs.declared.entry.Entry.{Entry}
use Rattle.pc_base.specs.declared.transaction.TxnId.{TxnId}
use Rattle.pc_implicit.specs.Causes.{HasItsCause}
use Rattle.pc_implicit.specs.Decided.{decision}
use Rattle.pc_implicit.specs.Ends.{SaysGivenUp, SaysOver, TellsOpen}
use Rattle.pc_implicit.specs.Writes.{home_of}
use Rattle.pc_proto.specs.declared.answer.Answer.{Answer}
use Rattle.pc_proto.specs.declared.answer.Answer.TheVariants as answers
use Rattle.pc_proto.specs.declared.event.Event.{Event}
use Rattle.pc_proto.specs.declared.record.Standing.TheVariants as standings
use Rattle.pc_proto.specs.declared.why.Why.{Why}
use Rattle.pc_proto.specs.RecordRows.Reached.{status_of}
use Rattle.pc_world.specs.Committed.{IsCommitted}
use Rattle.pc_world.specs.Local.{Head}
use Rattle.pc_world.specs.Run.{IsRun}

-- The transaction's record or mark says that it is aborted for this cause.
pub record IsAbortedFor (head : Head) (history : List (Entry Event)) (id : TxnId) (why : Why) : Type 0 where
  pub epoch : ℕ
  pub ts : ℕ
  pub says : decision (home_of head id history) ≡ Some (status_of (standings.Aborted why) epoch ts)

-- The transaction is committed in no beginning of the history.
abbrev pub NeverCommits : Head → List (Entry Event) → TxnId → Type 0
NeverCommits head history id = (front back : List (Entry Event)) (ts : ℕ) → history ≡ front ++ back → IsCommitted head front id ts → ⊥

-- The answer says that the transaction was aborted for this cause.
abbrev pub SaysAborted : Why → Answer → Type 0
SaysAborted why (answers.Aborted cause) = cause ≡ why
SaysAborted why _ = ⊥

-- The outcomes are true.
pub record HasTrueOutcomes (head : Head) (history : List (Entry Event)) : Type 0 where
  -- What is aborted commits nowhere, and was aborted for the cause that it names.
  pub aborted : (id : TxnId) (why : Why) → IsAbortedFor head history id why → NeverCommits head history id
  pub caused : (id : TxnId) (why : Why) → IsAbortedFor head history id why → HasItsCause head history id why
  -- A session is told that its transaction was aborted only where it was, for that cause.
  pub told : (before : List (Entry Event)) (e : Entry Event) (later : List (Entry Event)) (id : TxnId) (why : Why)
      → history ≡ before ++ e ∷ later → TellsOpen head before id (SaysAborted why) e → IsAbortedFor head before id why
  -- What was told to be over commits nowhere.
  pub ended : (before : List (Entry Event)) (e : Entry Event) (later : List (Entry Event)) (id : TxnId)
      → history ≡ before ++ e ∷ later → TellsOpen head before id SaysOver e → NeverCommits head history id
  -- A call that gave up left its transaction uncommitted.
  pub given_up : (before : List (Entry Event)) (e : Entry Event) (later : List (Entry Event)) (id : TxnId) (ts : ℕ)
      → history ≡ before ++ e ∷ later → TellsOpen head before id SaysGivenUp e → IsCommitted head (before ++ e ∷ []) id ts → ⊥

-- Outcomes are true in every run.
abbrev pub OutcomesAreTrue : Type 0
OutcomesAreTrue = (head : Head) (history : List (Entry Event)) → IsRun head history → HasTrueOutcomes head history
