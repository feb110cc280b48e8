-- Plain answers: what a call is told where nobody stands in its way and no message is lost. One session alone, on a quiet wire, is told nothing
-- else, and its committed transactions run on the plain map in the order of their begins.
use Rattle.std.specs.Bool.{MatchBool}
use Rattle.std.specs.Prelude.{◌≡◌, ℕ, ◌&&◌, not, ◌⊎◌, Some, List, ◌∷◌, ◌++◌, Any, ⊤}
use Rattle.pc_base.specs.declared.entry.Entry.{Entry}
use Rattle.pc_base.specs.declared.transaction.TxnId.{TxnId}
use Rattle.pc_proto.specs.declared.answer.Answer.{Answer}
use Rattle.pc_proto.specs.declared.answer.Answer.TheVariants as answers
use Rattle.pc_proto.specs.declared.call.Call.{Call}
use Rattle.pc_proto.specs.declared.call.Call.TheVariants as calls
use Rattle.pc_proto.specs.declared.event.Event.{Event}
use Rattle.pc_proto.specs.declared.event.Event.TheVariants as events
use Rattle.pc_proto.specs.declared.why.Why.TheVariants as whys
use Rattle.pc_serial.specs.Alone.{IsAlone}
use Rattle.pc_serial.specs.Laws.{RunsInTurn}
use Rattle.pc_serial.specs.QuietWire.{the_session}
use Rattle.pc_world.specs.After.{known_at}
use Rattle.pc_world.specs.Committed.{IsCommitted}
use Rattle.pc_world.specs.Decisions.{TellsCommit}
use Rattle.pc_world.specs.Known.{Known, call_of, open_txn}
use Rattle.pc_world.specs.Known.Statements.{Statement}
use Rattle.pc_world.specs.Known.Transactions.{Txn}
use Rattle.pc_world.specs.Local.{Head}
use Rattle.pc_world.specs.MayTell.{is_past_range, needs_txn}
use Rattle.pc_world.specs.Run.{IsRun}

-- The answer is the plain one to the call: a value, rows, that it is written, committed, or rolled back as the client wished. A rollback may say
-- the last also as an abort, the one that it sent itself.
abbrev pub IsPlainTo : Call → Answer → Type 0
IsPlainTo (calls.Begin priority) (answers.Begun id ts) = ⊤
IsPlainTo (calls.Get key) (answers.Value value) = ⊤
IsPlainTo (calls.Scan span) (answers.Rows rows) = ⊤
IsPlainTo (calls.Put key value) answers.Written = ⊤
IsPlainTo (calls.Delete key) answers.Written = ⊤
IsPlainTo calls.Commit (answers.Committed id ts) = ⊤
IsPlainTo calls.Rollback (answers.RolledBack id why) = why ≡ whys.Client
IsPlainTo calls.Rollback (answers.Aborted why) = why ≡ whys.Client
IsPlainTo (calls.Learn id) answers.Learnt = ⊤
IsPlainTo (calls.Learn id) answers.NotYet = ⊤
IsPlainTo calls.Round answers.Done = ⊤
IsPlainTo _ _ = ⊥

-- A call that needs an open transaction and finds none is told just that, a begin past the clock's range just that, and any other call its
-- plain answer.
abbrev pub IsPlainAnswer : Known → Statement → Answer → Type 0
IsPlainAnswer k s answer =
    MatchBool (needs_txn s.call && not k.is_open) (answer ≡ answers.NoTxn)
    (MatchBool (is_past_range s) (answer ≡ answers.Clock s.reading) (IsPlainTo s.call answer))

-- The call that is open after these entries is told its plain answer.
pub record TellsPlainly (head : Head) (before : List (Entry Event)) (answer : Answer) : Type 0 where
  pub s : Statement
  pub opened : (known_at head the_session before).statement ≡ Some s
  pub plain : IsPlainAnswer (known_at head the_session before) s answer

-- The transaction is open in a commit.
pub record IsOpenInCommit (head : Head) (history : List (Entry Event)) (id : TxnId) : Type 0 where
  pub t : Txn
  pub opened : open_txn (known_at head the_session history) ≡ Some t
  pub whose : t.id ≡ id
  pub asked : call_of (known_at head the_session history) ≡ Some calls.Commit

-- The session is told plain answers alone; the committed transactions are those whose commit was told, but for one whose commit is still open;
-- and they run in turn.
pub record RunsPlainly (head : Head) (history : List (Entry Event)) : Type 0 where
  pub answered : (before : List (Entry Event)) (e : Entry Event) (later : List (Entry Event)) (answer : Answer)
      → history ≡ before ++ e ∷ later → e.event ≡ events.Tell answer → TellsPlainly head before answer
  pub committed : (id : TxnId) (ts : ℕ) → IsCommitted head history id ts → Any (λ e. TellsCommit id ts e.event) history ⊎ IsOpenInCommit head history id
  pub in_turn : RunsInTurn head history

-- One session alone runs plainly: it is never told that it is blocked, that it has to restart, that its commit was moved or is unknown, that
-- messages were lost, or that another aborted its transaction.
abbrev pub OneSessionRunsPlainly : Type 0
OneSessionRunsPlainly = (head : Head) (history : List (Entry Event)) → IsRun head history → IsAlone head history → RunsPlainly head history
