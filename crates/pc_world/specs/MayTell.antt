-- What an actor may tell, by what it knows.
use Rattle.std.specs.Prelude.{◌≡◌, ℕ, nat_lt, Bool, true, false, ◌&&◌, not, Some, List}
use Rattle.std.specs.Bool.{MatchBool}
use Rattle.std.specs.List.{list_any}
use Rattle.pc_base.specs.declared.actor.ActorId.{ActorId}
use Rattle.pc_base.specs.declared.limits.TheConstants.{GREATEST_READING}
use Rattle.pc_base.specs.Transaction.{same_txn}
use Rattle.pc_proto.specs.declared.answer.Answer.{Answer}
use Rattle.pc_proto.specs.declared.answer.Answer.TheVariants as answers
use Rattle.pc_proto.specs.declared.call.Call.{Call}
use Rattle.pc_proto.specs.declared.call.Call.TheVariants as calls
use Rattle.pc_world.specs.Known.{Known}
use Rattle.pc_world.specs.Known.Statements.{Statement}
use Rattle.pc_world.specs.Tell.Begin.{MayTellBegun}
use Rattle.pc_world.specs.Tell.Data.{MayTellRows, MayTellValue, MayTellWritten}
use Rattle.pc_world.specs.Tell.End.{MayTellAborted, MayTellCommitted, MayTellRestart, MayTellRolledBack}
use Rattle.pc_world.specs.Tell.Refusal.{MayTellBlocked, MayTellMoved, MayTellUnavailable, MayTellUnknown}

-- The call needs an open transaction.
abbrev pub needs_txn : Call → Bool
needs_txn (calls.Get key) = true
needs_txn (calls.Scan span) = true
needs_txn (calls.Put key value) = true
needs_txn (calls.Delete key) = true
needs_txn calls.Commit = true
needs_txn calls.Rollback = true
needs_txn (calls.Begin priority) = false
needs_txn (calls.Learn id) = false
needs_txn calls.Round = false

-- The call begins a transaction.
abbrev pub is_begin : Call → Bool
is_begin (calls.Begin priority) = true
is_begin _ = false

-- A begin at a reading past the clock's range, which is up to 2^62 nanoseconds.
abbrev pub is_past_range : Statement → Bool
is_past_range s = is_begin s.call && nat_lt GREATEST_READING s.reading

-- A learn is told that it learnt where the commit was met in it.
abbrev pub IsLearnTold : Bool → Known → Call → Type 0
IsLearnTold met k (calls.Learn id) = list_any (λ other. same_txn other id) k.met_now ≡ met
IsLearnTold met k _ = ⊥

-- The row of the answer.
abbrev pub MayTellRow : List (List ℕ) → ActorId → Known → Statement → Answer → Type 0
MayTellRow splits actor k s (answers.Begun id ts) = MayTellBegun actor k s id ts
MayTellRow splits actor k s (answers.Value value) = MayTellValue k s value
MayTellRow splits actor k s (answers.Rows rows) = MayTellRows splits k s rows
MayTellRow splits actor k s answers.Written = MayTellWritten k s
MayTellRow splits actor k s (answers.Committed id ts) = MayTellCommitted k s id ts
MayTellRow splits actor k s (answers.RolledBack id why) = MayTellRolledBack k s id why
MayTellRow splits actor k s answers.Learnt = IsLearnTold true k s.call
MayTellRow splits actor k s answers.NotYet = IsLearnTold false k s.call
MayTellRow splits actor k s answers.Done = s.call ≡ calls.Round
MayTellRow splits actor k s (answers.Blocked holder) = MayTellBlocked k s holder
MayTellRow splits actor k s (answers.Unavailable faults) = MayTellUnavailable k s faults
MayTellRow splits actor k s (answers.Aborted why) = MayTellAborted k why
MayTellRow splits actor k s (answers.Restart key ts) = MayTellRestart k s key ts
MayTellRow splits actor k s (answers.Unknown id) = MayTellUnknown k s id
MayTellRow splits actor k s (answers.Moved ts) = MayTellMoved k s ts
MayTellRow splits actor k s (answers.Clock reading) = ⊥
MayTellRow splits actor k s answers.NoTxn = ⊥

-- A call that finds no open transaction and needs one is told just that; a begin past the clock's range is told just that; any
-- other call is told what its row allows.
abbrev pub MayTellIn : List (List ℕ) → ActorId → Known → Statement → Answer → Type 0
MayTellIn splits actor k s answer =
    MatchBool (needs_txn s.call && not k.is_open) (answer ≡ answers.NoTxn)
    (MatchBool (is_past_range s) (answer ≡ answers.Clock s.reading) (MayTellRow splits actor k s answer))

-- There is an open call, and it may be told this.
pub record MayTell (splits : List (List ℕ)) (actor : ActorId) (k : Known) (answer : Answer) : Type 0 where
  pub s : Statement
  pub opened : k.statement ≡ Some s
  pub told : MayTellIn splits actor k s answer
