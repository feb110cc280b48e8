-- An open call is told its answer, and its transaction stays open.
use Rattle.std.specs.Prelude.{◌≡◌, ℕ, ◌+◌, ◌≤◌, Bool, true, false, ⊤, None, Some, [], All}
use Rattle.pc_call.specs.Setting.{Setting}
use Rattle.pc_base.specs.declared.actor.ActorId.TheVariants as actors
use Rattle.pc_call.specs.Learned.{known_told}
use Rattle.pc_call.specs.Serving.{IsOpenIn}
use Rattle.pc_call.specs.Suiting.{SuitsFlightNextIn}
use Rattle.pc_proto.specs.declared.answer.Answer.{Answer}
use Rattle.pc_proto.specs.declared.answer.Answer.TheVariants as answers
use Rattle.pc_proto.specs.declared.call.Call.TheVariants as calls
use Rattle.pc_proto.specs.declared.event.Event.TheVariants as events
use Rattle.pc_proto.specs.Stamps.{why_stamps}
use Rattle.pc_txn.specs.declared.txn.OpenTxn.{OpenTxn}
use Rattle.pc_txn.specs.Standing.{TxnStands}
use Rattle.pc_follows.specs.Eighth.{TellsTheEighth}
use Rattle.pc_follows.specs.FinishingJobs.{left_by}
use Rattle.pc_follows.specs.FirstBlock.{TellsFirstBlock}
use Rattle.pc_follows.specs.Heartbeats.{KeepsHeartbeats}
use Rattle.pc_follows.specs.Rollbacks.{AbortsFirst, TellsRollbacks}
use Rattle.pc_follows.specs.PipelinedPuts.{TellsWritten}
use Rattle.pc_follows.specs.Refreshes.{RefreshesReads}
use Rattle.pc_world.specs.Known.{Known}
use Rattle.pc_world.specs.Known.Statements.{Statement}
use Rattle.pc_world.specs.Known.Transactions.{Txn}
use Rattle.pc_world.specs.MayTell.{MayTell}
use Rattle.pc_world.specs.Send.Abort.{own_cause}

-- After an eighth the call is told of it; but where messages may be lost, and one of it is not answered, it is told that first.
abbrev pub TellsAfterEighth : Bool → Known → Statement → Answer → Type 0
TellsAfterEighth true k s (answers.Unavailable faults) = ⊤
TellsAfterEighth true k s (answers.Unknown id) = ⊤
TellsAfterEighth loses k s answer = TellsTheEighth k s answer

-- The open call may be told this: its row allows it; a call that is told written heard so of its own put, where nothing is lost a rollback of a transaction that
-- wrote heard its abort, and no rollback is told aborted, a restart is for the first refresh that did not hold, after an eighth the call is told of it, and
-- where nothing is lost a heartbeat that was due was heard, and an abort that it found is told; and where writes are pipelined a commit that is blocked is so
-- by its next block.
pub record MayBeTold (set : Setting) (session : ℕ) (k : Known) (answer : Answer) : Type 0 where
  pub may : MayTell set.splits (actors.Session session) k answer
  pub written : TellsWritten set.course.pipelines k (events.Tell answer)
  pub aborts : set.course.loses ≡ false → AbortsFirst k (events.Tell answer)
  pub rolled_back : TellsRollbacks k (events.Tell answer)
  pub restarts : RefreshesReads k (events.Tell answer)
  pub eighth : (s : Statement) → k.statement ≡ Some s → TellsAfterEighth set.course.loses k s answer
  pub blocked : set.course.pipelines ≡ true → (s : Statement) → k.statement ≡ Some s → s.call ≡ calls.Commit → TellsFirstBlock true k answer
  pub beats : set.course.loses ≡ false → KeepsHeartbeats k (events.Tell answer)

-- Between calls the open transaction stands; a rollback that is asked next aborts it for its cause.
pub record StandsOpen (k : Known) (x : OpenTxn) : Type 0 where
  pub t : Txn
  pub open_in : IsOpenIn k t
  pub stands : TxnStands k [] None t x
  pub cause : x.cause ≡ own_cause t.restart
  pub low : All (λ ts. ts ≤ k.top + 1) (why_stamps x.cause)

-- The open call may be told this, which leaves nothing to be done; and once it is, the transaction stands open, and without pipelining the call may
-- be asked again where its write is in flight.
pub record MayTellOpen (set : Setting) (session : ℕ) (k : Known) (answer : Answer) (x : OpenTxn) : Type 0 where
  pub may : MayBeTold set session k answer
  pub left : left_by answer k ≡ []
  pub after : StandsOpen (known_told answer k) x
  pub suits : (s : Statement) → k.statement ≡ Some s → SuitsFlightNextIn set.course.pipelines answer s.call x.in_flight
