-- A commit goes on: none of its messages is waited for, and it refreshes or commits next.
use Rattle.std.specs.Prelude.{◌≡◌, ℕ, Bool, Option, None, Some, List, [], All}
use Rattle.pc_call.specs.Suiting.{SuitsFlightIn}
use Rattle.pc_proto.specs.declared.call.Call.TheVariants as calls
use Rattle.pc_call.specs.Setting.{Setting}
use Rattle.pc_call.specs.Beaten.{HasBeatenIn}
use Rattle.pc_call.specs.Met.{ArePassedBelow, IsWithoutConflict}
use Rattle.pc_call.specs.Paced.{IsPaced}
use Rattle.pc_call.specs.Beside.{ArePastOrInFlight}
use Rattle.pc_call.specs.Serving.{IsCommitCall, MetNoWrite, NoneMetEighth, IsOpenIn, IsRefreshUpTo, IsSplit, WasRefusedIfCommit}
use Rattle.pc_call.specs.GivenUp.{GivesUpBy}
use Rattle.pc_proto.specs.declared.answer.Answer.TheVariants as answers
use Rattle.pc_proto.specs.declared.why.Why.TheVariants as whys
use Rattle.pc_proto.specs.Replies.{status_ts}
use Rattle.pc_refusals.specs.Moves.{CountsMoves}
use Rattle.pc_txn.specs.declared.txn.OpenTxn.{OpenTxn}
use Rattle.pc_txn.specs.Standing.{TxnStands}
use Rattle.pc_world.specs.Counting.{LastIs}
use Rattle.pc_follows.specs.Eighth.{WasMovedEighth}
use Rattle.pc_world.specs.Known.{Known}
use Rattle.pc_world.specs.Known.Reads.{IsGoodAt}
use Rattle.pc_world.specs.Known.Statements.{Statement}
use Rattle.pc_world.specs.Known.Transactions.{Txn}
use Rattle.pc_world.specs.Tell.Refusal.{WasMoved}
use Rattle.pc_world.specs.StageFate.{IsLate, SentStage}

-- The open transaction commits, after its commit was moved so often: every commit that was sent in the call was refused, each refresh was to a
-- timestamp that is no later than this one, and held, and where nothing is lost heartbeats went out where they were due, and were heard. Each stage that is
-- kept is late, no request met its eighth but for puts of writes that are proved, nor a conflict that a refused stage passed over, no round is left, and each request was sent once more than it met intents, but
-- for those and the puts of writes in flight.
pub record CommitsUpTo (loses : Bool) (bound refusals : ℕ) (k : Known) (t : Txn) (x : OpenTxn) (s : Statement) : Type 0 where
  pub open_in : IsOpenIn k t
  pub stages : List SentStage
  pub stands : TxnStands k stages None t x
  pub late : All (IsLate k.heard) stages
  pub client : x.cause ≡ whys.Client
  pub opened : k.statement ≡ Some s
  pub split : IsSplit k
  pub paced : IsPaced [] k.heard_now
  pub commits : IsCommitCall refusals k s t x
  pub refused : All (WasRefusedIfCommit t.write_ts k.heard_now) k.sent_now
  pub refreshes : All (λ m. IsRefreshUpTo bound m.request) k.sent_now
  pub held : All MetNoWrite k.heard_now
  pub beaten : HasBeatenIn loses k t
  pub none_eighth : NoneMetEighth t.id t.epoch x.in_flight k.heard_now
  pub below : ArePassedBelow k
  pub settled : IsWithoutConflict k
  pub done : ArePastOrInFlight k t.id t.epoch x.in_flight

-- It commits where its reads are good at its write timestamp.
pub record CommitsNow (loses : Bool) (refusals : ℕ) (k : Known) (x : OpenTxn) (s : Statement) : Type 0 where
  pub t : Txn
  pub on : CommitsUpTo loses t.write_ts refusals k t x s
  pub good : All (IsGoodAt t.id k.heard t.write_ts) t.reads

-- The commit goes on: it refreshes what it read, or commits.
pub record CommitsOn (loses : Bool) (refusals : ℕ) (k : Known) (x : OpenTxn) : Type 0 where
  pub t : Txn
  pub s : Statement
  pub on : CommitsUpTo loses t.read_ts refusals k t x s

-- What follows a commit that was refused where its record stands: it goes on after so many refusals, or gives up, as it was moved there as often as it may
-- be.
abbrev pub IsRefusalOf : Setting → ℕ → Known → ℕ → OpenTxn → Option ℕ → Type 0
IsRefusalOf set session k recorded x None = GivesUpBy set.course.loses k x (answers.Moved recorded)
IsRefusalOf set session k recorded x (Some refusals) = CommitsOn set.course.loses refusals k x × SuitsFlightIn set.course.pipelines calls.Commit x.in_flight

-- The commit was moved as often as it may be, there the last time.
pub record IsUsedUp (now : Known) (recorded : ℕ) : Type 0 where
  pub eight : WasMovedEighth now
  pub last : LastIs (WasMoved now) (λ h. status_ts h.reply ≡ recorded) now.heard_now

-- So often was it moved, which is not as often as it may be; or it was moved as often.
abbrev pub AreRefusals : Known → ℕ → Option ℕ → Type 0
AreRefusals now recorded None = IsUsedUp now recorded
AreRefusals now recorded (Some refusals) = CountsMoves now refusals × (WasMovedEighth now → ⊥)
