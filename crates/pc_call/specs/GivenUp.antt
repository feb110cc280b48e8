-- A commit that gives up, beside its open call, and what it may be told. RFC 20180324.
use Rattle.std.specs.Prelude.{◌≡◌, ℕ, Bool, false, Some, List, [], All}
use Rattle.pc_call.specs.Setting.{Setting}
use Rattle.pc_call.specs.Beaten.{BeatsOnlyFirst}
use Rattle.pc_call.specs.Learned.{known_told}
use Rattle.pc_call.specs.Paced.{IsPaced}
use Rattle.pc_call.specs.Serving.{IsOpenIn, IsSplit, MeetsByPut}
use Rattle.pc_call.specs.Telling.{MayBeTold, StandsOpen}
use Rattle.pc_follows.specs.FinishingJobs.{left_by}
use Rattle.pc_follows.specs.Heartbeats.{HasBeaten}
use Rattle.pc_proto.specs.declared.answer.Answer.{Answer}
use Rattle.pc_proto.specs.declared.why.Why.TheVariants as whys
use Rattle.pc_staging.specs.Kept.{is_over}
use Rattle.pc_txn.specs.declared.txn.OpenTxn.{OpenTxn}
use Rattle.pc_world.specs.Known.{Known}
use Rattle.pc_world.specs.Known.Statements.{Statement}
use Rattle.pc_world.specs.Known.Transactions.{Txn}
use Rattle.pc_world.specs.StageFate.{SentStage}
use Rattle.pc_call.specs.GivingUp.{GivesUp, given_up}

-- So may the call that is open: beside that, its rounds keep pace, only its puts met intents, and where nothing is lost heartbeats went out in it
-- where they were due, and were heard; and while some stage is not dead, none went out behind another message.
pub record GivesUpBy (loses : Bool) (k : Known) (x : OpenTxn) (answer : Answer) : Type 0 where
  pub t : Txn
  pub stages : List SentStage
  pub open_in : IsOpenIn k t
  pub cause : x.cause ≡ whys.Client
  pub s : Statement
  pub opened : k.statement ≡ Some s
  pub split : IsSplit k
  pub paced : IsPaced [] k.heard_now
  pub met : All MeetsByPut k.heard_now
  pub beaten : loses ≡ false → HasBeaten k t
  pub first : loses ≡ false → is_over x.staging ≡ false → BeatsOnlyFirst k
  pub gives_up : GivesUp k s t x stages answer

-- The open commit may be told this, which leaves nothing to be done; and once it is, its transaction stands open.
pub record MayGiveUp (set : Setting) (session : ℕ) (k : Known) (x : OpenTxn) (answer : Answer) : Type 0 where
  pub may : MayBeTold set session k answer
  pub left : left_by answer k ≡ []
  pub after : StandsOpen (known_told answer k) (given_up answer x)
