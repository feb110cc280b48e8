-- An open call of which some message is not answered, however often it was sent. Own profile.
use Rattle.std.specs.Prelude.{◌≡◌, false, Option, List, Some}
use Rattle.pc_call.specs.Serving.{IsOpenIn, IsSplit}
use Rattle.pc_call.specs.Setting.{Setting}
use Rattle.pc_call.specs.Suiting.{SuitsFlightIn}
use Rattle.pc_proto.specs.declared.call.Call.TheVariants as calls
use Rattle.pc_proto.specs.declared.why.Why.TheVariants as whys
use Rattle.pc_staging.specs.Kept.{is_over}
use Rattle.pc_txn.specs.declared.txn.OpenTxn.{OpenTxn}
use Rattle.pc_txn.specs.Standing.{TxnStands}
use Rattle.pc_world.specs.Known.{Known}
use Rattle.pc_world.specs.Known.Statements.{Statement}
use Rattle.pc_world.specs.Known.Transactions.{Txn}
use Rattle.pc_world.specs.StageFate.{SentCommit, SentStage}
use Rattle.pc_world.specs.Tell.Refusal.{MayBlock}

-- The open transaction stands with these stages and this commit; and its call, which is no rollback, commits where one of them may yet have committed it.
pub record MayGiveUpLost (set : Setting) (k : Known) (x : OpenTxn) : Type 0 where
  pub t : Txn
  pub open_in : IsOpenIn k t
  pub stages : List SentStage
  pub out : Option SentCommit
  pub stands : TxnStands k stages out t x
  pub cause : x.cause ≡ whys.Client
  pub s : Statement
  pub opened : k.statement ≡ Some s
  pub split : IsSplit k
  pub works : MayBlock s.call
  pub plain : SuitsFlightIn set.course.pipelines s.call x.in_flight
  pub commits : is_over x.staging ≡ false → s.call ≡ calls.Commit
