-- What a reply that shows a transaction staging says of the stages that its session sent. RFC 20180324.
use Rattle.std.specs.Prelude.{◌≡◌, ℕ, List, IsTrue}
use Rattle.pc_base.specs.declared.transaction.TxnId.{TxnId}
use Rattle.pc_world.specs.Known.{Known}
use Rattle.pc_world.specs.Known.Traffic.{Heard}
use Rattle.pc_world.specs.StageFate.{IsLateByRecord, SentStage, SomeStage}
use Rattle.pc_world.specs.Tell.End.{shows_staging}

-- The stage is of this epoch and timestamp, and was not told that its record went another way.
pub record IsStageAt (heard : List Heard) (epoch ts : ℕ) (s : SentStage) : Type 0 where
  pub epoch_is : s.meta.epoch ≡ epoch
  pub ts_is : s.ts ≡ ts
  pub unrefused : IsLateByRecord heard s → ⊥

-- Where the reply shows the record of the transaction staging, the session sent a stage that is so.
abbrev pub ShowsSentStage : Known → TxnId → Heard → Type 0
ShowsSentStage k id h = (epoch ts : ℕ) → IsTrue (shows_staging id epoch ts h) → SomeStage id k.sent (IsStageAt k.heard epoch ts)
