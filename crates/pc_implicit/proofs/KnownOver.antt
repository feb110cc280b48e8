-- What a session knows where each stage and commit of its transaction is known to have come to nothing.
use Rattle.std.proofs.Common.{◌≡◌}
use Rattle.pc_base.specs.declared.transaction.TxnId.{TxnId}
use Rattle.pc_implicit.proofs.StagesKnown.{HasSent, commit_of, stage_of}
use Rattle.pc_world.specs.Known.{Known}
use Rattle.pc_world.specs.StageFate.{IsDead, IsUncommitted, SentCommit, SentStage, WasCommitRefused, commit_request, stage_request}

-- Each stage of the transaction that was sent is known dead, and each commit refused.
pub record IsKnownOver (k : Known) (id : TxnId) : Type 0 where
  pub dead : (s : SentStage) → HasSent k.sent (stage_request s) → s.meta.id ≡ id → IsDead k.heard s
  pub refused : (c : SentCommit) → HasSent k.sent (commit_request c) → c.meta.id ≡ id → WasCommitRefused k.heard c

pub over_of : (k : Known) (id : TxnId) → IsUncommitted id k.sent k.heard → IsKnownOver k id
over_of k id u = record {
  dead = λ s sent whose. stage_of id (IsDead k.heard) k.sent u.stages s whose sent;
  refused = λ c sent whose. commit_of id (WasCommitRefused k.heard) k.sent u.commits c whose sent;
}
