-- When a transaction's record is final and its locks are settled.
use Rattle.std.specs.Prelude.{ℕ, List, Any}
use Rattle.pc_base.specs.declared.transaction.TxnId.{TxnId}
use Rattle.pc_world.specs.Known.{Known}
use Rattle.pc_world.specs.Known.Traffic.{Heard}
use Rattle.pc_world.specs.Send.Settling.{AllResolved, MustSettle, ShowsFinal}

-- The reply shows a final view of the transaction.
abbrev pub IsFinalAbout : TxnId → Heard → Type 0
IsFinalAbout id h = (shown : List (List ℕ)) × ShowsFinal id shown h

-- The reply shows a final view of the transaction, and each of its locks was settled.
abbrev pub IsSettledBy : List Heard → TxnId → Heard → Type 0
IsSettledBy heard id h = (shown : List (List ℕ)) × ShowsFinal id shown h × AllResolved heard id shown

-- A final view of the transaction was heard, and each lock that must be settled was.
pub record IsSettledFor (k : Known) (id : TxnId) : Type 0 where
  pub shown : List (List ℕ)
  pub locks : List (List ℕ)
  pub final : Any (ShowsFinal id shown) k.heard
  pub must : MustSettle k id shown locks
  pub settled : AllResolved k.heard id locks
