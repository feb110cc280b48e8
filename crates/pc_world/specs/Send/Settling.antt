-- Resolve and Remove may be sent: an intent may be settled as its transaction's record was heard to be, and a final record removed
-- once each of its locks was settled. SIGMOD 2020 paper, section 3.2; removal by marks is this project's own profile.
use Rattle.std.specs.Prelude.{◌≡◌, ℕ, ◌+◌, ◌≤◌, ◌⊎◌, Some, List, All, Any, Contains, IsTrue}
use Rattle.pc_base.specs.declared.transaction.TxnId.{TxnId}
use Rattle.pc_proto.specs.declared.fate.Fate.{Fate}
use Rattle.pc_proto.specs.declared.request.Request.TheVariants as requests
use Rattle.pc_proto.specs.declared.reply.Reply.TheVariants as replies
use Rattle.pc_proto.specs.declared.view.View.{View}
use Rattle.pc_proto.specs.Replies.{view_in}
use Rattle.pc_proto.specs.Requests.{is_about}
use Rattle.pc_proto.specs.Stamps.{fate_stamps}
use Rattle.pc_proto.specs.Views.{HasLocks, IsFateOf}
use Rattle.pc_world.specs.Known.{Known}
use Rattle.pc_world.specs.Known.Traffic.{Heard}
use Rattle.pc_world.specs.Known.Transactions.{Txn}
use Rattle.pc_world.specs.Views.{anchor_heard}

-- A view of the transaction shows this fate.
pub record ShowsFate (id : TxnId) (fate : Fate) (h : Heard) : Type 0 where
  pub about : IsTrue (is_about id h.request)
  pub view : View
  pub told : view_in h.reply ≡ Some view
  pub fits : IsFateOf view fate

-- The actor may settle the transaction's intents with this fate.
abbrev pub MaySendResolve : Known → TxnId → Fate → Type 0
MaySendResolve k id fate = Any (ShowsFate id fate) k.heard

-- The intent at the key was settled for this transaction, with this fate.
pub record ResolvedTo (id : TxnId) (key : List ℕ) (fate : Fate) (h : Heard) : Type 0 where
  pub asked : h.request ≡ requests.Resolve id key fate
  pub told : h.reply ≡ replies.Resolved

-- The intent at the key was settled for this transaction.
abbrev pub WasResolved : TxnId → List ℕ → Heard → Type 0
WasResolved id key h = (fate : Fate) × ResolvedTo id key fate h

-- The intent at each of these keys was settled for this transaction.
abbrev pub AllResolved : List Heard → TxnId → List (List ℕ) → Type 0
AllResolved heard id locks = All (λ key. Any (WasResolved id key) heard) locks

-- A final view of the transaction, with these locks.
pub record ShowsFinal (id : TxnId) (locks : List (List ℕ)) (h : Heard) : Type 0 where
  pub about : IsTrue (is_about id h.request)
  pub view : View
  pub told : view_in h.reply ≡ Some view
  pub final : HasLocks view locks

-- The locks that must be settled: the transaction's own in its session, else those of a final view.
abbrev pub MustSettle : Known → TxnId → List (List ℕ) → List (List ℕ) → Type 0
MustSettle k id shown locks =
    ((t : Txn) × Contains k.txns t × (t.id ≡ id) × (locks ≡ t.locks))
    ⊎ (All (λ t. t.id ≡ id → ⊥) k.txns × (locks ≡ shown))

-- The actor may send this removal of the transaction's record.
pub record MaySendRemove (k : Known) (id : TxnId) (anchor : List ℕ) : Type 0 where
  pub shown : List (List ℕ)
  pub locks : List (List ℕ)
  pub anchored : anchor_heard id k.heard ≡ Some anchor
  pub final : Any (ShowsFinal id shown) k.heard
  pub must : MustSettle k id shown locks
  pub settled : AllResolved k.heard id locks

-- The transaction may be finished with this fate, by these locks under this anchor: what its resolves and its removal ask for, but for
-- the settling of the locks itself.
pub record MayFinish (k : Known) (id : TxnId) (anchor : List ℕ) (fate : Fate) (locks : List (List ℕ)) : Type 0 where
  pub resolve : MaySendResolve k id fate
  pub stamps : All (λ ts. ts ≤ k.top + 1) (fate_stamps fate)
  pub anchored : anchor_heard id k.heard ≡ Some anchor
  pub shown : List (List ℕ)
  pub final : Any (ShowsFinal id shown) k.heard
  pub must : MustSettle k id shown locks
