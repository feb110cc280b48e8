-- Query and Recover may be sent: after a push met a STAGING record, for the writes that it lists; and a query also for a write of
-- the transaction's own stage that another stands in the way of. RFC 20180324, "Transaction recovery"; ParallelCommits TLA+.
use Rattle.std.specs.Prelude.{◌≡◌, ℕ, ◌≤◌, Bool, ◌&&◌, ◌⊎◌, Some, List, [], ◌∷◌, All, Any, IsTrue, count_by}
use Rattle.pc_base.specs.declared.actor.ActorId.{ActorId}
use Rattle.pc_base.specs.declared.actor.ActorId.TheVariants as actors
use Rattle.pc_base.specs.declared.limits.TheConstants.{MOST_CONFLICTS}
use Rattle.pc_base.specs.declared.transaction.TxnId.{TxnId}
use Rattle.pc_base.specs.declared.transaction.Who.{Who}
use Rattle.pc_base.specs.declared.transaction.Who.TheVariants as whos
use Rattle.pc_proto.specs.declared.fate.Finding.{Finding}
use Rattle.pc_proto.specs.declared.fate.Finding.TheVariants as findings
use Rattle.pc_proto.specs.declared.reply.Reply.TheVariants as replies
use Rattle.pc_proto.specs.declared.request.Request.TheVariants as requests
use Rattle.pc_proto.specs.declared.view.View.TheVariants as views
use Rattle.pc_proto.specs.Replies.{is_conflict, is_conflict_with, is_refused}
use Rattle.pc_proto.specs.Requests.{is_push_of, is_put_of}
use Rattle.pc_world.specs.Known.{Known, open_txn}
use Rattle.pc_world.specs.Known.Statements.{Statement}
use Rattle.pc_world.specs.Known.Traffic.{Heard}
use Rattle.pc_world.specs.Known.Transactions.{Txn, has_staged, lists_write}
use Rattle.pc_world.specs.Views.{anchor_heard}

-- A push of the transaction met a record that stages these writes at this epoch and timestamp.
pub record MetStaging (id : TxnId) (epoch ts : ℕ) (writes : List (List ℕ × ℕ)) (h : Heard) : Type 0 where
  pub pushed : IsTrue (is_push_of id h.request)
  pub staging : h.reply ≡ replies.Unsure (views.Staging epoch ts writes)

-- The transaction was heard to stage these writes at this epoch and timestamp.
abbrev pub WasStaging : List Heard → TxnId → ℕ → ℕ → List (List ℕ × ℕ) → Type 0
WasStaging heard id epoch ts writes = Any (MetStaging id epoch ts writes) heard

-- The actor's own name as one who pushes or queries: a session's is that of its open transaction.
abbrev pub IsOwnName : ActorId → Known → Who → Type 0
IsOwnName (actors.Session number) k by = (t : Txn) × (open_txn k ≡ Some t) × (by ≡ whos.Txn t.id)
IsOwnName (actors.Recoverer number) k by = by ≡ whos.Recoverer number
IsOwnName (actors.Range number) k by = ⊥

-- The write is one that the transaction was heard to stage.
pub record QueryOfListed (k : Known) (id : TxnId) (epoch seq ts : ℕ) (key : List ℕ) : Type 0 where
  pub writes : List (List ℕ × ℕ)
  pub staging : WasStaging k.heard id epoch ts writes
  pub listed : IsTrue (lists_write key seq writes)

-- A put of this write met an intent.
abbrev pub put_met : TxnId → ℕ → ℕ → Heard → Bool
put_met id epoch seq h = is_put_of id epoch seq h.request && is_conflict h.reply

-- A push of this transaction was refused.
abbrev pub was_refused : TxnId → Heard → Bool
was_refused id h = is_push_of id h.request && is_refused h.reply

-- A put of this write met an intent, and after that a push of its holder was refused.
abbrev pub IsRefusedAfter : TxnId → ℕ → ℕ → List Heard → Type 0
IsRefusedAfter id epoch seq [] = ⊥
IsRefusedAfter id epoch seq (h ∷ heard) =
    (IsTrue (is_put_of id epoch seq h.request)
    × ((holder : TxnId) × IsTrue (is_conflict_with holder h.reply) × Any (λ later. IsTrue (was_refused holder later)) heard))
    ⊎ IsRefusedAfter id epoch seq heard

-- In the open call a put of this write met an intent, and then a push of its holder was refused; or its puts met intents eight
-- times.
abbrev pub IsBlockedWrite : List Heard → TxnId → ℕ → ℕ → Type 0
IsBlockedWrite heard_now id epoch seq =
    IsRefusedAfter id epoch seq heard_now ⊎ (MOST_CONFLICTS ≤ count_by (put_met id epoch seq) heard_now)

-- In an open call, the write is one of the open transaction's own stage, and is blocked.
pub record QueryOfOwn (k : Known) (id : TxnId) (epoch seq ts : ℕ) (key : List ℕ) : Type 0 where
  pub s : Statement
  pub t : Txn
  pub in_call : k.statement ≡ Some s
  pub opened : open_txn k ≡ Some t
  pub whose : id ≡ t.id
  pub staged : IsTrue (has_staged k.sent id epoch ts key seq)
  pub blocked : IsBlockedWrite k.heard_now id epoch seq

-- The actor may send this query.
pub record MaySendQuery (actor : ActorId) (k : Known) (id : TxnId) (epoch seq ts : ℕ) (key : List ℕ) (by : Who) : Type 0 where
  pub own : IsOwnName actor k by
  pub why : QueryOfListed k id epoch seq ts key ⊎ QueryOfOwn k id epoch seq ts key

-- A query found this write of the transaction at this epoch and timestamp.
pub record WasFound (id : TxnId) (epoch ts : ℕ) (w : List ℕ × ℕ) (h : Heard) : Type 0 where
  pub by : Who
  pub asked : h.request ≡ requests.Query id epoch w.1 ts w.0 by
  pub told : h.reply ≡ replies.Found

-- A query by this name missed a write of this key that the list has.
pub record WasMissed (id : TxnId) (epoch ts : ℕ) (writes : List (List ℕ × ℕ)) (key : List ℕ) (by : Who) (h : Heard) : Type 0 where
  pub seq : ℕ
  pub listed : IsTrue (lists_write key seq writes)
  pub asked : h.request ≡ requests.Query id epoch seq ts key by
  pub told : h.reply ≡ replies.Missing

-- What a recovery may have found of the listed writes.
abbrev pub MayFind : ActorId → Known → TxnId → ℕ → ℕ → List (List ℕ × ℕ) → Finding → Type 0
MayFind actor k id epoch ts writes findings.All = All (λ w. Any (WasFound id epoch ts w) k.heard) writes
MayFind actor k id epoch ts writes (findings.Missing key by) =
    IsOwnName actor k by × Any (WasMissed id epoch ts writes key by) k.heard

-- The actor may send this recovery.
pub record MaySendRecover (actor : ActorId) (k : Known) (id : TxnId) (epoch ts : ℕ) (anchor : List ℕ) (finding : Finding) : Type 0 where
  pub writes : List (List ℕ × ℕ)
  pub anchored : anchor_heard id k.heard ≡ Some anchor
  pub staging : WasStaging k.heard id epoch ts writes
  pub found : MayFind actor k id epoch ts writes finding
