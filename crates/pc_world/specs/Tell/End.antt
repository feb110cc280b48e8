-- Committed, RolledBack, Aborted and Restart: how a transaction ends, or begins anew. SIGMOD 2020 paper, sections 3.3 and 3.4;
-- RFC 20180324.
use Rattle.std.specs.Prelude.{◌≡◌, ℕ, Bool, false, ◌&&◌, ◌⊎◌, None, Some, List, All, Any, IsTrue}
use Rattle.std.specs.Option.{option_map_or}
use Rattle.pc_base.specs.declared.transaction.TxnId.{TxnId}
use Rattle.pc_proto.specs.declared.call.Call.TheVariants as calls
use Rattle.pc_proto.specs.declared.reply.Reply.{Reply}
use Rattle.pc_proto.specs.declared.reply.Reply.TheVariants as replies
use Rattle.pc_proto.specs.declared.why.Why.{Why}
use Rattle.pc_proto.specs.Replies.{view_in}
use Rattle.pc_proto.specs.Requests.{is_about}
use Rattle.pc_proto.specs.Views.{is_staging_at}
use Rattle.pc_world.specs.Known.{Known, open_txn}
use Rattle.pc_world.specs.Known.Statements.{Statement}
use Rattle.pc_world.specs.Known.Traffic.{Heard}
use Rattle.pc_world.specs.Known.Transactions.{Txn, IsGood}
use Rattle.pc_world.specs.Known.Writes.{IsProvedBy}
use Rattle.pc_world.specs.Send.Abort.{own_cause}
use Rattle.pc_world.specs.StageFate.{IsUncommitted}
use Rattle.pc_world.specs.Views.{WasAborted, WasCommitted}

-- A view says that the transaction stages at this epoch and timestamp.
abbrev pub shows_staging : TxnId → ℕ → ℕ → Heard → Bool
shows_staging id epoch ts h = is_about id h.request && option_map_or (is_staging_at epoch ts) (view_in h.reply) false

-- A transaction without writes commits where it began, where its reads are good there.
pub record IsUnwritten (k : Known) (t : Txn) (ts : ℕ) : Type 0 where
  pub no_put : t.anchor ≡ None
  pub at_begin : ts ≡ t.begin
  pub good : IsGood k.heard t ts

-- The record stages at this timestamp, and every write of the epoch is proved at or below it.
pub record IsImplicit (k : Known) (t : Txn) (ts : ℕ) : Type 0 where
  pub staging : Any (λ h. IsTrue (shows_staging t.id t.epoch ts h)) k.heard
  pub proved : All (IsProvedBy ts) t.writes

-- The call may be told that the transaction committed at this timestamp.
pub record MayTellCommitted (k : Known) (s : Statement) (id : TxnId) (ts : ℕ) : Type 0 where
  pub t : Txn
  pub opened : open_txn k ≡ Some t
  pub asked : s.call ≡ calls.Commit
  pub whose : id ≡ t.id
  pub why : IsUnwritten k t ts ⊎ WasCommitted k.heard t.id ts ⊎ IsImplicit k t ts

-- The cause that a rollback is told: that of an ABORTED view heard in it, else its own.
abbrev pub IsCauseTold : Known → Txn → Why → Type 0
IsCauseTold k t why =
    WasAborted k.heard_now t.id why
    ⊎ (((other : Why) → WasAborted k.heard_now t.id other → ⊥) × (why ≡ own_cause t.restart))

-- The call may be told that the transaction was rolled back for this cause.
pub record MayTellRolledBack (k : Known) (s : Statement) (id : TxnId) (why : Why) : Type 0 where
  pub t : Txn
  pub opened : open_txn k ≡ Some t
  pub asked : s.call ≡ calls.Rollback
  pub whose : id ≡ t.id
  pub cause : IsCauseTold k t why

-- The call may be told that its transaction was aborted for this cause.
pub record MayTellAborted (k : Known) (why : Why) : Type 0 where
  pub t : Txn
  pub opened : open_txn k ≡ Some t
  pub heard : WasAborted k.heard t.id why

-- A refresh met this write.
abbrev pub IsUnrefreshed : List ℕ → ℕ → Reply → Type 0
IsUnrefreshed key ts (replies.Unrefreshed at_key at) = (at_key ≡ key) × (at ≡ ts)
IsUnrefreshed key ts _ = ⊥

-- The call may be told that this write makes its transaction restart.
pub record MayTellRestart (k : Known) (s : Statement) (key : List ℕ) (ts : ℕ) : Type 0 where
  pub t : Txn
  pub opened : open_txn k ≡ Some t
  pub asked : s.call ≡ calls.Commit
  pub heard : Any (λ h. IsUnrefreshed key ts h.reply) k.heard_now
  pub uncommitted : IsUncommitted t.id k.sent k.heard
