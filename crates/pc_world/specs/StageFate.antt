-- What has become of a stage or commit of a transaction, as its session knows it. A stage is late where it is known not to commit
-- by itself; it is dead where it is also known that no recovery has committed it. The difference matters because a recovery may
-- commit the transaction, settle its intents and remove its record while a reply is lost. Own profile, after RFC 20180324.
use Rattle.std.specs.Prelude.{◌≡◌, ℕ, ◌<◌, nat_lt, Bool, true, false, ◌&&◌, ◌==◌, not, ◌⊎◌, List, IsTrue, All, Any, ⊤}
use Rattle.pc_base.specs.declared.transaction.TxnId.{TxnId}
use Rattle.pc_base.specs.Transaction.{same_txn}
use Rattle.pc_proto.specs.declared.meta.TxnMeta.{TxnMeta}
use Rattle.pc_proto.specs.declared.reply.Reply.{Reply}
use Rattle.pc_proto.specs.declared.reply.Reply.TheVariants as replies
use Rattle.pc_proto.specs.declared.request.Request.{Request}
use Rattle.pc_proto.specs.declared.request.Request.TheVariants as requests
use Rattle.pc_proto.specs.declared.view.View.{View}
use Rattle.pc_proto.specs.declared.view.View.TheVariants as views
use Rattle.pc_proto.specs.Replies.{is_undecided_status}
use Rattle.pc_world.specs.Known.Traffic.{Heard, Sent}
use Rattle.pc_world.specs.Known.Transactions.{lists_write}
use Rattle.pc_world.specs.Views.{shows_undecided}

-- A stage that was sent, equal ones being one and the same.
pub record SentStage : Type 0 where
  pub meta : TxnMeta
  pub ts : ℕ
  pub now : ℕ
  pub writes : List (List ℕ × ℕ)
  pub locks : List (List ℕ)

-- The request that sends the stage.
abbrev pub stage_request : SentStage → Request
stage_request s = requests.Stage s.meta s.ts s.now s.writes s.locks

-- A commit that was sent, equal ones being one and the same.
pub record SentCommit : Type 0 where
  pub meta : TxnMeta
  pub ts : ℕ
  pub locks : List (List ℕ)

-- The request that sends the commit.
abbrev pub commit_request : SentCommit → Request
commit_request c = requests.Commit c.meta c.ts c.locks

-- One of the listed writes was written above the staged timestamp, or a query found it missing there.
abbrev pub is_write_refuted : SentStage → Request → Reply → Bool
is_write_refuted s (requests.Put meta seq at key value) (replies.Written ts) =
    same_txn meta.id s.meta.id && meta.epoch == s.meta.epoch && (lists_write key seq s.writes && nat_lt s.ts ts)
is_write_refuted s (requests.Query id epoch seq at key by) replies.Missing =
    same_txn id s.meta.id && epoch == s.meta.epoch && (at == s.ts && lists_write key seq s.writes)
is_write_refuted s _ _ = false

-- The record is not final, and is not staging with the stage's epoch and timestamp.
abbrev pub is_past_stage : SentStage → View → Bool
is_past_stage s (views.Staging epoch ts writes) = not (epoch == s.meta.epoch && ts == s.ts)
is_past_stage s (views.Pending epoch ts) = true
is_past_stage s views.Nothing = true
is_past_stage s (views.Committed epoch ts locks) = false
is_past_stage s (views.Aborted epoch why locks) = false

-- The reply shows that the record went another way than the stage.
abbrev pub shows_past : SentStage → Reply → Bool
shows_past s (replies.Status view) = is_past_stage s view
shows_past s _ = false

-- The stage itself was told that the record went another way.
pub record RefutesRecord (s : SentStage) (h : Heard) : Type 0 where
  pub asked : h.request ≡ stage_request s
  pub past : IsTrue (shows_past s h.reply)

-- The reply shows that one of the stage's writes stands above it or is missing.
pub record RefutesWrite (s : SentStage) (h : Heard) : Type 0 where
  pub refuted : IsTrue (is_write_refuted s h.request h.reply)

-- The stage itself was told, in some reply, that the record went another way.
abbrev pub IsLateByRecord : List Heard → SentStage → Type 0
IsLateByRecord heard s = Any (RefutesRecord s) heard

-- The stage will not commit by itself: one of its writes stands above it or is missing, or its record went another way.
abbrev pub IsLate : List Heard → SentStage → Type 0
IsLate heard s = Any (λ h. RefutesWrite s h ⊎ RefutesRecord s h) heard

-- A view that is not final, evaluated after this reply.
pub record IsUnsettledAfter (s : SentStage) (h later : Heard) : Type 0 where
  pub after : h.step < later.step
  pub unsettled : IsTrue (shows_undecided s.meta.id later.request later.reply)

-- One of its writes stands above it or is missing, and the transaction was not decided after that.
pub record IsDeadByWrite (heard : List Heard) (s : SentStage) (h : Heard) : Type 0 where
  pub refuted : RefutesWrite s h
  pub undecided : Any (IsUnsettledAfter s h) heard

-- The stage commits nothing any more.
abbrev pub IsDead : List Heard → SentStage → Type 0
IsDead heard s = IsLateByRecord heard s ⊎ Any (IsDeadByWrite heard s) heard

-- The commit was told, by this reply, that the record is not final.
pub record Refuses (c : SentCommit) (h : Heard) : Type 0 where
  pub asked : h.request ≡ commit_request c
  pub unsettled : IsTrue (is_undecided_status h.reply)

-- The commit was told that the record is not final.
abbrev pub WasCommitRefused : List Heard → SentCommit → Type 0
WasCommitRefused heard c = Any (Refuses c) heard

-- If the request is a stage of the transaction, that stage is so.
abbrev pub OnStage : TxnId → (SentStage → Type 0) → Request → Type 0
OnStage id P (requests.Stage meta ts now writes locks) =
    IsTrue (same_txn meta.id id) → P (record { meta = meta; ts = ts; now = now; writes = writes; locks = locks })
OnStage id P _ = ⊤

-- If the request is a commit of the transaction, that commit is so.
abbrev pub OnCommit : TxnId → (SentCommit → Type 0) → Request → Type 0
OnCommit id P (requests.Commit meta ts locks) =
    IsTrue (same_txn meta.id id) → P (record { meta = meta; ts = ts; locks = locks })
OnCommit id P _ = ⊤

-- Each stage of the transaction that was sent is so.
abbrev pub EachStage : TxnId → List Sent → (SentStage → Type 0) → Type 0
EachStage id sent P = All (λ m. OnStage id P m.request) sent

-- Each commit of the transaction that was sent is so.
abbrev pub EachCommit : TxnId → List Sent → (SentCommit → Type 0) → Type 0
EachCommit id sent P = All (λ m. OnCommit id P m.request) sent

-- The request is a stage of the transaction, and that stage is so.
abbrev pub IsStageWith : TxnId → (SentStage → Type 0) → Request → Type 0
IsStageWith id P (requests.Stage meta ts now writes locks) =
    IsTrue (same_txn meta.id id) × P (record { meta = meta; ts = ts; now = now; writes = writes; locks = locks })
IsStageWith id P _ = ⊥

-- The request is a commit of the transaction, and that commit is so.
abbrev pub IsCommitWith : TxnId → (SentCommit → Type 0) → Request → Type 0
IsCommitWith id P (requests.Commit meta ts locks) =
    IsTrue (same_txn meta.id id) × P (record { meta = meta; ts = ts; locks = locks })
IsCommitWith id P _ = ⊥

-- Some stage of the transaction that was sent is so.
abbrev pub SomeStage : TxnId → List Sent → (SentStage → Type 0) → Type 0
SomeStage id sent P = Any (λ m. IsStageWith id P m.request) sent

-- Some commit of the transaction that was sent is so.
abbrev pub SomeCommit : TxnId → List Sent → (SentCommit → Type 0) → Type 0
SomeCommit id sent P = Any (λ m. IsCommitWith id P m.request) sent

-- Every stage of the transaction is dead, and every commit refused.
pub record IsUncommitted (id : TxnId) (sent : List Sent) (heard : List Heard) : Type 0 where
  pub stages : EachStage id sent (IsDead heard)
  pub commits : EachCommit id sent (WasCommitRefused heard)
