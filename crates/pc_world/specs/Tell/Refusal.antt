-- Blocked, Unavailable, Unknown and Moved: why a call gives up. Where a commit gives up and the transaction stays open, its stages
-- and commits must be known to have come to nothing. Own profile.
use Rattle.std.specs.Prelude.{◌≡◌, ◌≢◌, ℕ, zero, suc, ◌≤◌, nat_lt, Bool, false, ◌&&◌, ◌==◌, not, ◌⊎◌, Some, List, [], ◌∷◌, Any, Contains, IsTrue, reverse, ⊤}
use Rattle.std.specs.List.{list_any}
use Rattle.pc_base.specs.declared.limits.TheConstants.{MOST_CONFLICTS, MOST_REFUSALS}
use Rattle.pc_base.specs.declared.transaction.TxnId.{TxnId}
use Rattle.pc_proto.specs.declared.call.Call.{Call}
use Rattle.pc_proto.specs.declared.call.Call.TheVariants as calls
use Rattle.pc_proto.specs.declared.reply.Reply.{Reply}
use Rattle.pc_proto.specs.declared.request.Request.{Request}
use Rattle.pc_proto.specs.declared.request.Request.TheVariants as requests
use Rattle.pc_proto.specs.Replies.{is_conflict, is_conflict_with, is_undecided_status, status_ts}
use Rattle.pc_proto.specs.Requests.{is_put_of}
use Rattle.pc_world.specs.Counting.{AtLeast, LastIs}
use Rattle.pc_world.specs.Known.{Known, open_txn}
use Rattle.pc_world.specs.Known.Statements.{Statement}
use Rattle.pc_world.specs.Known.Traffic.{Heard, Sent}
use Rattle.pc_world.specs.Known.Transactions.{Txn}
use Rattle.pc_world.specs.Known.Writes.{Write, is_proved}
use Rattle.pc_world.specs.SameRequest.{IsSameMessage, IsSameRequest}
use Rattle.pc_world.specs.Send.Recovery.{was_refused}
use Rattle.pc_world.specs.StageFate.{IsDead, IsUncommitted, SomeCommit, SomeStage, WasCommitRefused}
use Rattle.pc_world.specs.Tell.Data.{was_sent_now}

-- In a commit, the open transaction's stages are dead and its commits refused.
abbrev pub IsUncommittedIn : Known → Call → Type 0
IsUncommittedIn k calls.Commit = (t : Txn) × (open_txn k ≡ Some t) × IsUncommitted t.id k.sent k.heard
IsUncommittedIn k _ = ⊤

-- A call that reads, writes or commits.
abbrev pub MayBlock : Call → Type 0
MayBlock (calls.Get key) = ⊤
MayBlock (calls.Scan span) = ⊤
MayBlock (calls.Put key value) = ⊤
MayBlock (calls.Delete key) = ⊤
MayBlock calls.Commit = ⊤
MayBlock (calls.Begin priority) = ⊥
MayBlock calls.Rollback = ⊥
MayBlock (calls.Learn id) = ⊥
MayBlock calls.Round = ⊥

-- A conflict that was heard to this request.
pub record IsConflictOf (request : Request) (h : Heard) : Type 0 where
  pub same : IsSameRequest request h.request
  pub conflict : IsTrue (is_conflict h.reply)

-- One request met intents eight times, the last time of this holder.
pub record MetEight (holder : TxnId) (heard_now : List Heard) : Type 0 where
  pub request : Request
  pub eight : AtLeast (IsConflictOf request) MOST_CONFLICTS heard_now
  pub last : LastIs (IsConflictOf request) (λ h. IsTrue (is_conflict_with holder h.reply)) heard_now

-- The call may be told that this holder blocks it.
pub record MayTellBlocked (k : Known) (s : Statement) (holder : TxnId) : Type 0 where
  pub asked : MayBlock s.call
  pub why : Any (λ h. IsTrue (was_refused holder h)) k.heard_now ⊎ MetEight holder k.heard_now
  pub uncommitted : IsUncommittedIn k s.call

-- A reply to the message was heard.
abbrev pub is_heard : List Heard → Sent → Bool
is_heard heard m = list_any (λ h. h.number == m.number) heard

-- Of the messages, the latest first, the last so many of this request were not heard.
abbrev pub AreLastLost : List Heard → Sent → List Sent → ℕ → Type 0
AreLastLost heard m [] zero = Unit {0}
AreLastLost heard m [] (suc n) = ⊥
AreLastLost heard m (x ∷ xs) zero = Unit {0}
AreLastLost heard m (x ∷ xs) (suc n) =
    (IsSameMessage m x × IsTrue (not (is_heard heard x)) × AreLastLost heard m xs n)
    ⊎ ((IsSameMessage m x → ⊥) × AreLastLost heard m xs (suc n))

-- The message is a put of a write that is not proved.
pub record IsUnprovedPut (txns : List Txn) (m : Sent) : Type 0 where
  pub t : Txn
  pub w : Write
  pub mine : Contains txns t
  pub written : Contains t.writes w
  pub unproved : IsTrue (not (is_proved w))
  pub put : IsTrue (is_put_of t.id t.epoch w.seq m.request)

-- The last so many sends of one request were lost: of one sent in the open call, or of a put of a write that is not proved.
pub record WasLost (k : Known) (faults : ℕ) : Type 0 where
  pub message : Sent
  pub some : 1 ≤ faults
  pub lost : AreLastLost k.heard message (reverse k.sent) faults
  pub whose : Any (IsSameMessage message) k.sent_now ⊎ IsUnprovedPut k.txns message

-- The call may be told that so many sends of one request were lost.
pub record MayTellUnavailable (k : Known) (s : Statement) (faults : ℕ) : Type 0 where
  pub no_rollback : s.call ≢ calls.Rollback
  pub no_round : s.call ≢ calls.Round
  pub lost : WasLost k faults
  pub uncommitted : IsUncommittedIn k s.call

-- The transaction may have committed: a stage was sent that is not dead, or a commit that is not refused.
abbrev pub MayHaveCommitted : Known → TxnId → Type 0
MayHaveCommitted k id =
    SomeStage id k.sent (λ s. IsDead k.heard s → ⊥) ⊎ SomeCommit id k.sent (λ c. WasCommitRefused k.heard c → ⊥)

-- The call may be told that it is not known whether the transaction committed.
pub record MayTellUnknown (k : Known) (s : Statement) (id : TxnId) : Type 0 where
  pub t : Txn
  pub faults : ℕ
  pub opened : open_txn k ≡ Some t
  pub asked : s.call ≡ calls.Commit
  pub whose : id ≡ t.id
  pub lost : WasLost k faults
  pub doubt : MayHaveCommitted k t.id

-- A stage or commit met a record that is not final and has a greater timestamp.
abbrev pub is_moved : Request → Reply → Bool
is_moved (requests.Stage meta ts now writes locks) reply = is_undecided_status reply && nat_lt ts (status_ts reply)
is_moved (requests.Commit meta ts locks) reply = is_undecided_status reply && nat_lt ts (status_ts reply)
is_moved _ reply = false

-- A stage or commit of the open call was so moved.
abbrev pub WasMoved : Known → Heard → Type 0
WasMoved k h = IsTrue (was_sent_now k h && is_moved h.request h.reply)

-- The call may be told that its transaction was moved to this timestamp, after it was moved time and again.
pub record MayTellMoved (k : Known) (s : Statement) (ts : ℕ) : Type 0 where
  pub t : Txn
  pub opened : open_txn k ≡ Some t
  pub asked : s.call ≡ calls.Commit
  pub eight : AtLeast (WasMoved k) MOST_REFUSALS k.heard_now
  pub last : LastIs (WasMoved k) (λ h. status_ts h.reply ≡ ts) k.heard_now
  pub uncommitted : IsUncommitted t.id k.sent k.heard
