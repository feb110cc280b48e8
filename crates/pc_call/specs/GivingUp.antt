-- A commit gives up: its transaction stays open, or restarts, once nothing of it can have been committed. RFC 20180324.
use Rattle.std.specs.Prelude.{◌≡◌, ℕ, ◌<◌, ◌≤◌, ◌⊎◌, true, None, Some, List, All, Any, IsTrue}
use Rattle.pc_base.specs.declared.transaction.TxnId.{TxnId}
use Rattle.pc_follows.specs.Eighth.{WasMovedEighth}
use Rattle.pc_follows.specs.Heartbeats.{is_heartbeat}
use Rattle.pc_follows.specs.NextBlock.{IsBlockedNow}
use Rattle.pc_follows.specs.Refreshes.{IsFirstMet}
use Rattle.pc_proto.specs.declared.answer.Answer.{Answer}
use Rattle.pc_proto.specs.declared.answer.Answer.TheVariants as answers
use Rattle.pc_proto.specs.declared.call.Call.TheVariants as calls
use Rattle.pc_proto.specs.Replies.{status_ts}
use Rattle.pc_staging.specs.declared.stage_out.StageOut.{StageOut}
use Rattle.pc_staging.specs.Kept.{without_stages}
use Rattle.pc_txn.specs.declared.txn.OpenTxn.{OpenTxn}
use Rattle.pc_txn.specs.Opened.{restarted_by}
use Rattle.pc_txn.specs.Standing.{TxnStands}
use Rattle.pc_world.specs.Counting.{LastIs}
use Rattle.pc_world.specs.Known.{Known}
use Rattle.pc_world.specs.Known.Statements.{Statement}
use Rattle.pc_world.specs.Known.Traffic.{Heard}
use Rattle.pc_world.specs.Known.Transactions.{Txn}
use Rattle.pc_world.specs.StageFate.{IsLate, SentStage}
use Rattle.pc_world.specs.Send.Recovery.{was_refused}
use Rattle.pc_world.specs.Tell.Refusal.{MetEight, WasMoved}

-- The first refresh that did not hold met this write; and the commit was not moved as often as it may be.
pub record IsRestartWhy (k : Known) (key : List ℕ) (ts : ℕ) : Type 0 where
  pub first : IsFirstMet k key ts
  pub low : ts ≤ k.top
  pub fewer : WasMovedEighth k → ⊥

-- A conflict with this holder blocks the commit: its push was refused, or it was the eighth; and the commit was not moved as often as it may be.
pub record IsBlockedWhy (k : Known) (holder : TxnId) : Type 0 where
  pub next : IsBlockedNow k holder
  pub why : Any (λ h. IsTrue (was_refused holder h)) k.heard_now ⊎ MetEight holder k.heard_now
  pub fewer : WasMovedEighth k → ⊥

-- The commit was moved as often as it may be, there the last time.
pub record IsMovedWhy (k : Known) (ts : ℕ) : Type 0 where
  pub eight : WasMovedEighth k
  pub last : LastIs (WasMoved k) (λ h. status_ts h.reply ≡ ts) k.heard_now

-- Why a commit gives up by this answer.
abbrev pub IsWhy : Known → Answer → Type 0
IsWhy k (answers.Restart key ts) = IsRestartWhy k key ts
IsWhy k (answers.Blocked holder) = IsBlockedWhy k holder
IsWhy k (answers.Moved ts) = IsMovedWhy k ts
IsWhy k _ = ⊥

-- The open commit may give up by this answer, as soon as each of these stages is dead: each is late, and no commit is out.
pub record GivesUp (k : Known) (s : Statement) (t : Txn) (x : OpenTxn) (stages : List SentStage) (answer : Answer) : Type 0 where
  pub call : s.call ≡ calls.Commit
  pub anchor : List ℕ
  pub anchored : t.anchor ≡ Some anchor
  pub stands : TxnStands k stages None t x
  pub late : All (IsLate k.heard) stages
  pub why : IsWhy k answer

-- The transaction once its commit gave up by this answer: it restarts, or goes on with its stages forgotten, as they are dead.
abbrev pub given_up : Answer → OpenTxn → OpenTxn
given_up (answers.Restart key ts) x = restarted_by key ts x
given_up _ x = record x { staging = without_stages x.staging }

-- What is kept of a stage says that one of its writes was refuted before this step.
pub record WasRefutedBefore (step : ℕ) (o : StageOut) : Type 0 where
  pub first : ℕ
  pub refuted : o.refuted ≡ Some first
  pub before : first < step

-- Where the reply is to a heartbeat, it was evaluated after each of these, which were heard before: a heartbeat goes out alone.
abbrev pub IsAfterAllHeard : List Heard → Heard → Type 0
IsAfterAllHeard heard h = is_heartbeat h.request ≡ true → All (λ earlier. earlier.step < h.step) heard
