-- Push may be sent: by a session against the holder of an intent that stood in the way in the open call, a reader to move it past
-- the read, a writer to abort it; by a recoverer against a transaction that was listed in the open round. SIGMOD 2020 paper,
-- section 3.2.
use Rattle.std.specs.Prelude.{◌≡◌, ℕ, ◌+◌, Some, Any, Contains}
use Rattle.pc_base.specs.declared.actor.ActorId.{ActorId}
use Rattle.pc_base.specs.declared.actor.ActorId.TheVariants as actors
use Rattle.pc_base.specs.declared.transaction.Priority.{Priority}
use Rattle.pc_base.specs.declared.transaction.Who.{Who}
use Rattle.pc_base.specs.declared.transaction.Who.TheVariants as whos
use Rattle.pc_proto.specs.declared.call.Call.TheVariants as calls
use Rattle.pc_proto.specs.declared.fate.Goal.{Goal}
use Rattle.pc_proto.specs.declared.fate.Goal.TheVariants as goals
use Rattle.pc_proto.specs.declared.meta.TxnMeta.{TxnMeta}
use Rattle.pc_proto.specs.declared.reply.Reply.{Reply}
use Rattle.pc_proto.specs.declared.reply.Reply.TheVariants as replies
use Rattle.pc_proto.specs.declared.request.Request.{Request}
use Rattle.pc_proto.specs.declared.request.Request.TheVariants as requests
use Rattle.pc_proto.specs.Replies.{ConflictsWith}
use Rattle.pc_world.specs.Known.{Known, call_of, open_txn, reading_of}
use Rattle.pc_world.specs.Known.Traffic.{Heard}
use Rattle.pc_world.specs.Known.Transactions.{Txn}

-- What a push is for: a read moves the holder past it, a write aborts the holder.
abbrev pub goal_for : Request → Goal
goal_for (requests.Get id epoch seq ts key) = goals.Move (ts + 1)
goal_for (requests.Scan id epoch seq ts span) = goals.Move (ts + 1)
goal_for _ = goals.Abort

-- The holder's intent stood in the way of a request, for which the push is.
pub record StoodInTheWay (holder : TxnMeta) (goal : Goal) (h : Heard) : Type 0 where
  pub conflict : ConflictsWith holder h.reply
  pub for : goal ≡ goal_for h.request

-- A session may push the holder for its open transaction.
pub record SessionPush (k : Known) (holder : TxnMeta) (by : Who) (level : Priority) (now : ℕ) (goal : Goal) : Type 0 where
  pub t : Txn
  pub opened : open_txn k ≡ Some t
  pub conflict : Any (StoodInTheWay holder goal) k.heard_now
  pub whose : by ≡ whos.Txn t.id
  pub own_level : level ≡ t.priority
  pub read_now : reading_of k ≡ Some now

-- The reply lists the holder's record.
abbrev pub ListsRecord : TxnMeta → Reply → Type 0
ListsRecord holder (replies.Listed metas) = Contains metas holder
ListsRecord holder _ = ⊥

-- A recoverer may push the holder in its round.
pub record RecovererPush (number : ℕ) (k : Known) (holder : TxnMeta) (by : Who) (now : ℕ) (goal : Goal) : Type 0 where
  pub asked : call_of k ≡ Some calls.Round
  pub was_listed : Any (λ h. ListsRecord holder h.reply) k.heard_now
  pub whose : by ≡ whos.Recoverer number
  pub to_abort : goal ≡ goals.Abort
  pub read_now : reading_of k ≡ Some now

-- The actor may send this push.
abbrev pub MaySendPush : ActorId → Known → TxnMeta → Who → Priority → ℕ → Goal → Type 0
MaySendPush (actors.Session number) k holder by level now goal = SessionPush k holder by level now goal
MaySendPush (actors.Recoverer number) k holder by level now goal = RecovererPush number k holder by now goal
MaySendPush (actors.Range number) k holder by level now goal = ⊥
