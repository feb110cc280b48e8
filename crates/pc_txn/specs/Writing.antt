-- How the writes of the open transaction's epoch stand beside what its session sent and heard of them. SIGMOD 2020 paper, section 3.1.
use Rattle.std.specs.Prelude.{◌≡◌, ℕ, ◌<◌, ◌≤◌, Bool, false, ◌&&◌, ◌==◌, not, None, List, [], All, Any, Contains, IsTrue}
use Rattle.std.specs.List.{list_any}
use Rattle.pc_base.specs.declared.transaction.TxnId.{TxnId}
use Rattle.pc_base.specs.Transaction.{same_txn}
use Rattle.pc_follows.specs.PipelinedPuts.{proves}
use Rattle.pc_proto.specs.declared.reply.Reply.{Reply}
use Rattle.pc_proto.specs.declared.reply.Reply.TheVariants as replies
use Rattle.pc_proto.specs.declared.request.Request.{Request}
use Rattle.pc_proto.specs.declared.request.Request.TheVariants as requests
use Rattle.pc_proto.specs.Replies.{is_written}
use Rattle.pc_proto.specs.Requests.{is_put_of}
use Rattle.pc_wave.specs.Standing.{Pairwise}
use Rattle.pc_world.specs.Known.Traffic.{Heard, Sent}
use Rattle.pc_world.specs.Known.Transactions.{Txn, with_lock}
use Rattle.pc_world.specs.Known.Writes.{Write, is_proved, last_seq_of}

-- If the request puts a write of the transaction, its epoch is not a later one, and in this epoch its sequence is at most this one.
abbrev pub PutsUpTo : Txn → ℕ → Request → Type 0
PutsUpTo t last request = (epoch seq : ℕ) → IsTrue (is_put_of t.id epoch seq request) → (epoch ≤ t.epoch) × (epoch ≡ t.epoch → seq ≤ last)

-- If the reply is to a put of this write, it does not say that it is written.
abbrev pub IsNotWritten : Txn → ℕ → Heard → Type 0
IsNotWritten t seq h = IsTrue (is_put_of t.id t.epoch seq h.request) → is_written h.reply ≡ false

-- The request asks for the write of this epoch and sequence, and the reply says that it stands.
abbrev pub finds : TxnId → ℕ → ℕ → Request → Reply → Bool
finds id epoch seq (requests.Query other at n ts key by) replies.Found = same_txn other id && (at == epoch && n == seq)
finds id epoch seq _ _ = false

-- The write, where it is the one of this sequence, is proved.
abbrev pub IsProvedAt : ℕ → Write → Type 0
IsProvedAt seq w = w.seq ≡ seq → IsTrue (is_proved w)

-- If a query found a write of the transaction, its epoch is not a later one, and in this epoch it was sent and is proved.
abbrev pub IsFoundProved : Txn → Heard → Type 0
IsFoundProved t h =
    (epoch seq : ℕ) → IsTrue (finds t.id epoch seq h.request h.reply)
    → (epoch ≤ t.epoch) × (epoch ≡ t.epoch → (seq ≤ last_seq_of t.writes) × All (IsProvedAt seq) t.writes)

-- A put of the write was sent.
abbrev pub WasWriteSent : Txn → List Sent → Write → Type 0
WasWriteSent t sent w = Any (λ m. IsTrue (is_put_of t.id t.epoch w.seq m.request)) sent

-- The write of this sequence went out at this timestamp.
abbrev pub WasAskedAt : Txn → ℕ → ℕ → Type 0
WasAskedAt t seq ts = Any (λ w. (w.seq ≡ seq) × Contains w.asked ts) t.writes

-- The write, where it is not proved, was not heard to be written.
abbrev pub IsUnwrittenWhereUnproved : Txn → List Heard → Write → Type 0
IsUnwrittenWhereUnproved t heard w = IsTrue (not (is_proved w)) → All (IsNotWritten t w.seq) heard

-- The write, where it is proved, was proved by a reply that was heard.
abbrev pub IsProvedByHeard : Txn → List Heard → Write → Type 0
IsProvedByHeard t heard w = IsTrue (is_proved w) → IsTrue (list_any (proves t w) heard)

-- The key of the write is one of the locks.
abbrev pub IsKeyLocked : List (List ℕ) → Write → Type 0
IsKeyLocked locks w = with_lock w.key locks ≡ locks

-- The one write is earlier than the other.
abbrev pub IsEarlier : Write → Write → Type 0
IsEarlier w later = w.seq < later.seq

-- The writes stand by sequence.
abbrev pub AreEarlierFirst : List Write → Type 0
AreEarlierFirst writes = Pairwise IsEarlier writes

-- The writes of the epoch are by sequence; a put of each was sent; one that is not proved was not heard to be written, and one that
-- is was heard to be; the keys of all are locked; and a transaction without an anchor has written nothing.
pub record WritesStand (sent : List Sent) (heard : List Heard) (t : Txn) : Type 0 where
  pub by_sequence : AreEarlierFirst t.writes
  pub each_sent : All (WasWriteSent t sent) t.writes
  pub unwritten : All (IsUnwrittenWhereUnproved t heard) t.writes
  pub heard_proved : All (IsProvedByHeard t heard) t.writes
  pub locked : All (IsKeyLocked t.locks) t.writes
  pub unanchored : t.anchor ≡ None → t.writes ≡ []
