-- What a session knows of one of its transactions.
use Rattle.std.specs.Prelude.{◌≡◌, ℕ, ◌+◌, ◌≤◌, max, Bool, false, ◌&&◌, ◌==◌, if◌then◌else◌, Option, None, Some, List, [], ◌∷◌, All}
use Rattle.std.specs.List.{list_any}
use Rattle.std.specs.Option.{option_or}
use Rattle.pc_base.specs.declared.transaction.Priority.{Priority}
use Rattle.pc_base.specs.declared.transaction.TxnId.{TxnId}
use Rattle.pc_base.specs.Span.{key_below, same_key}
use Rattle.pc_base.specs.Transaction.{same_txn}
use Rattle.pc_proto.specs.declared.answer.Answer.{Answer}
use Rattle.pc_proto.specs.declared.answer.Answer.TheVariants as answers
use Rattle.pc_proto.specs.declared.meta.TxnMeta.{TxnMeta}
use Rattle.pc_proto.specs.declared.reply.Reply.{Reply}
use Rattle.pc_proto.specs.declared.reply.Reply.TheVariants as replies
use Rattle.pc_proto.specs.declared.request.Request.{Request}
use Rattle.pc_proto.specs.declared.request.Request.TheVariants as requests
use Rattle.pc_proto.specs.Replies.{status_ts, written_ts}
use Rattle.pc_world.specs.Known.Reads.{IsGoodAt, Read, reads_told}
use Rattle.pc_world.specs.Known.Traffic.{Heard, Sent}
use Rattle.pc_world.specs.Known.Writes.{Write, writes_heard, writes_sent, writes_told}

-- A transaction, as its session knows it.
pub record Txn : Type 0 where
  -- Its name.
  pub id : TxnId
  -- The priority that its begin asked for.
  pub priority : Priority
  -- The reading of the clock at its begin.
  pub born : ℕ
  -- The timestamp at which it began.
  pub begin : ℕ
  -- How often it was told to restart.
  pub epoch : ℕ
  -- The key of its first put, if it sent one.
  pub anchor : Option (List ℕ)
  -- All keys that it wrote, in key order.
  pub locks : List (List ℕ)
  -- The timestamp at which it writes now.
  pub write_ts : ℕ
  -- The timestamp at which it reads now.
  pub read_ts : ℕ
  -- The writes of its present epoch.
  pub writes : List Write
  -- The reads of its present epoch.
  pub reads : List Read
  -- The write that made it restart, where that was its last answer.
  pub restart : Option (List ℕ × ℕ)
  -- The timestamp at which it was told committed, if it was.
  pub committed : Option ℕ

-- A transaction that was just begun.
abbrev pub begun : TxnId → Priority → ℕ → ℕ → Txn
begun id priority born ts = record {
  id = id;
  priority = priority;
  born = born;
  begin = ts;
  epoch = 0;
  anchor = None;
  locks = [];
  write_ts = ts;
  read_ts = ts;
  writes = [];
  reads = [];
  restart = None;
  committed = None;
}

-- The list has the write of this key and sequence.
abbrev pub lists_write : List ℕ → ℕ → List (List ℕ × ℕ) → Bool
lists_write key seq writes = list_any (λ w. same_key w.0 key && w.1 == seq) writes

-- The message is a stage of the transaction, of this epoch and timestamp, that lists this write.
abbrev pub is_stage_of : TxnId → ℕ → ℕ → List ℕ → ℕ → Request → Bool
is_stage_of id epoch ts key seq (requests.Stage meta at now writes locks) =
    same_txn meta.id id && meta.epoch == epoch && (at == ts && lists_write key seq writes)
is_stage_of id epoch ts key seq _ = false

-- The transaction staged this write at this timestamp.
abbrev pub has_staged : List Sent → TxnId → ℕ → ℕ → List ℕ → ℕ → Bool
has_staged sent id epoch ts key seq = list_any (λ s. is_stage_of id epoch ts key seq s.request) sent

-- The timestamp after the staged one, where a write of the transaction's own stage is missing.
abbrev pub missing_ts : Bool → ℕ → Reply → ℕ
missing_ts staged ts replies.Missing = if staged then ts + 1 else 0
missing_ts staged ts _ = 0

-- How far a reply raises the transaction's write timestamp: to where a put was written, to where an unsettled record stands,
-- or past where a staged write is missing.
abbrev pub raised_to : TxnId → List Sent → Request → Reply → ℕ
raised_to id sent (requests.Put meta seq ts key value) reply = if same_txn meta.id id then written_ts reply else 0
raised_to id sent (requests.Beat meta ts now) reply = if same_txn meta.id id then status_ts reply else 0
raised_to id sent (requests.Stage meta ts now writes locks) reply = if same_txn meta.id id then status_ts reply else 0
raised_to id sent (requests.Commit meta ts locks) reply = if same_txn meta.id id then status_ts reply else 0
raised_to id sent (requests.Query other epoch seq ts key by) reply =
    if same_txn other id then missing_ts (has_staged sent id epoch ts key seq) ts reply else 0
raised_to id sent _ reply = 0

-- The transaction's write timestamp after a reply was heard, if one was.
abbrev pub write_ts_heard : TxnId → List Sent → Option Heard → ℕ → ℕ
write_ts_heard id sent None ts = ts
write_ts_heard id sent (Some h) ts = max ts (raised_to id sent h.request h.reply)

-- A stage or commit is sent at the timestamp to which its reads were refreshed.
abbrev pub read_ts_sent : TxnId → Request → ℕ → ℕ
read_ts_sent id (requests.Stage meta at now writes locks) ts = if same_txn meta.id id then max ts at else ts
read_ts_sent id (requests.Commit meta at locks) ts = if same_txn meta.id id then max ts at else ts
read_ts_sent id _ ts = ts

-- A restart goes on at the write timestamp.
abbrev pub read_ts_told : Answer → ℕ → ℕ → ℕ
read_ts_told (answers.Restart key at) write_ts ts = max ts write_ts
read_ts_told _ write_ts ts = ts

-- A restart begins the next epoch.
abbrev pub epoch_told : Answer → ℕ → ℕ
epoch_told (answers.Restart key ts) epoch = epoch + 1
epoch_told _ epoch = epoch

-- The key of the transaction's first put.
abbrev pub anchor_sent : TxnId → Request → Option (List ℕ) → Option (List ℕ)
anchor_sent id (requests.Put meta seq ts key value) anchor =
    if same_txn meta.id id then option_or anchor (Some key) else anchor
anchor_sent id _ anchor = anchor

-- The keys in order with one more, each once.
abbrev pub with_lock : List ℕ → List (List ℕ) → List (List ℕ)
with_lock key [] = key ∷ []
with_lock key (lock ∷ locks) =
    if key_below key lock then key ∷ lock ∷ locks
    else if same_key key lock then lock ∷ locks
    else lock ∷ with_lock key locks

-- All keys that the transaction wrote, after its session sent a message.
abbrev pub locks_sent : TxnId → Request → List (List ℕ) → List (List ℕ)
locks_sent id (requests.Put meta seq ts key value) locks = if same_txn meta.id id then with_lock key locks else locks
locks_sent id _ locks = locks

-- The write that makes the transaction restart, where the answer says so.
abbrev pub restart_told : Answer → Option (List ℕ × ℕ)
restart_told (answers.Restart key ts) = Some (key, ts)
restart_told _ = None

-- The timestamp at which the transaction was told committed, once it was.
abbrev pub committed_told : Answer → Option ℕ → Option ℕ
committed_told (answers.Committed id ts) committed = Some ts
committed_told _ committed = committed

-- The transaction after its session sent a message.
abbrev pub txn_sent : Request → Txn → Txn
txn_sent request t = record t {
  anchor = anchor_sent t.id request t.anchor;
  locks = locks_sent t.id request t.locks;
  read_ts = read_ts_sent t.id request t.read_ts;
  writes = writes_sent t.id t.epoch request t.writes;
}

-- The transaction after its session heard a reply.
abbrev pub txn_heard : List Sent → Option Heard → Txn → Txn
txn_heard sent h t = record t {
  write_ts = write_ts_heard t.id sent h t.write_ts;
  writes = writes_heard t.id t.epoch h t.writes;
}

-- The open transaction after it was told an answer.
abbrev pub txn_told : Answer → List Heard → Txn → Txn
txn_told answer replied t = record t {
  epoch = epoch_told answer t.epoch;
  read_ts = read_ts_told answer t.write_ts t.read_ts;
  writes = writes_told answer t.writes;
  reads = reads_told answer replied t.reads;
  restart = restart_told answer;
  committed = committed_told answer t.committed;
}

-- The transaction's meta, in its present epoch.
abbrev pub meta_of : Txn → List ℕ → TxnMeta
meta_of t anchor = record { id = t.id; epoch = t.epoch; priority = t.priority; born = t.born; anchor = anchor }

-- The meta is the transaction's.
pub record IsMetaOf (t : Txn) (meta : TxnMeta) : Type 0 where
  pub anchored : t.anchor ≡ Some meta.anchor
  pub same : meta ≡ meta_of t meta.anchor

-- Each read of the epoch is good at this timestamp, which is not below the begin timestamp.
pub record IsGood (heard : List Heard) (t : Txn) (ts : ℕ) : Type 0 where
  pub begun : t.begin ≤ ts
  pub reads : All (IsGoodAt t.id heard ts) t.reads
