-- The writes of a transaction's present epoch, and how they were proved. Write pipelining in CockroachDB SIGMOD 2020 and RFC 20180324.
use Rattle.std.specs.Prelude.{ℕ, ◌≤◌, max, fold, Bool, true, ◌&&◌, ◌==◌, not, if◌then◌else◌, Option, None, Some, List, [], ◌∷◌, ◌++◌, map, Any, filter}
use Rattle.std.specs.List.{list_any}
use Rattle.pc_base.specs.declared.transaction.TxnId.{TxnId}
use Rattle.pc_base.specs.Span.{same_key}
use Rattle.pc_base.specs.Transaction.{same_txn}
use Rattle.pc_proto.specs.declared.answer.Answer.{Answer}
use Rattle.pc_proto.specs.declared.answer.Answer.TheVariants as answers
use Rattle.pc_proto.specs.declared.reply.Reply.{Reply}
use Rattle.pc_proto.specs.declared.reply.Reply.TheVariants as replies
use Rattle.pc_proto.specs.declared.request.Request.{Request}
use Rattle.pc_proto.specs.declared.request.Request.TheVariants as requests
use Rattle.pc_world.specs.Known.Traffic.{Heard}

-- A write: what it lays under which sequence, the timestamps at which it was sent, and those at which it was proved.
pub record Write : Type 0 where
  pub key : List ℕ
  pub seq : ℕ
  pub value : Option (List ℕ)
  pub asked : List ℕ
  pub proofs : List ℕ

-- A write is proved once a reply says that it stands.
abbrev pub is_proved : Write → Bool
is_proved w = list_any (λ ts. true) w.proofs

-- Some proof is at or below this timestamp.
abbrev pub IsProvedBy : ℕ → Write → Type 0
IsProvedBy ts w = Any (λ proof. proof ≤ ts) w.proofs

-- The writes that are not proved yet.
abbrev pub unproved : List Write → List Write
unproved writes = filter (λ w. not (is_proved w)) writes

-- The writes as a staging record lists them.
abbrev pub listed_as : List Write → List (List ℕ × ℕ)
listed_as writes = map (λ w. (w.key, w.seq)) writes

-- The write sent once more, at this timestamp.
abbrev pub asked_again : ℕ → ℕ → Write → Write
asked_again seq ts w = if w.seq == seq then record w { asked = w.asked ++ ts ∷ [] } else w

-- The writes after one of them was sent: a new one stands last, one that was sent before is sent once more.
abbrev pub with_put : ℕ → ℕ → List ℕ → Option (List ℕ) → List Write → List Write
with_put seq ts key value writes =
    if list_any (λ w. w.seq == seq) writes then map (asked_again seq ts) writes
    else writes ++ record { key = key; seq = seq; value = value; asked = ts ∷ []; proofs = [] } ∷ []

-- The write of this key and sequence, proved at this timestamp.
abbrev pub proved_at : List ℕ → ℕ → ℕ → Write → Write
proved_at key seq ts w =
    if w.seq == seq && same_key w.key key then record w { proofs = w.proofs ++ ts ∷ [] } else w

-- A reply to a put of the transaction's epoch proves its write where it says written.
abbrev pub with_put_reply : List ℕ → ℕ → Reply → List Write → List Write
with_put_reply key seq (replies.Written ts) writes = map (proved_at key seq ts) writes
with_put_reply key seq _ writes = writes

-- A reply to a query of the transaction's epoch proves its write where it says found.
abbrev pub with_query_reply : List ℕ → ℕ → ℕ → Reply → List Write → List Write
with_query_reply key seq ts replies.Found writes = map (proved_at key seq ts) writes
with_query_reply key seq ts _ writes = writes

-- The epoch's writes after the session sent a message.
abbrev pub writes_sent : TxnId → ℕ → Request → List Write → List Write
writes_sent id epoch (requests.Put meta seq ts key value) writes =
    if same_txn meta.id id && meta.epoch == epoch then with_put seq ts key value writes else writes
writes_sent id epoch _ writes = writes

-- The epoch's writes after this reply to this request was heard.
abbrev pub writes_replied : TxnId → ℕ → Request → Reply → List Write → List Write
writes_replied id epoch (requests.Put meta seq ts key value) reply writes =
    if same_txn meta.id id && meta.epoch == epoch then with_put_reply key seq reply writes else writes
writes_replied id epoch (requests.Query other at_epoch seq ts key by) reply writes =
    if same_txn other id && at_epoch == epoch then with_query_reply key seq ts reply writes else writes
writes_replied id epoch _ reply writes = writes

-- The epoch's writes after a reply was heard, if one was.
abbrev pub writes_heard : TxnId → ℕ → Option Heard → List Write → List Write
writes_heard id epoch None writes = writes
writes_heard id epoch (Some h) writes = writes_replied id epoch h.request h.reply writes

-- A restart begins an epoch without writes.
abbrev pub writes_told : Answer → List Write → List Write
writes_told (answers.Restart key ts) writes = []
writes_told _ writes = writes

-- The sequence of the epoch's last write, 0 where there is none.
abbrev pub last_seq_of : List Write → ℕ
last_seq_of writes = fold (λ most w. max most w.seq) 0 writes
