-- How far a reply raises a transaction's write timestamp, by the stages and commits of the transaction that it asks about.
use Rattle.std.proofs.Common.{◌≡◌, ℕ, max, Bool, true, false, if◌then◌else◌, List, Some, map, refl, ap, subst}
use Rattle.pc_base.specs.declared.transaction.TxnId.{TxnId}
use Rattle.pc_base.specs.Transaction.{same_txn}
use Rattle.pc_files.proofs.Narrow.{same_is}
use Rattle.pc_files.proofs.Views.{has_staged_of}
use Rattle.pc_files.specs.Filing.{deciding_of}
use Rattle.pc_knowledge.specs.Asking.{deciding_asked}
use Rattle.pc_proto.specs.declared.reply.Reply.{Reply}
use Rattle.pc_proto.specs.declared.request.Request.{Request}
use Rattle.pc_proto.specs.declared.request.Request.TheVariants as requests
use Rattle.pc_world.specs.Known.Traffic.{Heard, Sent}
use Rattle.pc_world.specs.Known.Transactions.{Txn, has_staged, missing_ts, raised_to, txn_heard}
use Rattle.pc_world.specs.Known.Writes.{writes_heard}

query-same : (id other : TxnId) (epoch seq ts : ℕ) (key : List ℕ) (sent : List Sent) (reply : Reply) (b : Bool) → same_txn other id ≡ b
    → (if b then missing_ts (has_staged (deciding_of other sent) id epoch ts key seq) ts reply else 0) ≡ (if b then missing_ts (has_staged sent id epoch ts key seq) ts reply else 0)
query-same id other epoch seq ts key sent reply true same =
    subst (λ (i : TxnId). missing_ts (has_staged (deciding_of other sent) i epoch ts key seq) ts reply ≡ missing_ts (has_staged sent i epoch ts key seq) ts reply) (same_is other id same)
    (ap (λ staged. missing_ts staged ts reply) (has_staged_of other sent epoch ts key seq))
query-same id other epoch seq ts key sent reply false same = refl

raised-same : (id : TxnId) (sent : List Sent) (request : Request) (reply : Reply) → raised_to id (deciding_asked request sent) request reply ≡ raised_to id sent request reply
raised-same id sent (requests.Query other epoch seq ts key by) reply = query-same id other epoch seq ts key sent reply (same_txn other id) refl
raised-same id sent _ reply = refl

-- the transactions after the reply was heard
pub heard_same : (sent : List Sent) (h : Heard) (txns : List Txn) → map (txn_heard (deciding_asked h.request sent) (Some h)) txns ≡ map (txn_heard sent (Some h)) txns
heard_same sent h txns = ap (λ (f : Txn → Txn). map f txns) (λ i t. one t i)
  where
    one : (t : Txn) → txn_heard (deciding_asked h.request sent) (Some h) t ≡ txn_heard sent (Some h) t
    one t = ap (λ n. record t { write_ts = max t.write_ts n; writes = writes_heard t.id t.epoch (Some h) t.writes }) (raised-same t.id sent h.request h.reply)
