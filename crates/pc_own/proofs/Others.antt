-- What an entry leaves as it is: every transaction but the one that it is for.
use Rattle.std.proofs.Common.{◌≡◌, ◌≢◌, ℕ, ◌==◌, ◌&&◌, max, false, if◌then◌else◌, List, None, Some, ap, sym, ◌∙◌, refl, arith}
use Rattle.std.proofs.lemmas.Bool.{and_right, ne_eqb}
use Rattle.std.specs.Option.{option_or}
use Rattle.pc_base.specs.declared.transaction.TxnId.{TxnId}
use Rattle.pc_base.specs.Transaction.{same_txn}
use Rattle.pc_own.specs.Changes.{raised_by, writer_of}
use Rattle.pc_proto.specs.declared.reply.Reply.{Reply}
use Rattle.pc_proto.specs.declared.request.Request.{Request}
use Rattle.pc_proto.specs.declared.request.Request.TheVariants as requests
use Rattle.pc_proto.specs.Replies.{status_ts, written_ts}
use Rattle.pc_world.specs.Known.Traffic.{Heard, Sent}
use Rattle.pc_world.specs.Known.Transactions.{Txn, has_staged, missing_ts, raised_to, txn_heard, txn_sent, with_lock}
use Rattle.pc_world.specs.Known.Writes.{with_put, with_put_reply, with_query_reply, writes_replied}

other-txn : (id other : TxnId) (n : ℕ) → id.number ≡ n → other.number ≢ n → same_txn id other ≡ false
other-txn id other n is differs =
    and_right (id.session == other.session) (id.number == other.number) (ne_eqb id.number other.number (λ e. differs (sym e ∙ is)))

some-is : (a n : ℕ) → Some a ≡ Some n → a ≡ n
some-is a n e = cc

-- the same timestamp
no-rise : (t : Txn) → record t { write_ts = max t.write_ts 0 } ≡ t
no-rise t = ap (λ n. record t { write_ts = n }) zero-least
  where
    zero-least : max t.write_ts 0 ≡ t.write_ts
    zero-least = omega arith

-- a message changes one transaction
pub sent_other : (request : Request) (n : ℕ) → writer_of request ≡ Some n → (t : Txn) → t.id.number ≢ n → txn_sent request t ≡ t
sent_other (requests.Put meta seq ts key value) n is t differs =
    ap (λ b. record t { anchor = if b then option_or t.anchor (Some key) else t.anchor; locks = if b then with_lock key t.locks else t.locks; writes = if b && meta.epoch == t.epoch then with_put seq ts key value t.writes else t.writes })
    (other-txn meta.id t.id n (some-is meta.id.number n is) differs)
sent_other (requests.Stage meta ts now writes locks) n is t differs =
    ap (λ b. record t { read_ts = if b then max t.read_ts ts else t.read_ts }) (other-txn meta.id t.id n (some-is meta.id.number n is) differs)
sent_other (requests.Commit meta ts locks) n is t differs =
    ap (λ b. record t { read_ts = if b then max t.read_ts ts else t.read_ts }) (other-txn meta.id t.id n (some-is meta.id.number n is) differs)
sent_other (requests.Get id epoch seq ts key) n is t differs = refl
sent_other (requests.Scan id epoch seq ts span) n is t differs = refl
sent_other (requests.Refresh id from to span) n is t differs = refl
sent_other (requests.Beat meta ts now) n is t differs = refl
sent_other (requests.Abort meta why locks) n is t differs = refl
sent_other (requests.Push holder by level now goal) n is t differs = refl
sent_other (requests.Query id epoch seq ts key by) n is t differs = refl
sent_other (requests.Recover id epoch ts anchor finding) n is t differs = refl
sent_other (requests.Resolve id key fate) n is t differs = refl
sent_other (requests.Remove id anchor) n is t differs = refl
sent_other requests.Records n is t differs = refl

-- or none
pub sent_none : (request : Request) → writer_of request ≡ None → (t : Txn) → txn_sent request t ≡ t
sent_none (requests.Put meta seq ts key value) is t = absurd cc
sent_none (requests.Stage meta ts now writes locks) is t = absurd cc
sent_none (requests.Commit meta ts locks) is t = absurd cc
sent_none (requests.Get id epoch seq ts key) is t = refl
sent_none (requests.Scan id epoch seq ts span) is t = refl
sent_none (requests.Refresh id from to span) is t = refl
sent_none (requests.Beat meta ts now) is t = refl
sent_none (requests.Abort meta why locks) is t = refl
sent_none (requests.Push holder by level now goal) is t = refl
sent_none (requests.Query id epoch seq ts key by) is t = refl
sent_none (requests.Recover id epoch ts anchor finding) is t = refl
sent_none (requests.Resolve id key fate) is t = refl
sent_none (requests.Remove id anchor) is t = refl
sent_none requests.Records is t = refl

-- The transaction after this reply to this request.
abbrev after : List Sent → Request → Reply → Txn → Txn
after sent request reply t = record t { write_ts = max t.write_ts (raised_to t.id sent request reply); writes = writes_replied t.id t.epoch request reply t.writes }

heard-other : (sent : List Sent) (request : Request) (reply : Reply) (n : ℕ) → raised_by request ≡ Some n → (t : Txn) → t.id.number ≢ n → after sent request reply t ≡ t
heard-other sent (requests.Put meta seq ts key value) reply n is t differs =
    ap (λ b. record t { write_ts = max t.write_ts (if b then written_ts reply else 0); writes = if b && meta.epoch == t.epoch then with_put_reply key seq reply t.writes else t.writes })
    (other-txn meta.id t.id n (some-is meta.id.number n is) differs)
    ∙ no-rise t
heard-other sent (requests.Beat meta ts now) reply n is t differs =
    ap (λ b. record t { write_ts = max t.write_ts (if b then status_ts reply else 0) }) (other-txn meta.id t.id n (some-is meta.id.number n is) differs) ∙ no-rise t
heard-other sent (requests.Stage meta ts now writes locks) reply n is t differs =
    ap (λ b. record t { write_ts = max t.write_ts (if b then status_ts reply else 0) }) (other-txn meta.id t.id n (some-is meta.id.number n is) differs) ∙ no-rise t
heard-other sent (requests.Commit meta ts locks) reply n is t differs =
    ap (λ b. record t { write_ts = max t.write_ts (if b then status_ts reply else 0) }) (other-txn meta.id t.id n (some-is meta.id.number n is) differs) ∙ no-rise t
heard-other sent (requests.Query id epoch seq ts key by) reply n is t differs =
    ap (λ b. record t { write_ts = max t.write_ts (if b then missing_ts (has_staged sent t.id epoch ts key seq) ts reply else 0); writes = if b && epoch == t.epoch then with_query_reply key seq ts reply t.writes else t.writes })
    (other-txn id t.id n (some-is id.number n is) differs)
    ∙ no-rise t
heard-other sent (requests.Get id epoch seq ts key) reply n is t differs = absurd cc
heard-other sent (requests.Scan id epoch seq ts span) reply n is t differs = absurd cc
heard-other sent (requests.Refresh id from to span) reply n is t differs = absurd cc
heard-other sent (requests.Abort meta why locks) reply n is t differs = absurd cc
heard-other sent (requests.Push holder by level now goal) reply n is t differs = absurd cc
heard-other sent (requests.Recover id epoch ts anchor finding) reply n is t differs = absurd cc
heard-other sent (requests.Resolve id key fate) reply n is t differs = absurd cc
heard-other sent (requests.Remove id anchor) reply n is t differs = absurd cc
heard-other sent requests.Records reply n is t differs = absurd cc

-- a reply changes one transaction
pub heard_other : (sent : List Sent) (h : Heard) (n : ℕ) → raised_by h.request ≡ Some n → (t : Txn) → t.id.number ≢ n → txn_heard sent (Some h) t ≡ t
heard_other sent h n is t differs = heard-other sent h.request h.reply n is t differs

heard-none : (sent : List Sent) (request : Request) (reply : Reply) → raised_by request ≡ None → (t : Txn) → after sent request reply t ≡ t
heard-none sent (requests.Put meta seq ts key value) reply is t = absurd cc
heard-none sent (requests.Beat meta ts now) reply is t = absurd cc
heard-none sent (requests.Stage meta ts now writes locks) reply is t = absurd cc
heard-none sent (requests.Commit meta ts locks) reply is t = absurd cc
heard-none sent (requests.Query id epoch seq ts key by) reply is t = absurd cc
heard-none sent (requests.Get id epoch seq ts key) reply is t = no-rise t
heard-none sent (requests.Scan id epoch seq ts span) reply is t = no-rise t
heard-none sent (requests.Refresh id from to span) reply is t = no-rise t
heard-none sent (requests.Abort meta why locks) reply is t = no-rise t
heard-none sent (requests.Push holder by level now goal) reply is t = no-rise t
heard-none sent (requests.Recover id epoch ts anchor finding) reply is t = no-rise t
heard-none sent (requests.Resolve id key fate) reply is t = no-rise t
heard-none sent (requests.Remove id anchor) reply is t = no-rise t
heard-none sent requests.Records reply is t = no-rise t

-- or none
pub heard_none : (sent : List Sent) (h : Heard) → raised_by h.request ≡ None → (t : Txn) → txn_heard sent (Some h) t ≡ t
heard_none sent h is t = heard-none sent h.request h.reply is t
