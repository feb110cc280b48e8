-- What an actor knows, when every timestamp of its entries and of those that they name is at most this one.
use Rattle.std.proofs.Common.{ℕ, ◌≤◌, max, Bool, true, false, cond, List, [], ◌∷◌, fold, Option, None, Some, IfSome, arith}
use Rattle.std.specs.List.{AllByRecursion as Each}
use Rattle.std.specs.Option.{option_to_list}
use Rattle.pc_base.specs.declared.entry.Entry.{Entry}
use Rattle.pc_base.specs.declared.transaction.TxnId.{TxnId}
use Rattle.pc_history.specs.declared.pair.Pair.{Pair}
use Rattle.pc_lists.proofs.Each.{each-append, each-map, each-weaker}
use Rattle.pc_proto.specs.declared.answer.Answer.{Answer}
use Rattle.pc_proto.specs.declared.answer.Answer.TheVariants as answers
use Rattle.pc_proto.specs.declared.event.Event.{Event}
use Rattle.pc_proto.specs.declared.event.Event.TheVariants as events
use Rattle.pc_proto.specs.declared.reply.Reply.{Reply}
use Rattle.pc_proto.specs.declared.request.Request.{Request}
use Rattle.pc_proto.specs.Stamps.{answer_stamps, event_stamps, greatest_of, reply_stamps}
use Rattle.pc_world.proofs.Kept.Entries.{PairWithin}
use Rattle.pc_world.proofs.Stamps.Within.{AtMost}
use Rattle.pc_world.specs.Known.{Known, known_of, learn, nothing_known, told_first, txn_begun, txns_after, txns_told}
use Rattle.pc_world.specs.Known.Clock.{high_after, high_told, named_stamps, top_after}
use Rattle.pc_world.specs.Known.Statements.{Statement}
use Rattle.pc_world.specs.Known.Traffic.{Heard, Sent, heard_after, heard_as, heard_by, heard_now_after, reply_in, reply_named, replies_to, request_sent}
use Rattle.pc_world.specs.Known.Transactions.{Txn, restart_told, txn_heard, txn_sent}

abbrev pub HeardWithin : ℕ → Heard → Type 0
HeardWithin n h = AtMost n (reply_stamps h.reply)

abbrev pub RestartWithin : ℕ → Option (List ℕ × ℕ) → Type 0
RestartWithin n None = Unit {0}
RestartWithin n (Some w) = w.1 ≤ n

pub record TxnWithin (n : ℕ) (t : Txn) : Type 0 where
  pub begin : t.begin ≤ n
  pub restart : RestartWithin n t.restart

-- Every timestamp that the actor knows of is at most this one.
pub record KnownWithin (n : ℕ) (k : Known) : Type 0 where
  pub top : k.top ≤ n
  pub high : k.high ≤ n
  pub heard : Each (HeardWithin n) k.heard
  pub heard_now : Each (HeardWithin n) k.heard_now
  pub txns : Each (TxnWithin n) k.txns

module _ (n : ℕ) where
  last-from : (most : ℕ) (stamps : List ℕ) → most ≤ n → AtMost n stamps → fold (λ most ts. max most ts) most stamps ≤ n
  last-from most [] h a = h
  last-from most (ts ∷ stamps) h a = last-from (max most ts) stamps (omega (arith, a.0)) a.1

  pub last-within : (stamps : List ℕ) → AtMost n stamps → greatest_of stamps ≤ n
  last-within stamps a = last-from 0 stamps (omega arith) a

  top-within : (p : Pair Event) (top : ℕ) → PairWithin n p → top ≤ n → top_after p.entry.event p.named top ≤ n
  top-within p top a h = omega (arith, last-within (event_stamps p.entry.event) a.entry, last-within (named_stamps p.named) a.named)

  high-told : (answer : Answer) (high : ℕ) → AtMost n (answer_stamps answer) → high ≤ n → high_told answer high ≤ n
  high-told (answers.Begun id ts) high a h = omega (arith, a.0)
  high-told answer high a h = h

  high-within : (event : Event) (named : Option (Entry Event)) (high : ℕ) → AtMost n (event_stamps event) → AtMost n (named_stamps named) → high ≤ n → high_after event named high ≤ n
  high-within (events.Hear number step) named high a b h = omega (arith, last-within (named_stamps named) b)
  high-within (events.Meet id step) named high a b h = omega (arith, last-within (named_stamps named) b)
  high-within (events.Tell answer) named high a b h = high-told answer high a h
  high-within event named high a b h = h

  reply-in : (event : Event) → AtMost n (event_stamps event) → IfSome (reply_in event) (λ reply. AtMost n (reply_stamps reply))
  reply-in (events.Eval actor number reply) a = a
  reply-in event a = tt

  reply-named : (named : Option (Entry Event)) → AtMost n (named_stamps named) → IfSome (reply_named named) (λ reply. AtMost n (reply_stamps reply))
  reply-named None a = tt
  reply-named (Some e) a = reply-in e.event a

  heard-as : (number step : ℕ) (request : Option Request) (reply : Option Reply) → IfSome reply (λ reply. AtMost n (reply_stamps reply)) → IfSome (heard_as number step request reply) (HeardWithin n)
  heard-as number step (Some request) (Some reply) a = a
  heard-as number step (Some request) None a = tt
  heard-as number step None reply a = tt

  heard-by : (event : Event) (named : Option (Entry Event)) (sent : List Sent) → AtMost n (named_stamps named) → IfSome (heard_by event named sent) (HeardWithin n)
  heard-by (events.Hear number step) named sent a = heard-as number step (request_sent number sent) (reply_named named) (reply-named named a)
  heard-by event named sent a = tt

  to-list : (h : Option Heard) → IfSome h (HeardWithin n) → Each (HeardWithin n) (option_to_list h)
  to-list None a = tt
  to-list (Some h) a = (a, tt)

  heard-after : (h : Option Heard) (heard : List Heard) → IfSome h (HeardWithin n) → Each (HeardWithin n) heard → Each (HeardWithin n) (heard_after h heard)
  heard-after h heard a b = each-append (HeardWithin n) heard (option_to_list h) b (to-list h a)

  heard-now-after : (event : Event) (h : Option Heard) (heard : List Heard) → IfSome h (HeardWithin n) → Each (HeardWithin n) heard → Each (HeardWithin n) (heard_now_after event h heard)
  heard-now-after (events.Ask call reading) h heard a b = tt
  heard-now-after event h heard a b = heard-after h heard a b

  begun-by : (s : Option Statement) (id : TxnId) (ts : ℕ) → ts ≤ n → TxnWithin n (txn_begun s id ts)
  begun-by None id ts h = record { begin = h; restart = tt }
  begun-by (Some s) id ts h = record { begin = h; restart = tt }

  restart-told : (answer : Answer) → AtMost n (answer_stamps answer) → RestartWithin n (restart_told answer)
  restart-told (answers.Restart key ts) a = a.0
  restart-told answer a = tt

  told-first : (answer : Answer) (heard_now : List Heard) (txns : List Txn) → AtMost n (answer_stamps answer) → Each (TxnWithin n) txns → Each (TxnWithin n) (told_first answer heard_now txns)
  told-first answer heard_now [] a b = tt
  told-first answer heard_now (t ∷ ts) a b = (record { begin = b.0.begin; restart = restart-told answer a }, b.1)

  either-txns : (b : Bool) (one other : List Txn) → Each (TxnWithin n) one → Each (TxnWithin n) other → Each (TxnWithin n) (cond b one other)
  either-txns true one other a b = a
  either-txns false one other a b = b

  txns-told : (answer : Answer) (k : Known) → AtMost n (answer_stamps answer) → Each (TxnWithin n) k.txns → Each (TxnWithin n) (txns_told answer k)
  txns-told (answers.Begun id ts) k a b = (begun-by k.statement id ts a.0, b)
  txns-told answer k a b = let heard = replies_to k.sent_now k.heard_now in
      either-txns k.is_open (told_first answer heard k.txns) k.txns (told-first answer heard k.txns a b) b

  txns-within : (event : Event) (h : Option Heard) (k : Known) → AtMost n (event_stamps event) → Each (TxnWithin n) k.txns → Each (TxnWithin n) (txns_after event h k)
  txns-within (events.Send number range request) h k a b =
      each-map (TxnWithin n) (txn_sent request) k.txns
      (each-weaker (TxnWithin n) (λ t. TxnWithin n (txn_sent request t)) (λ t c. record { begin = c.begin; restart = c.restart }) k.txns b)
  txns-within (events.Hear number step) h k a b =
      each-map (TxnWithin n) (txn_heard k.sent h) k.txns
      (each-weaker (TxnWithin n) (λ t. TxnWithin n (txn_heard k.sent h t)) (λ t c. record { begin = c.begin; restart = c.restart }) k.txns b)
  txns-within (events.Tell answer) h k a b = txns-told answer k a b
  txns-within event h k a b = b

  learn-within : (p : Pair Event) (k : Known) → PairWithin n p → KnownWithin n k → KnownWithin n (learn p k)
  learn-within p k a b =
      let h = heard_by p.entry.event p.named k.sent in
      let heard = heard-by p.entry.event p.named k.sent a.named in
      record {
        top = top-within p k.top a b.top;
        high = high-within p.entry.event p.named k.high a.entry a.named b.high;
        heard = heard-after h k.heard heard b.heard;
        heard_now = heard-now-after p.entry.event h k.heard_now heard b.heard_now;
        txns = txns-within p.entry.event h k a.entry b.txns;
      }

  known-from : (k : Known) (entries : List (Pair Event)) → KnownWithin n k → Each (PairWithin n) entries → KnownWithin n (fold (λ k p. learn p k) k entries)
  known-from k [] a b = a
  known-from k (p ∷ ps) a b = known-from (learn p k) ps (learn-within p k b.0 a) b.1

  pub known-within : (entries : List (Pair Event)) → Each (PairWithin n) entries → KnownWithin n (known_of entries)
  known-within entries a =
      known-from nothing_known entries (record { top = omega arith; high = omega arith; heard = tt; heard_now = tt; txns = tt }) a
