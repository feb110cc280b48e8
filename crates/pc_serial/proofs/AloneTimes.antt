-- One session alone: what it knows, sends and hears is at or below the begin timestamp of the transaction that it began last.
use Rattle.std.proofs.Common.{◌≡◌, ℕ, ◌+◌, ◌*◌, ◌/◌, ◌^◌, ◌≤◌, ◌<◌, max, nat_lt, Bool, true, false, ◌==◌, ◌&&◌, cond, if◌then◌else◌, List, [], ◌∷◌, ◌++◌, count_by, map, inl, inr, Option, None, Some, IfSome, Contains, IsTrue, refl, ap, subst, arith}
use Rattle.std.proofs.lemmas.Bool.{ltb-true}
use Rattle.std.specs.List.{AllByRecursion as Each, list_any}
use Rattle.std.specs.Prelude.{⊤}
use Rattle.pc_base.specs.Clock.{clock_now}
use Rattle.pc_base.specs.declared.transaction.TxnId.{TxnId}
use Rattle.pc_base.specs.Span.{same_key}
use Rattle.pc_base.specs.Transaction.{same_txn}
use Rattle.pc_lists.proofs.Counts.{count-cons, one_if}
use Rattle.pc_lists.proofs.Each.{each-append, each-map, each-weaker}
use Rattle.pc_lists.proofs.Lists.{contains_head, contains_nil, contains_tail}
use Rattle.pc_proto.specs.declared.answer.Answer.{Answer}
use Rattle.pc_proto.specs.declared.answer.Answer.TheVariants as answers
use Rattle.pc_proto.specs.declared.fate.Fate.{Fate}
use Rattle.pc_proto.specs.declared.fate.Fate.TheVariants as fates
use Rattle.pc_proto.specs.declared.reply.Reply.{Reply}
use Rattle.pc_proto.specs.declared.reply.Reply.TheVariants as replies
use Rattle.pc_proto.specs.declared.request.Request.{Request}
use Rattle.pc_proto.specs.declared.request.Request.TheVariants as requests
use Rattle.pc_proto.specs.declared.view.View.{View}
use Rattle.pc_proto.specs.declared.view.View.TheVariants as views
use Rattle.pc_proto.specs.Replies.{is_conflict, is_conflict_with, status_ts, view_in, written_ts}
use Rattle.pc_proto.specs.Requests.{is_put_of}
use Rattle.pc_proto.specs.Stamps.{fate_stamps, reply_stamps, request_stamps, view_stamps}
use Rattle.pc_proto.specs.Views.{IsFateOf}
use Rattle.pc_world.proofs.Stamps.Within.{AtMost, at_most-more}
use Rattle.pc_world.specs.Known.{told_first}
use Rattle.pc_world.specs.Known.Traffic.{Heard, Sent}
use Rattle.pc_world.specs.Known.Transactions.{Txn, raised_to, txn_heard, txn_sent, txn_told}
use Rattle.pc_world.specs.Known.Writes.{Write, asked_again, proved_at, with_put, with_put_reply, with_query_reply, writes_replied, writes_sent}
use Rattle.pc_world.specs.Send.Recovery.{IsBlockedWrite, IsRefusedAfter, put_met}

-- The begin timestamp of the transaction that was begun last.
abbrev pub level : List Txn → ℕ
level [] = 0
level (t ∷ ts) = t.begin

-- Some transaction was begun.
abbrev pub HasBegun : List Txn → Type 0
HasBegun [] = ⊥
HasBegun (t ∷ ts) = ⊤

-- The transaction writes, reads and asked at or below the timestamp, and never had to restart.
pub record IsLowTxn (n : ℕ) (t : Txn) : Type 0 where
  pub write : t.write_ts ≤ n
  pub read : t.read_ts ≤ n
  pub asked : Each (λ w. AtMost n w.asked) t.writes
  pub unmoved : t.restart ≡ None

-- The transaction that was begun last writes and reads no lower than it began.
abbrev pub IsFirstHigh : List Txn → Type 0
IsFirstHigh [] = ⊤
IsFirstHigh (t ∷ ts) = (t.begin ≤ t.write_ts) × (t.begin ≤ t.read_ts)

-- The request is at or below the timestamp, and neither refreshes nor queries nor takes part in a round.
abbrev pub IsLowSent : ℕ → Request → Type 0
IsLowSent n (requests.Refresh id from to span) = ⊥
IsLowSent n (requests.Query id epoch seq ts key by) = ⊥
IsLowSent n request = AtMost n (request_stamps request)

pub low_sent-more : (n m : ℕ) (request : Request) → n ≤ m → IsLowSent n request → IsLowSent m request
low_sent-more n m (requests.Refresh id from to span) le low = low
low_sent-more n m (requests.Query id epoch seq ts key by) le low = low
low_sent-more n m request le low = at_most-more n m (request_stamps request) le low

pub clock_rises : (reading high : ℕ) → high < clock_now reading high
clock_rises reading high = by (nat_lt (high / 2 ^ 32) reading) refl
  where
    by : (b : Bool) → nat_lt (high / 2 ^ 32) reading ≡ b → high < cond b (reading * 2 ^ 32) (high + 1)
    by true e = let low : high / 2 ^ 32 < reading = ltb-true (high / 2 ^ 32) reading e in omega arith
    by false e = omega arith

-- ---- a blocked write met intents

put-met-none : (id : TxnId) (epoch seq : ℕ) (heard : List Heard) → ((h : Heard) → Contains heard h → is_conflict h.reply ≡ false) → count_by (put_met id epoch seq) heard ≡ 0
put-met-none id epoch seq [] clear = refl
put-met-none id epoch seq (h ∷ heard) clear =
    let rest = put-met-none id epoch seq heard (λ x there. clear x (contains_tail h heard x there)) in
    let none : put_met id epoch seq h ≡ false = by (is_put_of id epoch seq h.request) (clear h (contains_head h heard)) in
    omega (arith, count-cons (put_met id epoch seq) h heard, rest, zero-if none)
  where
    by : (b : Bool) → is_conflict h.reply ≡ false → (b && is_conflict h.reply) ≡ false
    by true is = is
    by false is = refl

    zero-if : put_met id epoch seq h ≡ false → (one_if (put_met id epoch seq h)) ≡ 0
    zero-if is = ap (λ b. one_if b) is

refused-none : (id : TxnId) (epoch seq : ℕ) (heard : List Heard) → ((h : Heard) → Contains heard h → is_conflict h.reply ≡ false) → IsRefusedAfter id epoch seq heard → ⊥
refused-none id epoch seq [] clear is = is
refused-none id epoch seq (h ∷ heard) clear (inl here) = by h.reply (clear h (contains_head h heard)) here.1.0 here.1.1
  where
    by : (told : Reply) → is_conflict told ≡ false → (holder : TxnId) → IsTrue (is_conflict_with holder told) → ⊥
    by (replies.Conflict other ts key) clear holder is = cc clear
    by told clear holder is = cc is
refused-none id epoch seq (h ∷ heard) clear (inr later) = refused-none id epoch seq heard (λ x there. clear x (contains_tail h heard x there)) later

pub blocked_none : (id : TxnId) (epoch seq : ℕ) (heard : List Heard) → ((h : Heard) → Contains heard h → is_conflict h.reply ≡ false) → IsBlockedWrite heard id epoch seq → ⊥
blocked_none id epoch seq heard clear (inl refused) = refused-none id epoch seq heard clear refused
blocked_none id epoch seq heard clear (inr eight) = let none = put-met-none id epoch seq heard clear in absurd (let nothing : ⊥ = omega (arith, eight, none) in nothing)

-- ---- what a transaction is after an event

module _ (n : ℕ) where
  asked-more : (seq ts : ℕ) (writes : List Write) → ts ≤ n → Each (λ w. AtMost n w.asked) writes → Each (λ w. AtMost n w.asked) (map (asked_again seq ts) writes)
  asked-more seq ts writes low a = each-map (λ (w : Write). AtMost n w.asked) (asked_again seq ts) writes (each-weaker (λ (w : Write). AtMost n w.asked) (λ w. AtMost n (asked_again seq ts w).asked) one writes a)
    where
      one : (w : Write) → AtMost n w.asked → AtMost n (asked_again seq ts w).asked
      one w is = by (w.seq == seq)
        where
          by : (b : Bool) → AtMost n (if b then record w { asked = w.asked ++ ts ∷ [] } else w).asked
          by true = each-append (λ t. t ≤ n) w.asked (ts ∷ []) is (low, tt)
          by false = is

  put-asked : (seq ts : ℕ) (key : List ℕ) (value : Option (List ℕ)) (writes : List Write) → ts ≤ n → Each (λ w. AtMost n w.asked) writes → Each (λ w. AtMost n w.asked) (with_put seq ts key value writes)
  put-asked seq ts key value writes low a = by (list_any (λ w. w.seq == seq) writes)
    where
      by : (b : Bool) → Each (λ w. AtMost n w.asked) (if b then map (asked_again seq ts) writes else writes ++ record { key = key; seq = seq; value = value; asked = ts ∷ []; proofs = [] } ∷ [])
      by true = asked-more seq ts writes low a
      by false = each-append (λ (w : Write). AtMost n w.asked) writes (record { key = key; seq = seq; value = value; asked = ts ∷ []; proofs = [] } ∷ []) a ((low, tt), tt)

  sent-asked : (id : TxnId) (epoch : ℕ) (request : Request) (writes : List Write) → IsLowSent n request → Each (λ w. AtMost n w.asked) writes → Each (λ w. AtMost n w.asked) (writes_sent id epoch request writes)
  sent-asked id epoch (requests.Put meta seq ts key value) writes low a = by (same_txn meta.id id && meta.epoch == epoch)
    where
      by : (b : Bool) → Each (λ w. AtMost n w.asked) (if b then with_put seq ts key value writes else writes)
      by true = put-asked seq ts key value writes low.0 a
      by false = a
  sent-asked id epoch request writes low a = a

  proved-asked : (key : List ℕ) (seq ts : ℕ) (writes : List Write) → Each (λ w. AtMost n w.asked) writes → Each (λ w. AtMost n w.asked) (map (proved_at key seq ts) writes)
  proved-asked key seq ts writes a = each-map (λ (w : Write). AtMost n w.asked) (proved_at key seq ts) writes (each-weaker (λ (w : Write). AtMost n w.asked) (λ w. AtMost n (proved_at key seq ts w).asked) one writes a)
    where
      one : (w : Write) → AtMost n w.asked → AtMost n (proved_at key seq ts w).asked
      one w is = by (w.seq == seq && same_key w.key key)
        where
          by : (b : Bool) → AtMost n (if b then record w { proofs = w.proofs ++ ts ∷ [] } else w).asked
          by true = is
          by false = is

  put-reply-asked : (key : List ℕ) (seq : ℕ) (told : Reply) (writes : List Write) → Each (λ w. AtMost n w.asked) writes → Each (λ w. AtMost n w.asked) (with_put_reply key seq told writes)
  put-reply-asked key seq (replies.Written ts) writes a = proved-asked key seq ts writes a
  put-reply-asked key seq told writes a = a

  query-reply-asked : (key : List ℕ) (seq ts : ℕ) (told : Reply) (writes : List Write) → Each (λ w. AtMost n w.asked) writes → Each (λ w. AtMost n w.asked) (with_query_reply key seq ts told writes)
  query-reply-asked key seq ts replies.Found writes a = proved-asked key seq ts writes a
  query-reply-asked key seq ts told writes a = a

  replied-asked : (id : TxnId) (epoch : ℕ) (request : Request) (told : Reply) (writes : List Write) → Each (λ w. AtMost n w.asked) writes → Each (λ w. AtMost n w.asked) (writes_replied id epoch request told writes)
  replied-asked id epoch (requests.Put meta seq ts key value) told writes a = by (same_txn meta.id id && meta.epoch == epoch)
    where
      by : (b : Bool) → Each (λ w. AtMost n w.asked) (if b then with_put_reply key seq told writes else writes)
      by true = put-reply-asked key seq told writes a
      by false = a
  replied-asked id epoch (requests.Query other at_epoch seq ts key by_who) told writes a = by (same_txn other id && at_epoch == epoch)
    where
      by : (b : Bool) → Each (λ w. AtMost n w.asked) (if b then with_query_reply key seq ts told writes else writes)
      by true = query-reply-asked key seq ts told writes a
      by false = a
  replied-asked id epoch request told writes a = a

  -- a message that is sent
  pub txn_sent-low : (request : Request) (t : Txn) → IsLowSent n request → IsLowTxn n t → IsLowTxn n (txn_sent request t)
  txn_sent-low request t low is = record { write = is.write; read = reads request low; asked = sent-asked t.id t.epoch request t.writes low is.asked; unmoved = is.unmoved }
    where
      max-low : (b : Bool) (at : ℕ) → at ≤ n → (if b then max t.read_ts at else t.read_ts) ≤ n
      max-low true at le = let r = is.read in omega (arith, r, le)
      max-low false at le = is.read

      reads : (request : Request) → IsLowSent n request → (txn_sent request t).read_ts ≤ n
      reads (requests.Stage meta at now writes locks) low = max-low (same_txn meta.id t.id) at low.0
      reads (requests.Commit meta at locks) low = max-low (same_txn meta.id t.id) at low.0
      reads request low = is.read

  written-low : (told : Reply) → AtMost n (reply_stamps told) → written_ts told ≤ n
  written-low (replies.Written ts) low = low.0
  written-low told low = omega arith

  undecided-low : (view : View) → AtMost n (view_stamps view) → status_ts (replies.Status view) ≤ n
  undecided-low (views.Pending epoch ts) low = low.0
  undecided-low (views.Staging epoch ts writes) low = low.0
  undecided-low view low = omega arith

  pub status-low : (told : Reply) → AtMost n (reply_stamps told) → status_ts told ≤ n
  status-low (replies.Status view) low = undecided-low view low
  status-low told low = omega arith

  either-low : (b : Bool) (m : ℕ) → m ≤ n → (if b then m else 0) ≤ n
  either-low true m le = le
  either-low false m le = omega arith

  raised-low : (id : TxnId) (sent : List Sent) (request : Request) (told : Reply) → IsLowSent n request → AtMost n (reply_stamps told) → raised_to id sent request told ≤ n
  raised-low id sent (requests.Put meta seq ts key value) told low at = either-low (same_txn meta.id id) (written_ts told) (written-low told at)
  raised-low id sent (requests.Beat meta ts now) told low at = either-low (same_txn meta.id id) (status_ts told) (status-low told at)
  raised-low id sent (requests.Stage meta ts now writes locks) told low at = either-low (same_txn meta.id id) (status_ts told) (status-low told at)
  raised-low id sent (requests.Commit meta ts locks) told low at = either-low (same_txn meta.id id) (status_ts told) (status-low told at)
  raised-low id sent (requests.Query other epoch seq ts key by) told low at = absurd low
  raised-low id sent request told low at = omega arith

  -- a reply that is heard
  pub txn_heard-low : (sent : List Sent) (h : Option Heard) (t : Txn) → IfSome h (λ h. IsLowSent n h.request × AtMost n (reply_stamps h.reply)) → IsLowTxn n t → IsLowTxn n (txn_heard sent h t)
  txn_heard-low sent None t low is = record { write = is.write; read = is.read; asked = is.asked; unmoved = is.unmoved }
  txn_heard-low sent (Some h) t low is = record {
    write = let r = raised-low t.id sent h.request h.reply low.0 low.1 in let w = is.write in omega (arith, r, w);
    read = is.read;
    asked = replied-asked t.id t.epoch h.request h.reply t.writes is.asked;
    unmoved = is.unmoved;
  }

  -- an answer that is told, but to restart
  pub txn_told-low : (answer : Answer) (replied : List Heard) (t : Txn) → ((key : List ℕ) (ts : ℕ) → answer ≡ answers.Restart key ts → ⊥) → IsLowTxn n t → IsLowTxn n (txn_told answer replied t)
  txn_told-low (answers.Restart key ts) replied t never is = absurd (never key ts refl)
  txn_told-low answer replied t never is = record { write = is.write; read = is.read; asked = is.asked; unmoved = refl }

  pub first_told-low : (answer : Answer) (replied : List Heard) (b : Bool) (txns : List Txn) → ((key : List ℕ) (ts : ℕ) → answer ≡ answers.Restart key ts → ⊥) → Each (IsLowTxn n) txns → Each (IsLowTxn n) (cond b (told_first answer replied txns) txns)
  first_told-low answer replied true [] never a = tt
  first_told-low answer replied true (t ∷ ts) never a = (txn_told-low answer replied t never a.0, a.1)
  first_told-low answer replied false txns never a = a

  -- a fate that was shown
  pub fate-low : (view : View) (fate : Fate) → IsFateOf view fate → AtMost n (view_stamps view) → AtMost n (fate_stamps fate)
  fate-low (views.Committed epoch ts locks) (fates.Committed at_epoch at) is low = let l = low.0 in let same = is.1 in (omega (arith, l, same), tt)
  fate-low (views.Aborted epoch why locks) fates.Aborted is low = tt
  fate-low (views.Pending epoch ts) (fates.Pending at) is low = let l = low.0 in (omega (arith, l, is), tt)
  fate-low (views.Staging epoch ts writes) (fates.Pending at) is low = let l = low.0 in (omega (arith, l, is), tt)
  fate-low view fate is low = absurd is

  pub viewed-low : (told : Reply) (view : View) → view_in told ≡ Some view → AtMost n (reply_stamps told) → AtMost n (view_stamps view)
  viewed-low (replies.Status own) view is low = let same : own ≡ view = cc in subst (λ v. AtMost n (view_stamps v)) same low
  viewed-low (replies.Refused own) view is low = let same : own ≡ view = cc in subst (λ v. AtMost n (view_stamps v)) same low
  viewed-low (replies.Unsure own) view is low = let same : own ≡ view = cc in subst (λ v. AtMost n (view_stamps v)) same low
  viewed-low told view is low = absurd cc

-- what is raised is no lower
pub first_sent-high : (request : Request) (txns : List Txn) → IsFirstHigh txns → IsFirstHigh (map (txn_sent request) txns)
first_sent-high request [] high = tt
first_sent-high request (t ∷ ts) high = (high.0, reads request)
  where
    max-high : (b : Bool) (at : ℕ) → t.begin ≤ (if b then max t.read_ts at else t.read_ts)
    max-high true at = let r = high.1 in omega (arith, r)
    max-high false at = high.1

    reads : (request : Request) → t.begin ≤ (txn_sent request t).read_ts
    reads (requests.Stage meta at now writes locks) = max-high (same_txn meta.id t.id) at
    reads (requests.Commit meta at locks) = max-high (same_txn meta.id t.id) at
    reads request = high.1

pub first_heard-high : (sent : List Sent) (h : Option Heard) (txns : List Txn) → IsFirstHigh txns → IsFirstHigh (map (txn_heard sent h) txns)
first_heard-high sent h [] high = tt
first_heard-high sent None (t ∷ ts) high = high
first_heard-high sent (Some h) (t ∷ ts) high = (let w = high.0 in omega (arith, w), high.1)

pub first_told-high : (answer : Answer) (replied : List Heard) (b : Bool) (txns : List Txn) → IsFirstHigh txns → IsFirstHigh (cond b (told_first answer replied txns) txns)
first_told-high answer replied true [] high = tt
first_told-high (answers.Restart key ts) replied true (t ∷ ts_) high = (high.0, let r = high.1 in omega (arith, r))
first_told-high answer replied true (t ∷ ts) high = high
first_told-high answer replied false txns high = high

pub level_map : (f : Txn → Txn) → ((t : Txn) → (f t).begin ≡ t.begin) → (txns : List Txn) → level (map f txns) ≡ level txns
level_map f same [] = refl
level_map f same (t ∷ ts) = same t

pub level_told : (answer : Answer) (replied : List Heard) (b : Bool) (txns : List Txn) → level (cond b (told_first answer replied txns) txns) ≡ level txns
level_told answer replied true [] = refl
level_told answer replied true (t ∷ ts) = refl
level_told answer replied false txns = refl

pub has_begun : (txns : List Txn) (t : Txn) → Contains txns t → HasBegun txns
has_begun [] t there = contains_nil t there
has_begun (x ∷ xs) t there = tt

pub has_begun-map : (f : Txn → Txn) (txns : List Txn) → HasBegun txns → HasBegun (map f txns)
has_begun-map f [] h = h
has_begun-map f (t ∷ ts) h = tt

pub has_begun-told : (answer : Answer) (replied : List Heard) (b : Bool) (txns : List Txn) → HasBegun txns → HasBegun (cond b (told_first answer replied txns) txns)
has_begun-told answer replied b [] h = absurd h
has_begun-told answer replied true (t ∷ ts) h = tt
has_begun-told answer replied false (t ∷ ts) h = tt
