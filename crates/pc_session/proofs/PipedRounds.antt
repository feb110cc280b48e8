-- How far the rounds of a call are, where writes are pipelined, after one more message or reply of the call itself.
use Rattle.std.proofs.Common.{◌≡◌, Bool, true, false, cond, ◌&&◌, IsTrue, ℕ, List, [], ◌∷◌, ◌++◌, fold, map, Option, None, Some, refl, sym, ap, ◌∙◌}
use Rattle.std.proofs.lemmas.Grind.{fold-append}
use Rattle.std.proofs.lemmas.List.{append_assoc}
use Rattle.pc_base.specs.declared.transaction.TxnId.{TxnId}
use Rattle.pc_coord.specs.Rounds.{EndsAtLast, EndsWithReply}
use Rattle.pc_follows.specs.OwnStages.{refuses_stage}
use Rattle.pc_follows.specs.RoundOrder.{with_waiting}
use Rattle.pc_follows.specs.RoundsMade.{RoundCount, all_passed, gone_on, is_open_one, no_rounds, one_over, rounds_after, rounds_by, rounds_made, with_conflict}
use Rattle.pc_proto.specs.declared.reply.Reply.{Reply}
use Rattle.pc_proto.specs.declared.reply.Reply.TheVariants as replies
use Rattle.pc_proto.specs.declared.request.Request.{Request}
use Rattle.pc_proto.specs.declared.request.Request.TheVariants as requests
use Rattle.pc_proto.specs.Replies.{is_conflict}
use Rattle.pc_proto.specs.Requests.{is_push_of}
use Rattle.pc_session.proofs.Knowing.{with_heard, with_sent}
use Rattle.pc_world.specs.Known.{Known, first_if, open_txn}
use Rattle.pc_world.specs.Known.Traffic.{Heard}
use Rattle.pc_world.specs.Known.Transactions.{Txn, txn_heard, txn_sent}

-- ---- the rounds go by the name of the open transaction alone

by_open : (o p : Option Txn) → ((id : TxnId) → is_open_one o id ≡ is_open_one p id) → (h : Heard) (q : Request) (reply : Reply) (r : RoundCount) → rounds_by o h q reply r ≡ rounds_by p h q reply r
by_open o p same h (requests.Query id epoch seq ts key by) replies.Found r = ap (λ b. cond b (one_over r) r) (same id)
by_open o p same h q reply r = refl

rounds_open : (o p : Option Txn) → ((id : TxnId) → is_open_one o id ≡ is_open_one p id) → (hs : List Heard) (r : RoundCount) → fold (rounds_after o) r hs ≡ fold (rounds_after p) r hs
rounds_open o p same [] r = refl
rounds_open o p same (h ∷ hs) r =
    ap (λ r. fold (rounds_after o) r hs) (by_open o p same h h.request h.reply (with_conflict h r)) ∙ rounds_open o p same hs (rounds_after p r h)

-- a change that leaves the transactions their names leaves the open one its name
pub still_open : (f : Txn → Txn) → ((t : Txn) → (f t).id ≡ t.id) → (b : Bool) (ts : List Txn) (id : TxnId) → is_open_one (first_if b (map f ts)) id ≡ is_open_one (first_if b ts) id
still_open f kept true [] id = refl
still_open f kept false [] id = refl
still_open f kept false (t ∷ ts) id = refl
still_open f kept true (t ∷ ts) id = ap (λ i. is_open_one (Some (record t { id = i })) id) (kept t)

-- ---- a message goes out

pub rounds_sent : (number range : ℕ) (request : Request) (k : Known) → rounds_made (with_sent number range request k) ≡ rounds_made k
rounds_sent number range request k =
    rounds_open (open_txn (with_sent number range request k)) (open_txn k) (still_open (txn_sent request) (λ t. refl) k.is_open k.txns) k.heard_now no_rounds

-- ---- a reply is heard

-- The reply to the request leaves the rounds as they are, but for the conflict that it may be.
abbrev pub leaves_rounds : Request → Bool
leaves_rounds (requests.Get id epoch seq ts key) = true
leaves_rounds (requests.Scan id epoch seq ts span) = true
leaves_rounds (requests.Put meta seq ts key value) = true
leaves_rounds (requests.Refresh id from to span) = true
leaves_rounds (requests.Commit meta ts locks) = true
leaves_rounds (requests.Abort meta why locks) = true
leaves_rounds (requests.Beat meta ts now) = true
leaves_rounds request = false

by_leaves : (o : Option Txn) (h : Heard) (q : Request) (reply : Reply) (r : RoundCount) → leaves_rounds q ≡ true → ((rounds_by o h q reply r).waiting ≡ r.waiting) × ((rounds_by o h q reply r).push ≡ r.push)
by_leaves o h (requests.Get id epoch seq ts key) reply r is = (refl, refl)
by_leaves o h (requests.Scan id epoch seq ts span) reply r is = (refl, refl)
by_leaves o h (requests.Put meta seq ts key value) reply r is = (refl, refl)
by_leaves o h (requests.Refresh id from to span) reply r is = (refl, refl)
by_leaves o h (requests.Commit meta ts locks) reply r is = (refl, refl)
by_leaves o h (requests.Abort meta why locks) reply r is = (refl, refl)
by_leaves o h (requests.Beat meta ts now) reply r is = (refl, refl)
by_leaves o h q reply r is = absurd cc

pub rounds_heard : (h : Heard) (k : Known) → rounds_made (with_heard h k) ≡ rounds_after (open_txn k) (rounds_made k) h
rounds_heard h k =
    rounds_open (open_txn (with_heard h k)) (open_txn k) (still_open (txn_heard k.sent (Some h)) (λ t. refl) k.is_open k.txns) (k.heard_now ++ h ∷ []) no_rounds
    ∙ fold-append (rounds_after (open_txn k)) no_rounds k.heard_now (h ∷ [])

module _ (h : Heard) (k : Known) (leaves : leaves_rounds h.request ≡ true) where
  pub waiting_heard : (rounds_made (with_heard h k)).waiting ≡ cond (is_conflict h.reply) (with_waiting h (rounds_made k).waiting) (rounds_made k).waiting
  waiting_heard = ap (λ (r : RoundCount). r.waiting) (rounds_heard h k) ∙ (by_leaves (open_txn k) h h.request h.reply (with_conflict h (rounds_made k)) leaves).0

  pub push_heard : (rounds_made (with_heard h k)).push ≡ (rounds_made k).push
  push_heard = ap (λ (r : RoundCount). r.push) (rounds_heard h k) ∙ (by_leaves (open_txn k) h h.request h.reply (with_conflict h (rounds_made k)) leaves).1

-- ---- no reply to a message of the call leaves a recovery behind

-- The request recovers nothing.
abbrev pub recovers_none : Request → Bool
recovers_none (requests.Recover id epoch ts anchor finding) = false
recovers_none request = true

by_unrecovered : (o : Option Txn) (h : Heard) (q : Request) (reply : Reply) (r : RoundCount) → recovers_none q ≡ true → r.recovered ≡ None → (rounds_by o h q reply r).recovered ≡ None
by_unrecovered o h (requests.Recover id epoch ts anchor finding) reply r is none = absurd cc
by_unrecovered o h (requests.Resolve id key fate) replies.Resolved r is none = refl
by_unrecovered o h (requests.Query id epoch seq ts key by) replies.Found r is none = elim (is_open_one o id) as (λ b. (cond b (one_over r) r).recovered ≡ None) [ true ↦ refl | false ↦ none ]
by_unrecovered o h (requests.Stage meta ts now writes locks) reply r is none =
    elim (refuses_stage (requests.Stage meta ts now writes locks) reply) as (λ b. (cond b (all_passed r) (gone_on r)).recovered ≡ None) [ true ↦ refl | false ↦ none ]
by_unrecovered o h q reply r is none = none

pub unrecovered_heard : (h : Heard) (k : Known) → recovers_none h.request ≡ true → (rounds_made k).recovered ≡ None → (rounds_made (with_heard h k)).recovered ≡ None
unrecovered_heard h k is none = ap (λ (r : RoundCount). r.recovered) (rounds_heard h k) ∙ by_unrecovered (open_txn k) h h.request h.reply (with_conflict h (rounds_made k)) is none

-- nor does one that ends a round
ends_unrecovered : (o : Option Txn) (h : Heard) (q : Request) (reply : Reply) (r : RoundCount) → EndsWithReply q reply → (rounds_by o h q reply r).recovered ≡ None
ends_unrecovered o h (requests.Resolve id key fate) replies.Resolved r ends = refl
ends_unrecovered o h (requests.Recover id epoch ts anchor finding) (replies.Status view) r ends = ap (λ b. (cond b (record r { recovered = Some view }) (one_over r)).recovered) ends
ends_unrecovered o h q reply r ends = absurd ends

pub unrecovered_settled : (k : Known) (front : List Heard) (later : List Heard) → k.heard_now ≡ front ++ later → EndsAtLast later → (rounds_made k).recovered ≡ None
unrecovered_settled k front later whole ends =
    let f = rounds_after (open_txn k) in
    let r = fold f no_rounds (front ++ ends.before) in
    let all : k.heard_now ≡ (front ++ ends.before) ++ ends.last ∷ [] = whole ∙ (ap (λ l. front ++ l) ends.whole ∙ sym (append_assoc front ends.before (ends.last ∷ []))) in
    ap (λ hs. (fold f no_rounds hs).recovered) all
    ∙ (ap (λ (r : RoundCount). r.recovered) (fold-append f no_rounds (front ++ ends.before) (ends.last ∷ []))
    ∙ ends_unrecovered (open_txn k) ends.last ends.last.request ends.last.reply (with_conflict ends.last r) ends.over)

-- a push that was refused leaves none
pub unrecovered_pushed : (start k : Known) (push : Heard) → open_txn k ≡ open_txn start → k.heard_now ≡ start.heard_now ++ push ∷ [] → recovers_none push.request ≡ true → (rounds_made start).recovered ≡ None → (rounds_made k).recovered ≡ None
unrecovered_pushed start k push opened whole is none =
    let f = rounds_after (open_txn start) in
    ap (λ o. (fold (rounds_after o) no_rounds k.heard_now).recovered) opened
    ∙ (ap (λ hs. (fold f no_rounds hs).recovered) whole
    ∙ (ap (λ (r : RoundCount). r.recovered) (fold-append f no_rounds start.heard_now (push ∷ []))
    ∙ by_unrecovered (open_txn start) push push.request push.reply (with_conflict push (rounds_made start)) is none))

-- which is a push
pub push_recovers : (id : TxnId) (request : Request) (b : Bool) → IsTrue (is_push_of id request && b) → recovers_none request ≡ true
push_recovers id (requests.Recover other epoch ts anchor finding) b is = absurd cc
push_recovers id request b is = refl
