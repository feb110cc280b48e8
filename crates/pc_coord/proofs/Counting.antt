-- What a session counts stays counted over its events.
use Rattle.std.proofs.Common.{◌≡◌, ℕ, ◌+◌, ◌≤◌, max, Bool, true, false, cond, ◌==◌, List, [], ◌∷◌, ◌++◌, length, find, fold, Some, refl, sym, ap, ◌∙◌, subst, arith, All, length-append}
use Rattle.std.specs.Option.{option_map}
use Rattle.std.proofs.lemmas.List.Elements.{All-cons, All-head, All-nil, All-push, All-tail, All-weaker}
use Rattle.std.proofs.lemmas.Option.{same_Some}
use Rattle.pc_call.specs.Learned.{known_asked, known_heard, known_sent, known_told}
use Rattle.pc_proto.specs.declared.answer.Answer.{Answer}
use Rattle.pc_proto.specs.declared.call.Call.{Call}
use Rattle.pc_proto.specs.declared.request.Request.{Request}
use Rattle.pc_proto.specs.declared.request.Request.TheVariants as requests
use Rattle.pc_proto.specs.Stamps.{answer_stamps, greatest_of, reply_stamps, request_stamps}
use Rattle.pc_txn.specs.Counted.{IsCounted, IsOfBegun, IsOwn, IsOwnHeard, IsOwnSent, IsOwnWrite, IsQueryOfBegun}
use Rattle.pc_world.specs.Known.{Known, next_number}
use Rattle.pc_world.specs.Known.Clock.{high_told}
use Rattle.pc_world.specs.Known.Statements.{begun_told}
use Rattle.pc_world.specs.Known.Traffic.{Heard, Sent, request_sent}

own_write-more : (low high : ℕ) (request : Request) → low ≤ high → IsOwnWrite low request → IsOwnWrite high request
own_write-more low high (requests.Put meta seq ts key value) h own = omega arith
own_write-more low high (requests.Commit meta ts locks) h own = omega arith
own_write-more low high (requests.Stage meta ts now writes locks) h own = omega arith
own_write-more low high request h own = tt

begun-more : (session low high : ℕ) (request : Request) → low ≤ high → IsOfBegun session low request → IsOfBegun session high request
begun-more session low high request h begun = λ id about whose. let l : id.number ≤ low = begun id about whose in omega arith

query-more : (session low high : ℕ) (request : Request) → low ≤ high → IsQueryOfBegun session low request → IsQueryOfBegun session high request
query-more session low high (requests.Query id epoch seq ts key by) h begun = λ whose. let l : id.number ≤ low = begun whose in omega arith
query-more session low high request h begun = tt

own-more : (session low high : ℕ) (request : Request) → low ≤ high → IsOwn session low request → IsOwn session high request
own-more session low high request h own = record {
  write = own_write-more low high request h own.write;
  record_of = begun-more session low high request h own.record_of;
  query_of = query-more session low high request h own.query_of;
}

pub all_own-more : (session low high few many : ℕ) (sent : List Sent) → low ≤ high → few ≤ many → All (IsOwnSent session low few) sent → All (IsOwnSent session high many) sent
all_own-more session low high few many sent h l a =
    All-weaker (IsOwnSent session low few) (IsOwnSent session high many)
    (λ m own. record { numbered = omega (arith, own.numbered, l); own = own-more session low high m.request h own.own }) sent a

pub all_heard-more : (session low high few many : ℕ) (heard : List Heard) → low ≤ high → few ≤ many → All (IsOwnHeard session low few) heard → All (IsOwnHeard session high many) heard
all_heard-more session low high few many heard h l a =
    All-weaker (IsOwnHeard session low few) (IsOwnHeard session high many)
    (λ m own. record { numbered = omega (arith, own.numbered, l); own = own-more session low high m.request h own.own }) heard a

-- what is known of all that was sent is known of the message of a number
pub said_own : (P : Request → Type 0) (number : ℕ) (request : Request) (sent : List Sent) → All (λ m. P m.request) sent → request_sent number sent ≡ Some request → P request
said_own P number request [] a said = absurd cc
said_own P number request (m ∷ sent) a said = by (said_own P number request sent (All-tail (λ m. P m.request) m sent a)) (m.number == number) refl said
  where
    by : (request_sent number sent ≡ Some request → P request) → (b : Bool) → (m.number == number) ≡ b
        → option_map (λ (s : Sent). s.request) (cond b (Some m) (find (λ s. s.number == number) sent)) ≡ Some request → P request
    by later true is e = subst P (same_Some m.request request e) (All-head (λ m. P m.request) m sent a)
    by later false is e = later e

from_most : (most : ℕ) (stamps : List ℕ) → most ≤ fold (λ most ts. max most ts) most stamps
from_most most [] = omega arith
from_most most (ts ∷ stamps) = omega (arith, from_most (max most ts) stamps)

all_from_most : (most : ℕ) (stamps : List ℕ) → All (λ ts. ts ≤ fold (λ most ts. max most ts) most stamps) stamps
all_from_most most [] = All-nil (λ ts. ts ≤ most)
all_from_most most (ts ∷ stamps) =
    All-cons (λ at. at ≤ fold (λ most ts. max most ts) (max most ts) stamps) ts stamps (omega (arith, from_most (max most ts) stamps)) (all_from_most (max most ts) stamps)

-- the greatest of them is reached
low_to : (stamps : List ℕ) (top : ℕ) → greatest_of stamps ≤ top → All (λ ts. ts ≤ top) stamps
low_to stamps top reached = All-weaker (λ ts. ts ≤ greatest_of stamps) (λ ts. ts ≤ top) (λ ts low. omega (arith, low, reached)) stamps (all_from_most 0 stamps)

-- No timestamp of the request is above this one.
abbrev IsUpTo : ℕ → Request → Type 0
IsUpTo top request = All (λ ts. ts ≤ top) (request_stamps request)

up_more : (low high : ℕ) (request : Request) → low ≤ high → IsUpTo low request → IsUpTo high request
up_more low high request up is = All-weaker (λ ts. ts ≤ low) (λ ts. ts ≤ high) (λ ts at. omega (arith, at, up)) (request_stamps request) is

pub sent_low-more : (low high : ℕ) (sent : List Sent) → low ≤ high → All (λ m. All (λ ts. ts ≤ low) (request_stamps m.request)) sent → All (λ m. All (λ ts. ts ≤ high) (request_stamps m.request)) sent
sent_low-more low high sent up a = All-weaker (λ m. IsUpTo low m.request) (λ m. IsUpTo high m.request) (λ m is. up_more low high m.request up is) sent a

pub heard_low-more : (low high : ℕ) (heard : List Heard) → low ≤ high → All (λ h. All (λ ts. ts ≤ low) (request_stamps h.request)) heard → All (λ h. All (λ ts. ts ≤ high) (request_stamps h.request)) heard
heard_low-more low high heard up a = All-weaker (λ h. IsUpTo low h.request) (λ h. IsUpTo high h.request) (λ h is. up_more low high h.request up is) heard a

module _ (session latest count : ℕ) (k : Known) (counted : IsCounted session latest count k) where
  pub counted-asked : (call : Call) (reading : ℕ) → IsCounted session latest count (known_asked call reading k)
  counted-asked call reading = record {
    clock = counted.clock;
    below = omega (arith, counted.below);
    begun = counted.begun;
    sent = counted.sent;
    heard = counted.heard;
    sent_low = sent_low-more k.top (max k.top 0) k.sent (omega arith) counted.sent_low;
    heard_low = heard_low-more k.top (max k.top 0) k.heard (omega arith) counted.heard_low;
  }

  pub counted-sent : (range : ℕ) (request : Request) → IsOwn session k.begun request → IsCounted session latest count (known_sent (next_number k) range request k)
  counted-sent range request own =
      let m : Sent = record { number = next_number k; range = range; request = request } in
      let longer : length (k.sent ++ m ∷ []) ≡ length k.sent + 1 = omega (arith, length-append k.sent (m ∷ [])) in
      let n = length (k.sent ++ m ∷ []) in
      let top = max k.top (max (greatest_of (request_stamps request)) 0) in
      record {
        clock = counted.clock;
        below = omega (arith, counted.below);
        begun = counted.begun;
        sent = All-push (IsOwnSent session k.begun n) k.sent m (all_own-more session k.begun k.begun (length k.sent) n k.sent (omega arith) (omega arith) counted.sent) (record { numbered = omega arith; own = own });
        heard = all_heard-more session k.begun k.begun (length k.sent) n k.heard (omega arith) (omega arith) counted.heard;
        sent_low = All-push (λ m. IsUpTo top m.request) k.sent m (sent_low-more k.top top k.sent (omega arith) counted.sent_low) (low_to (request_stamps request) top (omega arith));
        heard_low = heard_low-more k.top top k.heard (omega arith) counted.heard_low;
      }

  numbered_by : (number : ℕ) (request : Request) (sent : List Sent) (n : ℕ) → All (λ m. m.number ≤ n) sent → request_sent number sent ≡ Some request → number ≤ n
  numbered_by number request [] n a said = absurd cc
  numbered_by number request (m ∷ sent) n a said = by (numbered_by number request sent n (All-tail (λ m. m.number ≤ n) m sent a)) (m.number == number) refl said
    where
      by : (request_sent number sent ≡ Some request → number ≤ n) → (b : Bool) → (m.number == number) ≡ b
          → option_map (λ (s : Sent). s.request) (cond b (Some m) (find (λ s. s.number == number) sent)) ≡ Some request → number ≤ n
      by later true is e = let low : m.number ≤ n = All-head (λ m. m.number ≤ n) m sent a in grind (arith, is, low)
      by later false is e = later e

  -- the reply to a message of its own
  pub counted-heard : (h : Heard) → request_sent h.number k.sent ≡ Some h.request → IsCounted session (max latest (greatest_of (reply_stamps h.reply))) count (known_heard h k)
  counted-heard h said = record {
    clock = ap (λ n. max n (greatest_of (reply_stamps h.reply))) counted.clock;
    below = omega (arith, counted.below);
    begun = counted.begun;
    sent = counted.sent;
    heard =
        All-push (IsOwnHeard session k.begun (length k.sent)) k.heard h counted.heard (record {
          numbered = numbered_by h.number h.request k.sent (length k.sent) (All-weaker (IsOwnSent session k.begun (length k.sent)) (λ m. m.number ≤ length k.sent) (λ m own. own.numbered) k.sent counted.sent) said;
          own = said_own (IsOwn session k.begun) h.number h.request k.sent (All-weaker (IsOwnSent session k.begun (length k.sent)) (λ m. IsOwn session k.begun m.request) (λ m own. own.own) k.sent counted.sent) said;
        });
    sent_low = sent_low-more k.top (max k.top (max 0 (greatest_of (reply_stamps h.reply)))) k.sent (omega arith) counted.sent_low;
    heard_low =
        let top = max k.top (max 0 (greatest_of (reply_stamps h.reply))) in
        All-push (λ h. IsUpTo top h.request) k.heard h (heard_low-more k.top top k.heard (omega arith) counted.heard_low)
        (up_more k.top top h.request (omega arith) (said_own (IsUpTo k.top) h.number h.request k.sent counted.sent_low said));
  }

  -- an answer that gives no begin timestamp
  pub counted-told : (answer : Answer) → high_told answer k.high ≡ k.high → begun_told answer k.begun ≡ k.begun → IsCounted session latest count (known_told answer k)
  counted-told answer high begun = record {
    clock = counted.clock ∙ sym high;
    below = omega (arith, counted.below, high);
    begun = counted.begun ∙ sym begun;
    sent = all_own-more session k.begun (begun_told answer k.begun) (length k.sent) (length k.sent) k.sent (omega (arith, begun)) (omega arith) counted.sent;
    heard = all_heard-more session k.begun (begun_told answer k.begun) (length k.sent) (length k.sent) k.heard (omega (arith, begun)) (omega arith) counted.heard;
    sent_low = sent_low-more k.top (max k.top (max (greatest_of (answer_stamps answer)) 0)) k.sent (omega arith) counted.sent_low;
    heard_low = heard_low-more k.top (max k.top (max (greatest_of (answer_stamps answer)) 0)) k.heard (omega arith) counted.heard_low;
  }
