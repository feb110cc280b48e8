-- What is kept while an actor only sends and hears.
use Rattle.std.proofs.Common.{◌≡◌, ℕ, ◌≤◌, max, Bool, true, false, List, [], ◌∷◌, ◌++◌, fold, map, All, Any, Option, Some, option_map, IsTrue, refl, sym, ap, ◌∙◌, subst, arith}
use Rattle.std.proofs.lemmas.List.{append_assoc, append-nil}
use Rattle.std.proofs.lemmas.List.Elements.{All-append, All-from_recursion, All-head, All-nil, All-push, All-tail, All-weaker}
use Rattle.std.specs.List.{AllByRecursion as Each}
use Rattle.std.specs.Option.{option_to_list}
use Rattle.pc_base.specs.declared.entry.Entry.{Entry}
use Rattle.pc_history.specs.declared.pair.Pair.{Pair}
use Rattle.pc_lists.proofs.Anywhere.{any_behind, any_kept, any_last}
use Rattle.pc_proto.specs.declared.event.Event.{Event}
use Rattle.pc_proto.specs.declared.event.Event.TheVariants as events
use Rattle.pc_proto.specs.declared.reply.Reply.{Reply}
use Rattle.pc_proto.specs.declared.request.Request.{Request}
use Rattle.pc_proto.specs.Stamps.{event_stamps, greatest_of, reply_stamps}
use Rattle.pc_world.specs.Exchange.{HeardSince, HearsReply, IsExchange, IsLater, WasAnswered, is_message, known_from}
use Rattle.pc_world.specs.Known.{Known, first_if, known_after, learn}
use Rattle.pc_world.specs.Known.Clock.{high_after, top_after}
use Rattle.pc_world.specs.Known.Transactions.{Txn}
use Rattle.pc_world.specs.Known.Traffic.{Heard, heard_as, heard_by, reply_in, request_sent}

module _ (P : Known → Type 0) (step : (event : Event) (h : Option Heard) (top high : ℕ) (k : Known) → IsTrue (is_message event) → k.top ≤ top → P k → P (known_after event h top high k)) where
  -- what each message keeps is kept by all of them
  pub kept_from : (entries : List (Pair Event)) (k : Known) → All (λ p. IsTrue (is_message p.entry.event)) entries → P k → P (known_from k entries)
  kept_from [] k messages holds = holds
  kept_from (p ∷ ps) k messages holds =
      let Q : Pair Event → Type 0 = λ p. IsTrue (is_message p.entry.event) in
      let event = p.entry.event in
      kept_from ps (learn p k) (All-tail Q p ps messages)
      (step event (heard_by event p.named k.sent) (top_after event p.named k.top) (high_after event p.named k.high) k
      (All-head Q p ps messages) (omega arith) holds)

  pub kept_later : (since now : Known) → IsLater since now → P since → P now
  kept_later since now later holds = subst P (sym later.knows) (kept_from later.entries since later.messages holds)

-- nothing has happened since
abbrev pub later-itself : (k : Known) → IsLater k k
later-itself k = record { entries = []; messages = All-nil (λ p. IsTrue (is_message p.entry.event)); knows = refl }

pub from_push : (k : Known) (entries : List (Pair Event)) (p : Pair Event) → known_from k (entries ++ p ∷ []) ≡ learn p (known_from k entries)
from_push k [] p = refl
from_push k (e ∷ es) p = from_push (learn e k) es p

pub from_append : (k : Known) (entries more : List (Pair Event)) → known_from k (entries ++ more) ≡ known_from (known_from k entries) more
from_append k [] more = refl
from_append k (e ∷ es) more = from_append (learn e k) es more

-- one more message
abbrev pub later-push : (since now : Known) (p : Pair Event) → IsLater since now → IsTrue (is_message p.entry.event) → IsLater since (learn p now)
later-push since now p later message = record {
  entries = later.entries ++ p ∷ [];
  messages = All-push (λ p. IsTrue (is_message p.entry.event)) later.entries p later.messages message;
  knows = ap (learn p) later.knows ∙ sym (from_push since later.entries p);
}

-- later than what is later
abbrev pub later-later : (since now then : Known) → IsLater since now → IsLater now then → IsLater since then
later-later since now then one two = record {
  entries = one.entries ++ two.entries;
  messages = All-append (λ p. IsTrue (is_message p.entry.event)) one.entries two.entries one.messages two.messages;
  knows = two.knows ∙ ap (λ k. known_from k two.entries) one.knows ∙ sym (from_append since one.entries two.entries);
}

-- What was heard since.
pub record HasMore (since now : Known) : Type 0 where
  pub more : List Heard
  pub ever : now.heard ≡ since.heard ++ more
  pub in_call : now.heard_now ≡ since.heard_now ++ more

-- the open transaction, with the same done to each
pub first_mapped : (f : Txn → Txn) (is_open : Bool) (txns : List Txn) (t : Txn) → first_if is_open txns ≡ Some t → first_if is_open (map f txns) ≡ Some (f t)
first_mapped f is_open [] t h = absurd cc
first_mapped f true (x ∷ xs) t h = ap (option_map f) h
first_mapped f false (x ∷ xs) t h = absurd cc

longer : {X : Type 0} (xs before more new : List X) → xs ≡ before ++ more → xs ++ new ≡ before ++ (more ++ new)
longer xs before more new e = ap (λ l. l ++ new) e ∙ append_assoc before more new

more_step : (since : Known) (event : Event) (h : Option Heard) (top high : ℕ) (k : Known) → IsTrue (is_message event) → k.top ≤ top → HasMore since k → HasMore since (known_after event h top high k)
more_step since (events.Send number range request) h top high k message up has = record {
  more = has.more ++ option_to_list h;
  ever = longer k.heard since.heard has.more (option_to_list h) has.ever;
  in_call = longer k.heard_now since.heard_now has.more (option_to_list h) has.in_call;
}
more_step since (events.Hear number step) h top high k message up has = record {
  more = has.more ++ option_to_list h;
  ever = longer k.heard since.heard has.more (option_to_list h) has.ever;
  in_call = longer k.heard_now since.heard_now has.more (option_to_list h) has.in_call;
}
more_step since event h top high k message up has = absurd cc

pub has_more : (since now : Known) → IsLater since now → HasMore since now
has_more since now later =
    kept_later (HasMore since) (more_step since) since now later
    (record { more = []; ever = sym (append-nil since.heard); in_call = sym (append-nil since.heard_now) })

module _ (P : Heard → Type 0) (since now : Known) (later : IsLater since now) where
  pub ever_later : Any P since.heard → Any P now.heard
  ever_later any = let m = has_more since now later in subst (λ l. Any P l) (sym m.ever) (any_kept P since.heard m.more any)

pub heard_ever : (since now : Known) (request : Request) (reply : Reply) → HeardSince since now request reply → Any (IsExchange request reply) now.heard
heard_ever since now request reply heard =
    subst (λ l. Any (IsExchange request reply) l) (sym heard.ever) (any_behind (IsExchange request reply) since.heard heard.more heard.there)

-- the greatest timestamp known never falls
pub top_later : (since now : Known) → IsLater since now → since.top ≤ now.top
top_later since now later =
    kept_later (λ k. since.top ≤ k.top) (λ event h top high k message up holds. omega (arith, up, holds)) since now later (omega arith)

-- what was heard stays so
pub heard_later : (since now then : Known) (request : Request) (reply : Reply) → HeardSince since now request reply → IsLater now then → HeardSince since then request reply
heard_later since now then request reply heard later =
    let m = has_more now then later in
    record {
      more = heard.more ++ m.more;
      ever = m.ever ∙ longer now.heard since.heard heard.more m.more heard.ever;
      in_call = m.in_call ∙ longer now.heard_now since.heard_now heard.more m.more heard.in_call;
      there = any_kept (IsExchange request reply) heard.more m.more heard.there;
    }

learn_by : (k : Known) (p : Pair Event) (event : Event) (named : Option (Entry Event)) → p.entry.event ≡ event → p.named ≡ named
    → learn p k ≡ known_after event (heard_by event named k.sent) (top_after event named k.top) (high_after event named k.high) k
learn_by k p event named e n =
    let F : Event → Option (Entry Event) → Known = λ e n. known_after e (heard_by e n k.sent) (top_after e n k.top) (high_after e n k.high) k in
    ap (λ e. F e p.named) e ∙ ap (F event) n

-- What an actor knows once it heard this.
abbrev after_hearing : Heard → Known → Known
after_hearing h k =
    known_after (events.Hear h.number h.step) (Some h) (max k.top (max 0 (greatest_of (reply_stamps h.reply)))) (max k.high (greatest_of (reply_stamps h.reply))) k

-- and is heard since an earlier time too
pub heard_earlier : (since now then : Known) (request : Request) (reply : Reply) → IsLater since now → HeardSince now then request reply → HeardSince since then request reply
heard_earlier since now then request reply later heard =
    let m = has_more since now later in
    record {
      more = m.more ++ heard.more;
      ever = heard.ever ∙ longer now.heard since.heard m.more heard.more m.ever;
      in_call = heard.in_call ∙ longer now.heard_now since.heard_now m.more heard.more m.in_call;
      there = any_behind (IsExchange request reply) m.more heard.more heard.there;
    }

from_most : (most : ℕ) (stamps : List ℕ) → most ≤ fold (λ most ts. max most ts) most stamps
from_most most [] = omega arith
from_most most (ts ∷ stamps) = omega (arith, from_most (max most ts) stamps)

each_at_most : (most : ℕ) (stamps : List ℕ) → Each (λ ts. ts ≤ fold (λ most ts. max most ts) most stamps) stamps
each_at_most most [] = tt
each_at_most most (ts ∷ stamps) = (omega (arith, from_most (max most ts) stamps), each_at_most (max most ts) stamps)

all_at_most_last : (stamps : List ℕ) → All (λ ts. ts ≤ greatest_of stamps) stamps
all_at_most_last stamps = All-from_recursion (λ ts. ts ≤ greatest_of stamps) stamps (each_at_most 0 stamps)

module _ (since before : Known) (p : Pair Event) (request : Request) (reply : Reply) (hears : HearsReply since before p request reply) where
  -- What is heard.
  abbrev hearing : Heard
  hearing = record { number = hears.number; request = request; reply = reply; step = hears.step }

  learnt : learn p before ≡ after_hearing hearing before
  learnt =
      let hear = events.Hear hears.number hears.step in
      let G : Event → Option Request → Known = λ e r. known_after hear (heard_as hears.number hears.step r (reply_in e)) (max before.top (max 0 (greatest_of (event_stamps e)))) (max before.high (greatest_of (event_stamps e))) before in
      learn_by before p hear (Some hears.evaluation) hears.event hears.named
      ∙ ap (λ e. G e (request_sent hears.number before.sent)) hears.told
      ∙ ap (G (events.Eval hears.sender hears.asked reply)) hears.said

  pub is_hearing : IsTrue (is_message p.entry.event)
  is_hearing = subst (λ e. IsTrue (is_message e)) (sym hears.event) refl

  hearing_heard : HasMore since before → HeardSince since (learn p before) request reply
  hearing_heard has = record {
    more = has.more ++ hearing ∷ [];
    ever = ap (λ k. k.heard) learnt ∙ longer before.heard since.heard has.more (hearing ∷ []) has.ever;
    in_call = ap (λ k. k.heard_now) learnt ∙ longer before.heard_now since.heard_now has.more (hearing ∷ []) has.in_call;
    there = any_last (IsExchange request reply) has.more hearing (record { asked = refl; told = refl });
  }

  hearing_stamps : All (λ ts. ts ≤ (learn p before).top) (reply_stamps reply)
  hearing_stamps =
      let top : (learn p before).top ≡ max before.top (max 0 (greatest_of (reply_stamps reply))) = ap (λ k. k.top) learnt in
      All-weaker (λ ts. ts ≤ greatest_of (reply_stamps reply)) (λ ts. ts ≤ (learn p before).top)
      (λ ts low. omega (arith, top, low)) (reply_stamps reply) (all_at_most_last (reply_stamps reply))

-- What comes of a reply to a request that was sent since.
pub record IsHeardAnswer (since now : Known) (request : Request) (reply : Reply) : Type 0 where
  pub later : IsLater since now
  pub heard : HeardSince since now request reply
  pub stamps : All (λ ts. ts ≤ now.top) (reply_stamps reply)

pub answered : (since now : Known) (request : Request) (reply : Reply) → WasAnswered since now request reply → IsHeardAnswer since now request reply
answered since now request reply was =
    subst (λ k. IsHeardAnswer since k request reply) (sym was.knows) (record {
      later = later-push since was.before was.hearing was.later (is_hearing since was.before was.hearing request reply was.hears);
      heard = hearing_heard since was.before was.hearing request reply was.hears (has_more since was.before was.later);
      stamps = hearing_stamps since was.before was.hearing request reply was.hears;
    })
