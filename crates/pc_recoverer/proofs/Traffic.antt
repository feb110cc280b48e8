-- A recoverer in its round goes on by one message after another.
use Rattle.std.proofs.Common.{◌≡◌, List, [], ◌∷◌, ◌++◌, map, is_some, IfErr, OnOk, Result, Ok, Err, refl, sym, ap, ◌∙◌, subst}
use Rattle.std.proofs.lemmas.List.{map-append}
use Rattle.pc_desk.specs.declared.halt.Halt.{Halt}
use Rattle.pc_desk.specs.Desk.{DeskMeaning}
use Rattle.pc_exchange.proofs.Called.{next_unsent}
use Rattle.pc_exchange.proofs.Going.{answered_by, goes_both, goes_none, part_by}
use Rattle.pc_exchange.proofs.Knowing.{known_then, with_reply_heard, with_sent}
use Rattle.pc_exchange.specs.Exchange.{WasExchanged}
use Rattle.pc_exchange.specs.Growing.{HasAllBack}
use Rattle.pc_history.specs.declared.pair.Pair.{Pair}
use Rattle.pc_proto.specs.declared.event.Event.{Event}
use Rattle.pc_proto.specs.declared.reply.Reply.{Reply}
use Rattle.pc_proto.specs.declared.request.Request.{Request}
use Rattle.pc_recoverer.specs.declared.maker.RoundMaker.{RoundMaker}
use Rattle.pc_recoverer.specs.Exchanges.{AreExchangesIn, RoundMessage, requests_of}
use Rattle.pc_recoverer.specs.InRound.{HasMadeTraffic, IsRecovererInRound, IsMakingRound}
use Rattle.pc_world.proofs.Exchange.{answered, later-itself, later-later}
use Rattle.pc_world.specs.Exchange.{IsLater, WasAnswered}
use Rattle.pc_world.specs.Known.{Known, known_of, next_number}
use Rattle.pc_world.specs.Known.Traffic.{Heard}
use Rattle.pc_world.specs.Known.Transactions.{Txn}

-- ---- lists of messages

-- messages in these entries, and then others in those
pub exchanges_both : (xs ys : List RoundMessage) (p q : List (Pair Event)) → AreExchangesIn xs p → AreExchangesIn ys q → AreExchangesIn (xs ++ ys) (p ++ q)
exchanges_both [] ys p q is others = subst (λ l. AreExchangesIn ys (l ++ q)) (sym is) others
exchanges_both (x ∷ xs) ys p q (send, hear, rest, whole, one, more) others =
    (send, hear, rest ++ q, ap (λ l. l ++ q) whole, one, exchanges_both xs ys rest q more others)

pub requests_both : (xs ys : List RoundMessage) → requests_of (xs ++ ys) ≡ requests_of xs ++ requests_of ys
requests_both xs ys = map-append (λ (x : RoundMessage). x.request) xs ys

-- ---- one exchange

module _ {C : Type 0} (d new : DeskMeaning C) (request : Request) (reply : Reply) (back : HasAllBack d) (x : WasExchanged d new request reply) where
  -- the message
  abbrev pub message_of : RoundMessage
  message_of = record { range = x.range; request = request; reply = reply }

  -- what was heard
  abbrev pub heard_of : Heard
  heard_of = record { number = next_number (known_of d.log.part.own); request = request; reply = reply; step = x.evaluated_at }

  known_is : known_of new.log.part.own ≡ with_reply_heard heard_of (with_sent (next_number (known_of d.log.part.own)) x.range request (known_of d.log.part.own))
  known_is =
      ap known_of x.goes.grown.own
      ∙ known_then d.log.part.own d.log.part.id x.sent_at x.heard_at (next_number (known_of d.log.part.own)) x.range x.evaluated_by x.evaluated_at request reply (next_unsent d back)

  pub heard_is : (known_of new.log.part.own).heard ≡ (known_of d.log.part.own).heard ++ heard_of ∷ []
  heard_is = ap (λ (k : Known). k.heard) known_is

  pub heard_now_is : (known_of new.log.part.own).heard_now ≡ (known_of d.log.part.own).heard_now ++ heard_of ∷ []
  heard_now_is = ap (λ (k : Known). k.heard_now) known_is

  none-begun : (txns : List Txn) (f g : Txn → Txn) → txns ≡ [] → map f (map g txns) ≡ []
  none-begun txns f g none = ap (λ l. map f (map g l)) none

  -- the round goes on
  pub still_making : (maker : RoundMaker) → IsMakingRound maker d → IsMakingRound maker new
  still_making maker making = record {
    back = x.goes.back;
    whose = ap (λ l. l.part.id) x.goes.grown.rest ∙ making.whose;
    opened = ap (λ (k : Known). k.statement) known_is ∙ making.opened;
    unbegun = ap (λ (k : Known). k.txns) known_is ∙ none-begun (known_of d.log.part.own).txns _ _ making.unbegun;
  }

  pub was_answered : WasAnswered (known_of d.log.part.own) (known_of new.log.part.own) request reply
  was_answered = answered_by d new request reply back x

  pub later_by : IsLater (known_of d.log.part.own) (known_of new.log.part.own)
  later_by = (answered (known_of d.log.part.own) (known_of new.log.part.own) request reply was_answered).later

  -- the message was made
  pub made_one : HasMadeTraffic d new (message_of ∷ [])
  made_one = record {
    part = part_by d new request reply x;
    goes = x.goes;
    each = (_, _, [], refl, record { number = next_number (known_of d.log.part.own); sends = refl; evaluated_at = x.evaluated_at; hears = refl; told = refl }, refl);
    later = later_by;
    stays = still_making;
  }

-- ---- none, and several

pub made_none : {C : Type 0} (d : DeskMeaning C) → HasAllBack d → HasMadeTraffic d d []
made_none d back = record { part = []; goes = goes_none d back; each = refl; later = later-itself (known_of d.log.part.own); stays = λ maker making. making }

pub made_both : {C : Type 0} (a b d : DeskMeaning C) (xs ys : List RoundMessage) → HasMadeTraffic a b xs → HasMadeTraffic b d ys → HasMadeTraffic a d (xs ++ ys)
made_both a b d xs ys one two = record {
  part = one.part ++ two.part;
  goes = goes_both a b d one.part two.part one.goes two.goes;
  each = exchanges_both xs ys one.part two.part one.each two.each;
  later = later-later (known_of a.log.part.own) (known_of b.log.part.own) (known_of d.log.part.own) one.later two.later;
  stays = λ maker making. two.stays maker (one.stays maker making);
}

-- it is a recoverer, in its round
pub recoverer_in_round : {C : Type 0} (maker : RoundMaker) (d : DeskMeaning C) → IsMakingRound maker d → IsRecovererInRound d
recoverer_in_round maker d making = record { whose = (maker.number, making.whose); opened = ap is_some making.opened }

-- what is so of each good result
pub on_ok : (r : Result (Unit {0}) Halt) (P Q : Type 0) → (P → Q) → OnOk r P → OnOk r Q
on_ok (Ok u) P Q f p = f p
on_ok (Err halt) P Q f p = tt

-- and of each refusal
pub if_err : {X : Type 0} (r : Result X Halt) (P Q : Halt → Type 0) → ((halt : Halt) → P halt → Q halt) → IfErr r P → IfErr r Q
if_err (Ok x) P Q f p = tt
if_err (Err halt) P Q f p = f halt p
