-- One message that is sent, evaluated and heard: what each of the three asks for, and what they come to.
use Rattle.std.proofs.Common.{◌≡◌, ℕ, ◌+◌, ◌<◌, ◌==◌, Bool, true, false, ◌&&◌, ◌||◌, not, inl, inr, All, Any, Contains, List, [], ◌∷◌, Option, None, Some, IsTrue, refl, sym, ap, subst, ◌∙◌}
use Rattle.std.proofs.lemmas.Bool.{eq-eqb, eqb-true}
use Rattle.std.proofs.lemmas.List.Elements.{All-cons, All-nil}
use Rattle.std.specs.List.{list_any}
use Rattle.std.specs.Prelude.{⊤}
use Rattle.pc_base.specs.declared.actor.ActorId.{ActorId}
use Rattle.pc_base.specs.declared.actor.ActorId.TheVariants as actors
use Rattle.pc_desk.proofs.Counting.{said_new}
use Rattle.pc_desk.proofs.Making.{added, known_after_it, sent_then}
use Rattle.pc_desk.proofs.Turns.{oldest_waits}
use Rattle.pc_desk.specs.declared.answered.Answered.{Answered}
use Rattle.pc_desk.specs.declared.halt.Halt.{Halt}
use Rattle.pc_desk.specs.Desk.{DeskMeaning, HasDelivered, HasHeardFirst, HasSentNext, MayHearNow, Posted, is_on_way, times_sent}
use Rattle.pc_desk.specs.Ending.{EndsOnly}
use Rattle.pc_desk.specs.Keeping.{KeepsAs}
use Rattle.pc_desk.specs.OwnLog.{LogMeaning}
use Rattle.pc_exchange.proofs.Called.{next_unsent}
use Rattle.pc_exchange.proofs.Ending.{breaks_only, hears_within, made_by, within_then}
use Rattle.pc_exchange.proofs.Growing.{grows_both, grows_else, grows_entered}
use Rattle.pc_exchange.proofs.HeardKinds.{heard_kind, heard_possible}
use Rattle.pc_exchange.proofs.Knowing.{first_kept, heard_then}
use Rattle.pc_exchange.proofs.Unsent.{own_before}
use Rattle.pc_exchange.specs.Ending.{BreaksOff}
use Rattle.pc_exchange.specs.Exchange.{MayExchangeNow, WasExchanged, heard_pair, sent_pair}
use Rattle.pc_exchange.specs.Growing.{HasGrownBy}
use Rattle.pc_history.specs.declared.pair.Pair.{Pair}
use Rattle.pc_history.specs.Own.{pair}
use Rattle.pc_history.specs.Parts.{entry_of, knowledge, named_by}
use Rattle.pc_lists.proofs.Lists.{all_from_contains, contains_cons, contains_head, contains_nil, contains_tail, find_none}
use Rattle.pc_proto.specs.declared.call.Call.{Call}
use Rattle.pc_proto.specs.declared.call.Call.TheVariants as calls
use Rattle.pc_proto.specs.declared.event.Event.{Event}
use Rattle.pc_proto.specs.declared.event.Event.TheVariants as events
use Rattle.pc_proto.specs.declared.request.Request.{Request}
use Rattle.pc_proto.specs.declared.request.Request.TheVariants as requests
use Rattle.pc_proto.specs.Requests.{is_put, is_refresh, round_of}
use Rattle.pc_follows.specs.OwnStages.{IsPutStaged}
use Rattle.pc_follows.specs.PipelinedPuts.{IsPutWaitedFor}
use Rattle.pc_follows.specs.PipelinedRounds.{MakesRounds}
use Rattle.pc_follows.specs.Proving.{HasSentOwn, HearsNothingBehind, IsAwaitedPut, IsOfPutWave, WritesLast}
use Rattle.pc_turns.specs.Order.{IsInBetween, events_of}
use Rattle.pc_follows.specs.CallMessages.{IsOfRound}
use Rattle.pc_follows.specs.Refreshes.{IsOfWholeRefresh}
use Rattle.pc_follows.specs.OldestUnheard.{IsOldestUnheard}
use Rattle.pc_follows.specs.ScanPieces.{IsScanOf, SentAllPieces}
use Rattle.pc_world.specs.Known.{Known, call_in, known_of, learn, next_number, open_txn}
use Rattle.pc_world.specs.Known.Statements.{Statement}
use Rattle.pc_world.specs.Known.Traffic.{Heard, Sent, heard_as, request_sent}
use Rattle.pc_world.specs.RangeOf.{pieces}
use Rattle.pc_world.specs.Known.Transactions.{Txn, txn_sent}
use Rattle.pc_world.specs.Run.{protocol}
use Rattle.pc_world.specs.Tell.Refusal.{is_heard}

-- ---- a reply to what is no put may be heard at any time

waits-none : (k : Known) (call : Call) (request : Request) → is_put request ≡ false → IsPutWaitedFor k call request
waits-none k call (requests.Put meta seq ts key value) none = absurd cc
waits-none k call request none = tt

whole-refresh : (k : Known) (request : Request) → is_refresh request ≡ false → IsOfWholeRefresh k request
whole-refresh k (requests.Refresh id from to span) none = absurd cc
whole-refresh k request none = tt

-- where in a call it is of a round, nothing is asked of the call's pieces
whole-scan : (splits : List (List ℕ)) (k : Known) (request : Request) → ((s : Statement) → k.statement ≡ Some s → IsOfRound request) → round_of request ≡ None → SentAllPieces splits k
whole-scan splits k request round none span asked = by k.statement refl asked
  where
    by : (s : Option Statement) → k.statement ≡ s → call_in s ≡ Some (calls.Scan span) → All (λ p. Any (λ m. IsScanOf p.1 m.request) k.sent_now) (pieces splits span)
    by None is e = absurd cc
    by (Some s) is e = let r = round s is in let both : None ≡ Some r.0 = sym none ∙ r.1 in absurd cc

-- it is of no wave of puts
no-put-wave : (k : Known) (request : Request) → is_put request ≡ false → IsOfPutWave request → (s : Statement) → k.statement ≡ Some s → IsOfRound request → ⊥
no-put-wave k (requests.Put meta seq ts key value) none of s opened round = absurd cc
no-put-wave k (requests.Stage meta ts now writes locks) none of s opened round = let e = round.1 in cc e
no-put-wave k request none of s opened round = let e : false ≡ true = of in cc e

early-none : (k : Known) (request : Request) → is_put request ≡ false → IsPutStaged k request
early-none k (requests.Put meta seq ts key value) none = absurd cc
early-none k request none = tt

last-heard : (pipelining : Bool) (k : Known) (number step : ℕ) → WritesLast pipelining k (events.Hear number step)
last-heard false k number step = tt
last-heard true k number step = tt

behind-heard : (pipelining : Bool) (k : Known) (h : Heard) → (pipelining ≡ true → HasSentOwn k → ⊥) → HearsNothingBehind pipelining k (Some h)
behind-heard false k h unsent = tt
behind-heard true k h unsent = unsent refl

rounds-heard : (pipelining : Bool) (k : Known) (number step : ℕ) → MakesRounds pipelining k (events.Hear number step)
rounds-heard false k number step = tt
rounds-heard true k number step = tt

-- The actor is a session with pipelined writes only where it has not sent its call's own.
abbrev HasNotSentOwn : ActorId → Bool → Known → Type 0
HasNotSentOwn (actors.Session session) pipelining k = pipelining ≡ true → HasSentOwn k → ⊥
HasNotSentOwn (actors.Recoverer recoverer) pipelining k = ⊤
HasNotSentOwn (actors.Range range) pipelining k = ⊤

not-sent : (pipelining : Bool) (k : Known) (number range : ℕ) (request : Request) → WritesLast pipelining k (events.Send number range request) → pipelining ≡ true → HasSentOwn k → ⊥
not-sent true k number range request last is = last
not-sent false k number range request last is = absurd cc

has-not-sent : (id : ActorId) (splits : List (List ℕ)) (pipelining : Bool) (own : List (Pair Event)) (number range : ℕ) (request : Request) → KeepsAs id splits pipelining own (events.Send number range request) None → HasNotSentOwn id pipelining (known_of own)
has-not-sent (actors.Session session) splits pipelining own number range request keeps = not-sent pipelining (known_of own) number range request keeps.last
has-not-sent (actors.Recoverer recoverer) splits pipelining own number range request keeps = tt
has-not-sent (actors.Range other) splits pipelining own number range request keeps = tt

not-sent-on : (id : ActorId) (pipelining : Bool) (k later : Known) → (HasSentOwn later → HasSentOwn k) → HasNotSentOwn id pipelining k → HasNotSentOwn id pipelining later
not-sent-on (actors.Session session) pipelining k later back unsent = λ is own. unsent is (back own)
not-sent-on (actors.Recoverer recoverer) pipelining k later back unsent = tt
not-sent-on (actors.Range range) pipelining k later back unsent = tt

hears-as : (id : ActorId) (splits : List (List ℕ)) (pipelining : Bool) (own : List (Pair Event)) (number step : ℕ) (h : Heard) → is_put h.request ≡ false → is_refresh h.request ≡ false
    → ((s : Statement) → (known_of own).statement ≡ Some s → IsOfRound h.request) → HasNotSentOwn id pipelining (known_of own) → IsOldestUnheard (known_of own) h.number → KeepsAs id splits pipelining own (events.Hear number step) (Some h)
hears-as (actors.Session session) splits pipelining own number step h none no_refresh round unsent oldest = record {
  wire = tt;
  early_tell = tt;
  early_proof = λ asked. early-none (known_of own) h.request none;
  written = tt;
  puts = λ call asked. waits-none (known_of own) call h.request none;
  proving = (
    λ put. absurd (let both : false ≡ true = sym none ∙ put in cc both),
    λ of. all_from_contains (λ m. m.number < h.number → IsAwaitedPut (known_of own) m.request → IsTrue (is_heard (known_of own).heard m)) (known_of own).sent
        (λ m there low awaited. absurd (no-put-wave (known_of own) h.request none of awaited.s awaited.asked (round awaited.s awaited.asked))),
  );
  proved = tt;
  last = last-heard pipelining (known_of own) number step;
  behind = behind-heard pipelining (known_of own) h unsent;
  stages = tt;
  resends = tt;
  calls = tt;
  beats = tt;
  last_beats = tt;
  finishes = tt;
  aborts = tt;
  rolled_back = tt;
  writes = tt;
  refreshes = tt;
  rounds = rounds-heard pipelining (known_of own) number step;
  eighth = tt;
  waves = tt;
  pieces = λ plain beat put. whole-scan splits (known_of own) h.request round plain;
  refresh_wave = whole-refresh (known_of own) h.request no_refresh;
  again = λ s opened plain alone ends. let r = round s opened in let both : None ≡ Some r.0 = sym plain ∙ r.1 in absurd cc;
  piece_order = tt;
  oldest = oldest;
}
hears-as (actors.Recoverer recoverer) splits pipelining own number step h none no_refresh round unsent oldest = tt
hears-as (actors.Range range) splits pipelining own number step h none no_refresh round unsent oldest = tt

-- a message of a round leaves the transactions as they are
sent-of_round : (request : Request) → IsOfRound request → (t : Txn) → txn_sent request t ≡ t
sent-of_round (requests.Push holder by level now goal) round t = refl
sent-of_round (requests.Query id epoch seq ts key by) round t = refl
sent-of_round (requests.Recover id epoch ts anchor finding) round t = refl
sent-of_round (requests.Resolve id key fate) round t = refl
sent-of_round request round t = absurd (let e = round.1 in cc e)

or-right : (b c : Bool) → c ≡ true → (b || c) ≡ true
or-right true c is = refl
or-right false c is = is

-- a reply that is among these is found by its number
found-there : (a : Answered) (replies : List Answered) → Contains replies a → list_any (λ (x : Answered). x.number == a.number) replies ≡ true
found-there a [] there = absurd (contains_nil a there)
found-there a (x ∷ replies) there =
    elim (contains_cons x replies a there) [
      | inl same ↦ ap (λ b. b || list_any (λ (x : Answered). x.number == a.number) replies) (eq-eqb x.number a.number (ap (λ (y : Answered). y.number) same))
      | inr behind ↦ or-right (x.number == a.number) (list_any (λ (x : Answered). x.number == a.number) replies) (found-there a replies behind)
    ]

and-false : (b : Bool) → (b && false) ≡ false
and-false true = refl
and-false false = refl

or-false : (b : Bool) → (b || false) ≡ b
or-false true = refl
or-false false = refl

module _ {C : Type 0} (old mid late : DeskMeaning C) (request : Request) (number : ℕ) (may : MayExchangeNow old request) (sent : HasSentNext old mid number request) (delivered : HasDelivered mid late) (none : late.posted ≡ []) where
  was-none : (n : ℕ) → is_on_way n old ≡ false
  was-none n =
      ap (λ l. list_any (λ (m : Posted). m.number == n) l || list_any (λ (a : Answered). a.number == n) old.replies) may.back.posted
      ∙ ap (λ l. list_any (λ (a : Answered). a.number == n) l) may.back.replies

  way-late : (n : ℕ) → list_any (λ (a : Answered). a.number == n) late.replies ≡ (number == n)
  way-late n =
      sym (ap (λ l. list_any (λ (m : Posted). m.number == n) l || list_any (λ (a : Answered). a.number == n) late.replies) none)
      ∙ (delivered.way n ∙ (sent.way n ∙ (ap (λ b. number == n || b) (was-none n) ∙ or-false (number == n))))

  -- each reply that waits is to this message
  pub replies_to_it : (a : Answered) → Contains late.replies a → a.number ≡ number
  replies_to_it a there = sym (eqb-true number a.number (sym (way-late a.number) ∙ found-there a late.replies there))

  -- and there is one
  pub has_reply : late.replies ≡ [] → ⊥
  has_reply empty = let is : false ≡ true = sym (ap (λ l. list_any (λ (a : Answered). a.number == number) l) empty) ∙ (way-late number ∙ eq-eqb number number refl) in cc is

  next-is : number ≡ next_number (known_of old.log.part.own)
  next-is = sent.next ∙ ap (λ n. n + 1) may.back.track.counted

  own-late : late.log.part.own ≡ sent.sent.part.own
  own-late = ap (λ (l : LogMeaning C). l.part.own) delivered.own ∙ ap (λ (l : LogMeaning C). l.part.own) sent.noted

  id-late : late.log.part.id ≡ old.log.part.id
  id-late = ap (λ (l : LogMeaning C). l.part.id) delivered.own ∙ (ap (λ (l : LogMeaning C). l.part.id) sent.noted ∙ ap (λ (l : LogMeaning C). l.part.id) sent.entered.stored)

  fresh : times_sent number (known_of old.log.part.own) ≡ 0
  fresh = subst (λ n. times_sent n (known_of old.log.part.own) ≡ 0) (sym next-is) (next_unsent old may.back)

  said-late : request_sent number (known_of late.log.part.own).sent ≡ Some request
  said-late =
      let m : Sent = record { number = number; range = sent.range; request = request } in
      ap (λ own. request_sent number (known_of own).sent) own-late
      ∙ (ap (request_sent number) (sent_then old.log sent.sent number sent.range request sent.entered)
      ∙ said_new (known_of old.log.part.own).sent m fresh)

  statement-late : (known_of late.log.part.own).statement ≡ (known_of old.log.part.own).statement
  statement-late = ap (λ own. (known_of own).statement) own-late ∙ ap (λ (k : Known). k.statement) (known_after_it old.log sent.sent (events.Send number sent.range request) sent.entered)

  -- the call's own write is unsent still
  own_late : HasSentOwn (known_of late.log.part.own) → HasSentOwn (known_of old.log.part.own)
  own_late =
      let k = known_of old.log.part.own in
      let event = events.Send number sent.range request in
      let m : Sent = record { number = number; range = sent.range; request = request } in
      let after : known_of late.log.part.own ≡ learn (added old.log sent.sent event sent.entered) k = ap known_of own-late ∙ known_after_it old.log sent.sent event sent.entered in
      own_before k (known_of late.log.part.own) (m ∷ []) (ap (λ (k : Known). k.sent) after) (ap (λ (k : Known). k.sent_now) after) (All-cons (λ (m : Sent). is_put m.request ≡ false) m [] may.no_put (All-nil (λ (m : Sent). is_put m.request ≡ false))) statement-late
      (λ s opened. ap open_txn after ∙ first_kept k.is_open k.txns (txn_sent request) (λ t is. sent-of_round request (may.round s opened) t))

  unsent_late : HasNotSentOwn late.log.part.id late.log.pipelining (known_of late.log.part.own)
  unsent_late =
      let keeps = may.may.keeps number sent.range in
      let piped : late.log.pipelining ≡ old.log.pipelining =
      ap (λ (l : LogMeaning C). l.pipelining) delivered.own ∙ (ap (λ (l : LogMeaning C). l.pipelining) sent.noted ∙ ap (λ (l : LogMeaning C). l.pipelining) sent.entered.stored) in
      subst (λ i. HasNotSentOwn i late.log.pipelining (known_of late.log.part.own)) (sym id-late)
      (subst (λ b. HasNotSentOwn old.log.part.id b (known_of late.log.part.own)) (sym piped)
      (not-sent-on old.log.part.id old.log.pipelining (known_of old.log.part.own) (known_of late.log.part.own) own_late
      (has-not-sent old.log.part.id old.log.head.splits old.log.pipelining old.log.part.own number sent.range request keeps)))

  -- it may be heard
  pub may_hear_it : MayHearNow late
  may_hear_it = record {
    each = λ a rest range first.
        let there : Contains late.replies a = subst (λ rs. Contains rs a) (sym first) (contains_head a rest) in
        let said : request_sent a.number (known_of late.log.part.own).sent ≡ Some request = ap (λ n. request_sent n (known_of late.log.part.own).sent) (replies_to_it a there) ∙ said-late in
        let h : Heard = record { number = a.number; request = request; reply = a.reply; step = a.step } in
        let brings : heard_as a.number a.step (request_sent a.number (known_of late.log.part.own).sent) (Some a.reply) ≡ Some h = ap (λ r. heard_as a.number a.step r (Some a.reply)) said in
        subst (KeepsAs late.log.part.id late.log.head.splits late.log.pipelining late.log.part.own (events.Hear a.number a.step)) (sym brings)
        (hears-as late.log.part.id late.log.head.splits late.log.pipelining late.log.part.own a.number a.step h may.no_put may.no_refresh (λ s opened. may.round s (sym statement-late ∙ opened)) unsent_late (oldest_waits late a rest delivered.track first));
  }

  module _ (new : DeskMeaning C) (a : Answered) (heard : HasHeardFirst late new a) where
    number-is : a.number ≡ number
    number-is = replies_to_it a (subst (λ l. Contains l a) (sym heard.first) (contains_head a new.replies))

    none-left : new.replies ≡ []
    none-left = by new.replies refl
      where
        by : (replies : List Answered) → new.replies ≡ replies → new.replies ≡ []
        by [] is = is
        by (b ∷ rest) is =
            let there : Contains new.replies b = subst (λ l. Contains l b) (sym is) (contains_head b rest) in
            let also : b.number ≡ number = replies_to_it b (subst (λ l. Contains l b) (sym heard.first) (contains_tail a new.replies b there)) in
            let here : is_on_way b.number new ≡ true = or-right (list_any (λ (m : Posted). m.number == b.number) new.posted) (list_any (λ (x : Answered). x.number == b.number) new.replies) (found-there b new.replies there) in
            let gone : is_on_way b.number new ≡ false = heard.way b.number ∙ (ap (λ e. is_on_way b.number late && not e) (eq-eqb a.number b.number (number-is ∙ sym also)) ∙ and-false (is_on_way b.number late)) in
            absurd (let bad : true ≡ false = sym here ∙ gone in cc bad)

    -- the two entries, as they stand in the actor's list
    first-is : added old.log sent.sent (events.Send number sent.range request) sent.entered ≡ sent_pair old.log.part.id sent.entered.step (next_number (known_of old.log.part.own)) sent.range request
    first-is =
        let event = events.Send number sent.range request in
        let names : named_by (protocol old.log.head) old.log.part event ≡ None = find_none (λ e. (protocol old.log.head).names event e) (knowledge old.log.part) (λ e. refl) in
        ap (pair (entry_of sent.entered.step old.log.part.id event)) names ∙ ap (λ n. sent_pair old.log.part.id sent.entered.step n sent.range request) next-is

    second-is : added late.log new.log (events.Hear a.number a.step) heard.entered ≡ heard_pair old.log.part.id heard.entered.step (next_number (known_of old.log.part.own)) heard.range a.step a.reply
    second-is =
        ap (pair (entry_of heard.entered.step late.log.part.id (events.Hear a.number a.step))) heard.named
        ∙ (ap (λ i. heard_pair i heard.entered.step a.number heard.range a.step a.reply) id-late
        ∙ ap (λ n. heard_pair old.log.part.id heard.entered.step n heard.range a.step a.reply) (number-is ∙ next-is))

    abbrev part-of : List (Pair Event)
    part-of = sent_pair old.log.part.id sent.entered.step (next_number (known_of old.log.part.own)) sent.range request ∷ heard_pair old.log.part.id heard.entered.step (next_number (known_of old.log.part.own)) heard.range a.step a.reply ∷ []

    grown : HasGrownBy old.log new.log part-of
    grown =
        let one = grows_entered old.log sent.sent (events.Send number sent.range request) sent.entered refl in
        let two : HasGrownBy sent.sent mid.log [] = grows_else sent.sent mid.log _ sent.sent.part.known sent.noted (λ k there. there) in
        let three : HasGrownBy mid.log late.log [] = grows_else mid.log late.log mid.log.part.given late.log.part.known delivered.own delivered.more in
        let four = grows_entered late.log new.log (events.Hear a.number a.step) heard.entered refl in
        let all = grows_both old.log late.log new.log _ _ (grows_both old.log mid.log late.log _ [] (grows_both old.log sent.sent mid.log _ [] one two) three) four in
        subst (λ p. HasGrownBy old.log new.log (p ∷ heard_pair old.log.part.id heard.entered.step (next_number (known_of old.log.part.own)) heard.range a.step a.reply ∷ [])) first-is
        (subst (λ p. HasGrownBy old.log new.log (added old.log sent.sent (events.Send number sent.range request) sent.entered ∷ p ∷ [])) second-is all)

    -- the exchange
    pub was_exchanged : WasExchanged old new request a.reply
    was_exchanged =
        let next = next_number (known_of old.log.part.own) in
        let h : Heard = record { number = next; request = request; reply = a.reply; step = a.step } in
        let unsent = next_unsent old may.back in
        let there : Contains (known_of new.log.part.own).heard h =
        subst (λ own. Contains (known_of own).heard h) (sym grown.own) (heard_then old.log.part.own old.log.part.id sent.entered.step heard.entered.step next sent.range heard.range a.step request a.reply unsent) in
        record {
          range = sent.range;
          evaluated_by = heard.range;
          sent_at = sent.entered.step;
          evaluated_at = a.step;
          heard_at = heard.entered.step;
          goes = record {
            grown = grown;
            within =
                All-cons IsInBetween (events.Send next sent.range request) (events.Hear next a.step ∷ []) tt
                (All-cons IsInBetween (events.Hear next a.step) [] tt (All-nil IsInBetween));
            back = record { track = heard.track; posted = heard.posted ∙ none; replies = none-left };
            limit = heard.limit ∙ (delivered.limit ∙ sent.limit);
            later = heard.later ∙ (delivered.later ∙ sent.later);
          };
          kind = heard_kind new.log heard.track.log h there;
          possible = heard_possible new.log heard.track.log h there;
        }

-- ---- an actor that halts on the way

-- where its list ends once the message was sent
module _ {C : Type 0} (old mid : DeskMeaning C) (request : Request) (number : ℕ) (sent : HasSentNext old mid number request) where
  abbrev first-part : List (Pair Event)
  first-part = added old.log sent.sent (events.Send number sent.range request) sent.entered ∷ []

  sent-grown : HasGrownBy old.log mid.log first-part
  sent-grown =
      let one = grows_entered old.log sent.sent (events.Send number sent.range request) sent.entered refl in
      let two : HasGrownBy sent.sent mid.log [] = grows_else sent.sent mid.log _ sent.sent.part.known sent.noted (λ k there. there) in
      grows_both old.log sent.sent mid.log first-part [] one two

  within-first : All IsInBetween (events_of first-part)
  within-first = All-cons IsInBetween (events.Send number sent.range request) [] tt (All-nil IsInBetween)

  pub ends_sent : (new : DeskMeaning C) (halt : Halt) → EndsOnly (λ made. ⊥) mid new halt → BreaksOff (All IsInBetween) old new halt
  ends_sent new halt ends =
      breaks_only old mid new first-part sent-grown sent.limit (made_by old.log mid first-part sent.track sent-grown) (λ made. ⊥) (All IsInBetween) halt sent.track within-first (λ stopped event none. absurd none) ends

  -- or once it was evaluated
  pub ends_delivered : (late new : DeskMeaning C) (halt : Halt) → HasDelivered mid late → EndsOnly (λ made. (number : ℕ) × (step : ℕ) × (made ≡ events.Hear number step)) late new halt → BreaksOff (All IsInBetween) old new halt
  ends_delivered late new halt delivered ends =
      let three : HasGrownBy mid.log late.log [] = grows_else mid.log late.log mid.log.part.given late.log.part.known delivered.own delivered.more in
      let grown = grows_both old.log mid.log late.log first-part [] sent-grown three in
      breaks_only old late new first-part grown (delivered.limit ∙ sent.limit) (made_by old.log late first-part delivered.track grown) (λ made. (number : ℕ) × (step : ℕ) × (made ≡ events.Hear number step)) (All IsInBetween) halt delivered.track within-first
      (λ stopped. within_then (λ made. (number : ℕ) × (step : ℕ) × (made ≡ events.Hear number step)) (events_of first-part) hears_within within-first) ends
