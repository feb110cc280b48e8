-- One message of a recoverer that is sent, evaluated and heard: what each of the three asks for, and what they come to.
use Rattle.std.proofs.Common.{◌≡◌, ℕ, ◌+◌, ◌==◌, Bool, true, false, ◌&&◌, ◌||◌, not, inl, inr, Contains, List, [], ◌∷◌, None, Some, refl, sym, ap, subst, ◌∙◌}
use Rattle.std.proofs.lemmas.Bool.{eq-eqb, eqb-true}
use Rattle.std.proofs.lemmas.List.Elements.{All-cons, All-nil}
use Rattle.std.specs.List.{list_any}
use Rattle.pc_desk.proofs.Making.{added}
use Rattle.pc_desk.specs.declared.answered.Answered.{Answered}
use Rattle.pc_desk.specs.declared.halt.Halt.{Halt}
use Rattle.pc_desk.specs.Desk.{DeskMeaning, HasDelivered, HasHeardFirst, HasSentNext, KeepsTrack, MayHearNow, Posted, is_on_way}
use Rattle.pc_desk.specs.Ending.{EndsOnly}
use Rattle.pc_desk.specs.Keeping.{KeepsAs}
use Rattle.pc_desk.specs.OwnLog.{LogMeaning}
use Rattle.pc_exchange.proofs.Called.{next_unsent}
use Rattle.pc_exchange.proofs.Growing.{grows_both, grows_else, grows_entered, grows_none}
use Rattle.pc_exchange.proofs.HeardKinds.{heard_kind, heard_possible}
use Rattle.pc_exchange.proofs.Knowing.{heard_then}
use Rattle.pc_exchange.specs.Exchange.{heard_pair, sent_pair}
use Rattle.pc_exchange.specs.Growing.{HasAllBack, HasGrownBy}
use Rattle.pc_follows.specs.WaveOrder.{IsHearing}
use Rattle.pc_history.specs.declared.pair.Pair.{Pair}
use Rattle.pc_history.specs.Own.{pair}
use Rattle.pc_history.specs.Parts.{entry_of, knowledge, named_by}
use Rattle.pc_lists.proofs.Lists.{contains_cons, contains_head, contains_nil, contains_tail, find_none}
use Rattle.pc_proto.specs.declared.event.Event.{Event}
use Rattle.pc_proto.specs.declared.event.Event.TheVariants as events
use Rattle.pc_proto.specs.declared.meta.TxnMeta.{TxnMeta}
use Rattle.pc_proto.specs.declared.reply.Reply.{Reply}
use Rattle.pc_proto.specs.declared.reply.Reply.TheVariants as replies
use Rattle.pc_proto.specs.declared.request.Request.{Request}
use Rattle.pc_proto.specs.declared.request.Request.TheVariants as requests
use Rattle.pc_range.specs.Message.{evaluation}
use Rattle.pc_recoverer.proofs.Breaking.{breaks_here, breaks_weaker}
use Rattle.pc_recoverer.proofs.Fronts.{front_of_one, front_sent, front_unsent, front_unsent_to}
use Rattle.pc_recoverer.specs.Broken.{AreFrontOf, AreFrontOfOne, AreFrontOfOneTo, BreaksOffIn, IsOneMessageTo}
use Rattle.pc_recoverer.specs.InRound.{IsRecoverer, WasExchangedWith}
use Rattle.pc_turns.specs.Order.{IsInBetween}
use Rattle.pc_world.specs.Exchange.{IsPossibleReply}
use Rattle.pc_world.specs.Known.{known_of, next_number}
use Rattle.pc_world.specs.Known.Traffic.{Heard, heard_by}
use Rattle.pc_world.specs.Run.{protocol}

or-right : (b c : Bool) → c ≡ true → (b || c) ≡ true
or-right true c is = refl
or-right false c is = is

-- a reply that is among these is found by its number
found-there : (a : Answered) (replies : List Answered) → Contains replies a → list_any (λ (x : Answered). x.number == a.number) replies ≡ true
found-there a [] there = absurd (contains_nil a there)
found-there a (x ∷ replies) there =
    elim (contains_cons x replies a there) [
      | inl same ↦ ap (λ b. b || list_any (λ (x : Answered). x.number == a.number) replies) (eq-eqb x.number a.number (ap (λ (y : Answered). y.number) same))
      | inr behind ↦ or-right (x.number == a.number) (list_any (λ (x : Answered). x.number == a.number) replies) (found-there a replies behind)
    ]

and-false : (b : Bool) → (b && false) ≡ false
and-false true = refl
and-false false = refl

or-false : (b : Bool) → (b || false) ≡ b
or-false true = refl
or-false false = refl

module _ {C : Type 0} (old mid late : DeskMeaning C) (request : Request) (number : ℕ) (back : HasAllBack old) (sent : HasSentNext old mid number request) (delivered : HasDelivered mid late) (none : late.posted ≡ []) where
  was-none : (n : ℕ) → is_on_way n old ≡ false
  was-none n =
      ap (λ l. list_any (λ (m : Posted). m.number == n) l || list_any (λ (a : Answered). a.number == n) old.replies) back.posted
      ∙ ap (λ l. list_any (λ (a : Answered). a.number == n) l) back.replies

  way-late : (n : ℕ) → list_any (λ (a : Answered). a.number == n) late.replies ≡ (number == n)
  way-late n =
      sym (ap (λ l. list_any (λ (m : Posted). m.number == n) l || list_any (λ (a : Answered). a.number == n) late.replies) none)
      ∙ (delivered.way n ∙ (sent.way n ∙ (ap (λ b. number == n || b) (was-none n) ∙ or-false (number == n))))

  -- each reply that waits is to this message
  replies-to-it : (a : Answered) → Contains late.replies a → a.number ≡ number
  replies-to-it a there = sym (eqb-true number a.number (sym (way-late a.number) ∙ found-there a late.replies there))

  -- and there is one
  pub has_reply : late.replies ≡ [] → ⊥
  has_reply empty = let is : false ≡ true = sym (ap (λ l. list_any (λ (a : Answered). a.number == number) l) empty) ∙ (way-late number ∙ eq-eqb number number refl) in cc is

  next-is : number ≡ next_number (known_of old.log.part.own)
  next-is = sent.next ∙ ap (λ n. n + 1) back.track.counted

  id-late : late.log.part.id ≡ old.log.part.id
  id-late = ap (λ (l : LogMeaning C). l.part.id) delivered.own ∙ (ap (λ (l : LogMeaning C). l.part.id) sent.noted ∙ ap (λ (l : LogMeaning C). l.part.id) sent.entered.stored)

  -- it may be heard, as all that a recoverer was answered may
  pub may_hear_it : IsRecoverer old.log.part.id → MayHearNow late
  may_hear_it (recoverer, is) = record {
    each = λ a rest range first.
        subst (λ id. KeepsAs id late.log.head.splits late.log.pipelining late.log.part.own (events.Hear a.number a.step) (heard_by (events.Hear a.number a.step) (Some (evaluation a.step range late.log.part.id a.number a.reply)) (known_of late.log.part.own).sent)) (sym (id-late ∙ is)) tt;
  }

  module _ (new : DeskMeaning C) (a : Answered) (heard : HasHeardFirst late new a) where
    number-is : a.number ≡ number
    number-is = replies-to-it a (subst (λ l. Contains l a) (sym heard.first) (contains_head a new.replies))

    none-left : new.replies ≡ []
    none-left = by new.replies refl
      where
        by : (replies : List Answered) → new.replies ≡ replies → new.replies ≡ []
        by [] is = is
        by (b ∷ rest) is =
            let there : Contains new.replies b = subst (λ l. Contains l b) (sym is) (contains_head b rest) in
            let also : b.number ≡ number = replies-to-it b (subst (λ l. Contains l b) (sym heard.first) (contains_tail a new.replies b there)) in
            let here : is_on_way b.number new ≡ true = or-right (list_any (λ (m : Posted). m.number == b.number) new.posted) (list_any (λ (x : Answered). x.number == b.number) new.replies) (found-there b new.replies there) in
            let gone : is_on_way b.number new ≡ false = heard.way b.number ∙ (ap (λ e. is_on_way b.number late && not e) (eq-eqb a.number b.number (number-is ∙ sym also)) ∙ and-false (is_on_way b.number late)) in
            absurd (let bad : true ≡ false = sym here ∙ gone in cc bad)

    -- the two entries, as they stand in the actor's list
    first-is : added old.log sent.sent (events.Send number sent.range request) sent.entered ≡ sent_pair old.log.part.id sent.entered.step (next_number (known_of old.log.part.own)) sent.range request
    first-is =
        let event = events.Send number sent.range request in
        let names : named_by (protocol old.log.head) old.log.part event ≡ None = find_none (λ e. (protocol old.log.head).names event e) (knowledge old.log.part) (λ e. refl) in
        ap (pair (entry_of sent.entered.step old.log.part.id event)) names ∙ ap (λ n. sent_pair old.log.part.id sent.entered.step n sent.range request) next-is

    second-is : added late.log new.log (events.Hear a.number a.step) heard.entered ≡ heard_pair old.log.part.id heard.entered.step (next_number (known_of old.log.part.own)) heard.range a.step a.reply
    second-is =
        ap (pair (entry_of heard.entered.step late.log.part.id (events.Hear a.number a.step))) heard.named
        ∙ (ap (λ i. heard_pair i heard.entered.step a.number heard.range a.step a.reply) id-late
        ∙ ap (λ n. heard_pair old.log.part.id heard.entered.step n heard.range a.step a.reply) (number-is ∙ next-is))

    abbrev part-of : List (Pair Event)
    part-of = sent_pair old.log.part.id sent.entered.step (next_number (known_of old.log.part.own)) sent.range request ∷ heard_pair old.log.part.id heard.entered.step (next_number (known_of old.log.part.own)) heard.range a.step a.reply ∷ []

    grown : HasGrownBy old.log new.log part-of
    grown =
        let one = grows_entered old.log sent.sent (events.Send number sent.range request) sent.entered refl in
        let two : HasGrownBy sent.sent mid.log [] = grows_else sent.sent mid.log _ sent.sent.part.known sent.noted (λ k there. there) in
        let three : HasGrownBy mid.log late.log [] = grows_else mid.log late.log mid.log.part.given late.log.part.known delivered.own delivered.more in
        let four = grows_entered late.log new.log (events.Hear a.number a.step) heard.entered refl in
        let all = grows_both old.log late.log new.log _ _ (grows_both old.log mid.log late.log _ [] (grows_both old.log sent.sent mid.log _ [] one two) three) four in
        subst (λ p. HasGrownBy old.log new.log (p ∷ heard_pair old.log.part.id heard.entered.step (next_number (known_of old.log.part.own)) heard.range a.step a.reply ∷ [])) first-is
        (subst (λ p. HasGrownBy old.log new.log (added old.log sent.sent (events.Send number sent.range request) sent.entered ∷ p ∷ [])) second-is all)

    -- the exchange
    pub was_exchanged : WasExchangedWith sent.range old new request a.reply
    was_exchanged =
        let next = next_number (known_of old.log.part.own) in
        let h : Heard = record { number = next; request = request; reply = a.reply; step = a.step } in
        let there : Contains (known_of new.log.part.own).heard h =
        subst (λ own. Contains (known_of own).heard h) (sym grown.own) (heard_then old.log.part.own old.log.part.id sent.entered.step heard.entered.step next sent.range heard.range a.step request a.reply (next_unsent old back)) in
        record {
          exchanged = record {
            range = sent.range;
            evaluated_by = heard.range;
            sent_at = sent.entered.step;
            evaluated_at = a.step;
            heard_at = heard.entered.step;
            goes = record {
              grown = grown;
              within =
                  All-cons IsInBetween (events.Send next sent.range request) (events.Hear next a.step ∷ []) tt
                  (All-cons IsInBetween (events.Hear next a.step) [] tt (All-nil IsInBetween));
              back = record { track = heard.track; posted = heard.posted ∙ none; replies = none-left };
              limit = heard.limit ∙ (delivered.limit ∙ sent.limit);
              later = heard.later ∙ (delivered.later ∙ sent.later);
            };
            kind = heard_kind new.log heard.track.log h there;
            possible = heard_possible new.log heard.track.log h there;
          };
          there = refl;
        }

-- ---- where its list ends once the message was sent

module _ {C : Type 0} (old mid new : DeskMeaning C) (request : Request) (number : ℕ) (halt : Halt) (sent : HasSentNext old mid number request) where
  grown-sent : HasGrownBy old.log mid.log (added old.log sent.sent (events.Send number sent.range request) sent.entered ∷ [])
  grown-sent =
      let one = grows_entered old.log sent.sent (events.Send number sent.range request) sent.entered refl in
      let two : HasGrownBy sent.sent mid.log [] = grows_else sent.sent mid.log _ sent.sent.part.known sent.noted (λ k there. there) in
      grows_both old.log sent.sent mid.log _ [] one two

  -- it was not evaluated
  pub ends_sent : EndsOnly (λ made. ⊥) mid new halt → BreaksOffIn (AreFrontOfOneTo sent.range request) old new halt
  ends_sent ends =
      let p = added old.log sent.sent (events.Send number sent.range request) sent.entered in
      breaks_here old mid new (p ∷ []) grown-sent sent.limit sent.track (AreFrontOfOneTo sent.range request) halt (λ made. ⊥) (front_sent number sent.range request p refl) (λ stopped q its. absurd its.is) ends

  -- or its reply was not heard
  pub ends_delivered : (late : DeskMeaning C) → HasDelivered mid late → EndsOnly (λ made. (number : ℕ) × (step : ℕ) × (made ≡ events.Hear number step)) late new halt → BreaksOffIn (AreFrontOfOneTo sent.range request) old new halt
  ends_delivered late delivered ends =
      let p = added old.log sent.sent (events.Send number sent.range request) sent.entered in
      let three : HasGrownBy mid.log late.log [] = grows_else mid.log late.log mid.log.part.given late.log.part.known delivered.own delivered.more in
      let grown = grows_both old.log mid.log late.log (p ∷ []) [] grown-sent three in
      breaks_here old late new (p ∷ []) grown (delivered.limit ∙ sent.limit) delivered.track (AreFrontOfOneTo sent.range request) halt (λ made. (number : ℕ) × (step : ℕ) × (made ≡ events.Hear number step)) (front_sent number sent.range request p refl)
      (λ stopped h its. inr (record { before = []; sending = p; hearing = h; whole = refl; sends = tt; hears = subst IsHearing (sym its.is.2) tt; are = front_sent number sent.range request p refl })) ends

-- nor was it sent
pub ends_unsent : {C : Type 0} (old new : DeskMeaning C) (request : Request) (halt : Halt) → KeepsTrack old → EndsOnly (λ made. (number : ℕ) × (range : ℕ) × (made ≡ events.Send number range request)) old new halt → BreaksOffIn (AreFrontOfOne request) old new halt
ends_unsent old new request halt track ends = breaks_here old old new [] (grows_none old.log) refl track (AreFrontOfOne request) halt (λ made. (number : ℕ) × (range : ℕ) × (made ≡ events.Send number range request)) (front_unsent request)
    (λ stopped p its. inl (front_of_one its.is.1 request (p ∷ []) (front_sent its.is.0 its.is.1 request p its.is.2))) ends

-- ---- a message to a range that the recoverer names

pub ends_unsent_to : {C : Type 0} (old new : DeskMeaning C) (range : ℕ) (request : Request) (reply : Reply) (halt : Halt) → KeepsTrack old → EndsOnly (λ made. (number : ℕ) × (made ≡ events.Send number range request)) old new halt → BreaksOffIn (AreFrontOf (IsOneMessageTo range request reply)) old new halt
ends_unsent_to old new range request reply halt track ends = breaks_here old old new [] (grows_none old.log) refl track (AreFrontOf (IsOneMessageTo range request reply)) halt (λ made. (number : ℕ) × (made ≡ events.Send number range request)) (front_unsent_to range request reply)
    (λ stopped p its. inl (front_sent its.is.0 range request p its.is.1 reply)) ends

pub ends_at : {C : Type 0} (old new : DeskMeaning C) (one range : ℕ) (request : Request) (reply : Reply) (halt : Halt) → one ≡ range → BreaksOffIn (AreFrontOfOneTo one request) old new halt → BreaksOffIn (AreFrontOf (IsOneMessageTo range request reply)) old new halt
ends_at old new one range request reply halt same breaks =
    breaks_weaker old new (AreFrontOfOneTo one request) (AreFrontOf (IsOneMessageTo range request reply)) halt (λ part f. subst (λ r. AreFrontOf (IsOneMessageTo r request reply) part) same (f reply)) breaks

-- ---- a listing of records

-- The reply lists these records.
pub record IsListing (told : Reply) : Type 0 where
  pub metas : List TxnMeta
  pub is : told ≡ replies.Listed metas

-- it is answered by a list
pub listing_answers : (told : Reply) → IsPossibleReply requests.Records told → IsListing told
listing_answers told possible = record { metas = _; is = possible.is }
