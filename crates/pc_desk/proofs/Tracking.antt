-- Each message stands at one stage still, once one more was sent, evaluated or heard.
use Rattle.std.proofs.Common.{◌≡◌, ℕ, ◌+◌, ◌-◌, ◌<◌, ◌≤◌, nat_lt, slice_index, slice_set, Bool, true, false, ◌&&◌, ◌||◌, ◌==◌, not, All, Contains, List, [], ◌∷◌, ◌++◌, length, count_by, ◌⊎◌, inl, inr, Some, refl, sym, ap, subst, ◌∙◌, arith, length-append}
use Rattle.std.proofs.lemmas.Bool.{eqb-true}
use Rattle.std.proofs.lemmas.Bool.Decides.{nat_tests}
use Rattle.std.proofs.lemmas.List.Elements.{All-contains, All-head, All-nil, All-push, All-tail, All-weaker, Contains-append_left, Contains-push}
use Rattle.std.proofs.Math.Seq.{set-append_seam}
use Rattle.std.specs.List.{list_any}
use Rattle.pc_base.specs.declared.actor.ActorId.{ActorId}
use Rattle.pc_base.specs.declared.entry.Entry.{Entry}
use Rattle.pc_desk.proofs.Counting.{any_counts, none_beyond, said_more, said_new}
use Rattle.pc_desk.proofs.Making.{added, own_after, heard_more, heard_then, known_still, message_of, reply_of, sent_still, sent_then}
use Rattle.pc_desk.proofs.Turns.{replies_below, turn_delivered, turn_heard}
use Rattle.pc_desk.proofs.Waves.{wave_done, wave_evaluated, wave_heard, wave_new, wave_sent}
use Rattle.pc_desk.specs.declared.answered.Answered.{Answered}
use Rattle.pc_desk.specs.Desk.{AreInTurn, DeskMeaning, GivesOnce, IsAnsweredBy, WasSetAside, IsOneSent, IsStray, KeepsTrack, Posted, WaitInTurn, answered_as, heard_as_number, is_on_way, posted_as, posting, times_sent}
use Rattle.pc_desk.specs.OwnLog.{HasEntered, IsOwnLog, LogMeaning}
use Rattle.pc_desk.specs.Waiting.{WaitInWave}
use Rattle.pc_follows.specs.WaveEvaluation.{IsSending}
use Rattle.pc_follows.specs.WaveOrder.{IsHearing}
use Rattle.pc_history.proofs.Callers.{knows-known}
use Rattle.pc_history.specs.declared.pair.Pair.{Pair}
use Rattle.pc_history.specs.declared.view.Known.{Known as KnownEntry}
use Rattle.pc_history.specs.declared.view.Part.{Part}
use Rattle.pc_history.specs.Parts.{gave, knowledge, known_entry}
use Rattle.pc_lists.proofs.Counts.{count-cons, count-push, one_if}
use Rattle.pc_lists.proofs.Lists.{all_from_contains}
use Rattle.pc_proto.specs.declared.event.Event.{Event}
use Rattle.pc_proto.specs.declared.event.Event.TheVariants as events
use Rattle.pc_proto.specs.declared.request.Request.{Request}
use Rattle.pc_range.specs.Message.{evaluation}
use Rattle.pc_world.specs.Known.{Known, known_of}
use Rattle.pc_world.specs.Known.Traffic.{Heard, Sent, request_sent}

-- ---- the uses that the actor gave

-- one more entry, of which no use was given yet
pub gives_none : (part after : Part Event) (p : Pair Event) → after.own ≡ part.own ++ p ∷ [] → after.given ≡ part.given ++ 0 ∷ [] → GivesOnce part → GivesOnce after
gives_none part after p own given once = record {
  each = ap length given ∙ (length-append part.given (0 ∷ []) ∙ (ap (λ n. n + 1) once.each ∙ sym (ap length own ∙ length-append part.own (p ∷ []))));
  once = subst (All (λ uses. uses ≤ 1)) (sym given) (All-push (λ uses. uses ≤ 1) part.given 0 once.once (omega arith));
}

-- one more entry, of which one use was given at once
pub gives_one : (part mid after : Part Event) (p : Pair Event) → mid.own ≡ part.own ++ p ∷ [] → mid.given ≡ part.given ++ 0 ∷ [] → after ≡ gave (length mid.own - 1) 1 mid → GivesOnce part → GivesOnce after
gives_one part mid after p own given gives once =
    let long : length mid.own - 1 ≡ length part.given = (let e : length mid.own ≡ length part.own + 1 = ap length own ∙ length-append part.own (p ∷ []) in let l = once.each in omega arith) in
    let now : slice_set mid.given (length mid.own - 1) (slice_index mid.given (length mid.own - 1) + 1) ≡ part.given ++ 1 ∷ [] =
    ap (λ n. slice_set mid.given n (slice_index mid.given n + 1)) long
    ∙ (ap (λ gs. slice_set gs (length part.given) (slice_index gs (length part.given) + 1)) given
    ∙ (ap (λ n. slice_set (part.given ++ 0 ∷ []) (length part.given) (n + 1)) (index_push part.given 0) ∙ set-append_seam part.given 0 [] 1)) in
    record {
      each = ap (λ (q : Part Event). length q.given) gives ∙ (ap length now ∙ (length-append part.given (1 ∷ []) ∙ (ap (λ n. n + 1) once.each ∙ sym (ap (λ (q : Part Event). length q.own) gives ∙ (ap length own ∙ length-append part.own (p ∷ []))))));
      once = subst (All (λ uses. uses ≤ 1)) (sym (ap (λ (q : Part Event). q.given) gives ∙ now)) (All-push (λ uses. uses ≤ 1) part.given 1 once.once (omega arith));
    }
  where
    index_push : (xs : List ℕ) (x : ℕ) → slice_index (xs ++ x ∷ []) (length xs) ≡ x
    index_push [] x = refl
    index_push (y ∷ xs) x = index_push xs x

-- what neither makes an entry nor gives a use
pub gives_same : (part after : Part Event) → after.own ≡ part.own → after.given ≡ part.given → GivesOnce part → GivesOnce after
gives_same part after own given once = record { each = ap length given ∙ (once.each ∙ sym (ap length own)); once = subst (All (λ uses. uses ≤ 1)) (sym given) once.once }

-- What the message of this number said, of these.
abbrev Says : List Sent → Posted → Type 0
Says sent m = request_sent m.number sent ≡ Some m.request

-- the reply is that of an evaluation which the actor knows still
pub answered_on : {C : Type 0} (l m : LogMeaning C) (a : Answered) → m.part.id ≡ l.part.id
    → ((request : Request) → request_sent a.number (known_of l.part.own).sent ≡ Some request → request_sent a.number (known_of m.part.own).sent ≡ Some request)
    → ((x : KnownEntry Event) → Contains l.part.known x → Contains m.part.known x) → IsAnsweredBy l a → IsAnsweredBy m a
answered_on l m a id says has by = record {
  range = by.range;
  place = by.place;
  request = by.request;
  said = says by.request by.said;
  knows = subst (λ (i : ActorId). Contains m.part.known (record { entry = evaluation a.step by.range i a.number a.reply; place = by.place; uses = 0 })) (sym id) (has _ by.knows);
}

-- what was set aside was sent still
pub aside_on : (sent more : List Sent) (m : Posted) → (IsOneSent sent m → IsOneSent more m) → WasSetAside sent m → WasSetAside more m
aside_on sent more m one aside = record { one = one aside.one; puts = aside.puts }

-- the stray is one whose evaluation the actor knows still
pub stray_on : {C : Type 0} (l m : LogMeaning C) (p : Posted) → m.part.id ≡ l.part.id → (IsOneSent (known_of l.part.own).sent p → IsOneSent (known_of m.part.own).sent p)
    → ((x : KnownEntry Event) → Contains l.part.known x → Contains m.part.known x) → IsStray l p → IsStray m p
stray_on l m p id one has stray = record {
  aside = aside_on (known_of l.part.own).sent (known_of m.part.own).sent p one stray.aside;
  step = stray.step;
  reply = stray.reply;
  place = stray.place;
  knows = subst (λ (i : ActorId). Contains m.part.known (record { entry = evaluation stray.step p.range i p.number stray.reply; place = stray.place; uses = 0 })) (sym id) (has _ stray.knows);
}

-- what waits to be heard was evaluated before the next entry
pub answers_before : {C : Type 0} (old : DeskMeaning C) (after : LogMeaning C) (event : Event) → KeepsTrack old → (entered : HasEntered old.log after event) → All (λ (a : Answered). a.step < entered.step) old.replies
answers_before old after event track entered =
    All-weaker (IsAnsweredBy old.log) (λ (a : Answered). a.step < entered.step)
    (λ a by. All-contains (λ (e : Entry Event). e.step < entered.step) (knowledge old.log.part) (evaluation a.step by.range old.log.part.id a.number a.reply) entered.above
    (knows-known old.log.part (known_entry (evaluation a.step by.range old.log.part.id a.number a.reply) by.place 0) by.knows)) old.replies track.answered

-- ---- nothing was sent

-- an actor that has made nothing has no message at any stage
pub track_new : {C : Type 0} (d : DeskMeaning C) → IsOwnLog d.log → d.log.part.own ≡ [] → d.log.part.given ≡ [] → d.sends ≡ 0 → d.posted ≡ [] → d.later ≡ [] → d.replies ≡ [] → KeepsTrack d
track_new d log own given sends posted later replies = record {
  log = log;
  counted = sends ∙ sym (ap (λ (o : List (Pair Event)). length (known_of o).sent) own);
  numbers = subst (λ (o : List (Pair Event)). All (λ (x : Sent). x.number ≤ length (known_of o).sent) (known_of o).sent) (sym own) (All-nil (λ (x : Sent). x.number ≤ 0));
  once = λ n. subst (λ (o : List (Pair Event)). times_sent n (known_of o) ≤ 1) (sym own) (omega arith);
  dropped = [];
  strays = All-nil (IsStray d.log);
  stages = λ n.
      subst (λ (o : List (Pair Event)). posted_as n d.posted + (posted_as n d.later + posted_as n []) + answered_as n d.replies + heard_as_number n (known_of o) ≡ times_sent n (known_of o)) (sym own)
      (let p : posted_as n d.posted ≡ 0 = ap (posted_as n) posted in let l : posted_as n d.later ≡ 0 = ap (posted_as n) later in let r : answered_as n d.replies ≡ 0 = ap (answered_as n) replies in omega arith);
  posted = subst (All (Says (known_of d.log.part.own).sent)) (sym posted) (All-nil (Says (known_of d.log.part.own).sent));
  waits = subst (All (IsOneSent (known_of d.log.part.own).sent)) (sym posted) (All-nil (IsOneSent (known_of d.log.part.own).sent));
  aside = subst (All (WasSetAside (known_of d.log.part.own).sent)) (sym later) (All-nil (WasSetAside (known_of d.log.part.own).sent));
  answered = subst (All (IsAnsweredBy d.log)) (sym replies) (All-nil (IsAnsweredBy d.log));
  turn = subst (λ rs. WaitInTurn rs d.posted) (sym replies) (record { rising = tt; behind = subst (All (λ (m : Posted). All (λ (a : Answered). a.number < m.number) [])) (sym posted) (All-nil (λ (m : Posted). All (λ (a : Answered). a.number < m.number) [])) });
  wave =
      subst (λ (o : List (Pair Event)). WaitInWave d.log.beside o d.posted d.replies) (sym own)
      (subst (WaitInWave d.log.beside [] d.posted) (sym replies) (subst (λ (ps : List Posted). WaitInWave d.log.beside [] ps []) (sym posted) (wave_new d.log.beside)));
  given = record { each = ap length given ∙ sym (ap length own); once = subst (All (λ uses. uses ≤ 1)) (sym given) (All-nil (λ uses. uses ≤ 1)) };
}

-- ---- one more message is sent

module _ {C : Type 0} (old new : DeskMeaning C) (sent : LogMeaning C) (number range uses : ℕ) (request : Request) (track : KeepsTrack old) (next : number ≡ old.sends + 1)
    (entered : HasEntered old.log sent (events.Send number range request)) (id : new.log.part.id ≡ sent.part.id) (own : new.log.part.own ≡ sent.part.own) (known : new.log.part.known ≡ sent.part.known)
    (posted : (n : ℕ) → posted_as n new.posted ≡ posted_as n old.posted + one_if (number == n)) (replies : new.replies ≡ old.replies) (later : new.later ≡ old.later) where
  -- The message that is sent.
  abbrev m : Sent
  m = message_of old.log sent number range request entered

  sent_is : (known_of new.log.part.own).sent ≡ (known_of old.log.part.own).sent ++ m ∷ []
  sent_is = ap (λ o. (known_of o).sent) own ∙ sent_then old.log sent number range request entered

  heard_is : (known_of new.log.part.own).heard ≡ (known_of old.log.part.own).heard
  heard_is = ap (λ o. (known_of o).heard) own ∙ heard_then old.log sent number range request entered

  longer : length (known_of new.log.part.own).sent ≡ length (known_of old.log.part.own).sent + 1
  longer = ap length sent_is ∙ length-append (known_of old.log.part.own).sent (m ∷ [])

  sent_count : (n : ℕ) → times_sent n (known_of new.log.part.own) ≡ times_sent n (known_of old.log.part.own) + one_if (number == n)
  sent_count n = ap (count_by (λ (x : Sent). x.number == n)) sent_is ∙ count-push (λ (x : Sent). x.number == n) (known_of old.log.part.own).sent m

  heard_count : (n : ℕ) → heard_as_number n (known_of new.log.part.own) ≡ heard_as_number n (known_of old.log.part.own)
  heard_count n = ap (count_by (λ (x : Heard). x.number == n)) heard_is

  fresh : count_by (λ (x : Sent). x.number == number) (known_of old.log.part.own).sent ≡ 0
  fresh = none_beyond (λ (x : Sent). x.number) (length (known_of old.log.part.own).sent) number (known_of old.log.part.own).sent track.numbers (let c = track.counted in omega arith)

  once-now : (n : ℕ) → times_sent n (known_of new.log.part.own) ≤ 1
  once-now n = by (number == n) refl
    where
      by : (b : Bool) → (number == n) ≡ b → times_sent n (known_of new.log.part.own) ≤ 1
      by true is =
          let none : times_sent n (known_of old.log.part.own) ≡ 0 = subst (λ x. count_by (λ (y : Sent). y.number == x) (known_of old.log.part.own).sent ≡ 0) (eqb-true number n is) fresh in
          omega (arith, sent_count n, ap one_if is)
      by false is = omega (arith, sent_count n, ap one_if is, track.once n)

  says-on : (n : ℕ) (r : Request) → request_sent n (known_of old.log.part.own).sent ≡ Some r → request_sent n (known_of new.log.part.own).sent ≡ Some r
  says-on n r said = ap (request_sent n) sent_is ∙ said_more n (known_of old.log.part.own).sent (m ∷ []) r said

  one-on : (p : Posted) → IsOneSent (known_of old.log.part.own).sent p → IsOneSent (known_of new.log.part.own).sent p
  one-on p one = subst (λ (xs : List Sent). IsOneSent xs p) (sym sent_is) (Contains-append_left (known_of old.log.part.own).sent (m ∷ []) _ one)

  says-now : request_sent number (known_of new.log.part.own).sent ≡ Some request
  says-now = ap (request_sent number) sent_is ∙ said_new (known_of old.log.part.own).sent m fresh

  pub track_sent : IsOwnLog new.log → new.sends ≡ number
      → ((x : Posted) → Contains new.posted x → Contains old.posted x ⊎ (posting number range request uses ≡ x))
      → new.log.part ≡ gave (length sent.part.own - 1) 1 sent.part → old.replies ≡ [] → new.log.beside ≡ old.log.beside → KeepsTrack new
  track_sent log counted all gives none beside = record {
    log = log;
    counted = counted ∙ (next ∙ (ap (λ n. n + 1) track.counted ∙ sym longer));
    numbers = subst (λ (xs : List Sent). All (λ x. x.number ≤ length xs) xs) (sym sent_is)
        (All-push (λ x. x.number ≤ length ((known_of old.log.part.own).sent ++ m ∷ [])) (known_of old.log.part.own).sent m
        (All-weaker (λ x. x.number ≤ length (known_of old.log.part.own).sent) (λ x. x.number ≤ length ((known_of old.log.part.own).sent ++ m ∷ [])) (λ x h. omega (arith, length-append (known_of old.log.part.own).sent (m ∷ []))) (known_of old.log.part.own).sent track.numbers)
        (let c = track.counted in omega (arith, length-append (known_of old.log.part.own).sent (m ∷ []))));
    once = once-now;
    dropped = track.dropped;
    strays = All-weaker (IsStray old.log) (IsStray new.log)
        (λ p. stray_on old.log new.log p (id ∙ ap (λ (l : LogMeaning C). l.part.id) entered.stored) (one-on p)
        (λ x there. subst (λ ks. Contains ks x) (sym (known ∙ ap (λ (l : LogMeaning C). l.part.known) entered.stored)) there)) track.dropped track.strays;
    stages = λ n.
        let r : answered_as n new.replies ≡ answered_as n old.replies = ap (answered_as n) replies in
        let l : posted_as n new.later ≡ posted_as n old.later = ap (posted_as n) later in
        omega (arith, posted n, heard_count n, sent_count n, track.stages n);
    aside = subst (All (WasSetAside (known_of new.log.part.own).sent)) (sym later)
        (All-weaker (WasSetAside (known_of old.log.part.own).sent) (WasSetAside (known_of new.log.part.own).sent) (λ p. aside_on (known_of old.log.part.own).sent (known_of new.log.part.own).sent p (one-on p)) old.later track.aside);
    posted = all_from_contains (Says (known_of new.log.part.own).sent) new.posted (λ x there. elim (all x there) [
      | inl before ↦ says-on x.number x.request (All-contains (Says (known_of old.log.part.own).sent) old.posted x track.posted before)
      | inr now ↦ subst (Says (known_of new.log.part.own).sent) now says-now
    ]);
    waits = all_from_contains (IsOneSent (known_of new.log.part.own).sent) new.posted (λ x there. subst (λ (xs : List Sent). IsOneSent xs x) (sym sent_is) (elim (all x there) [
      | inl before ↦ Contains-append_left (known_of old.log.part.own).sent (m ∷ []) _ (All-contains (IsOneSent (known_of old.log.part.own).sent) old.posted x track.waits before)
      | inr now ↦ subst (IsOneSent ((known_of old.log.part.own).sent ++ m ∷ [])) now (Contains-push (known_of old.log.part.own).sent m)
    ]));
    answered = subst (All (IsAnsweredBy new.log)) (sym replies)
        (All-weaker (IsAnsweredBy old.log) (IsAnsweredBy new.log)
        (λ a. answered_on old.log new.log a (id ∙ ap (λ (l : LogMeaning C). l.part.id) entered.stored) (says-on a.number)
        (λ x there. subst (λ ks. Contains ks x) (sym (known ∙ ap (λ (l : LogMeaning C). l.part.known) entered.stored)) there)) old.replies track.answered);
    turn = record {
      rising = subst AreInTurn (sym replies) track.turn.rising;
      behind = all_from_contains (λ (x : Posted). All (λ (a : Answered). a.number < x.number) new.replies) new.posted (λ x there.
          subst (All (λ (a : Answered). a.number < x.number)) (sym replies) (elim (all x there) [
            | inl before ↦ All-contains (λ (x : Posted). All (λ (a : Answered). a.number < x.number) old.replies) old.posted x track.turn.behind before
            | inr now ↦ subst (λ (x : Posted). All (λ (a : Answered). a.number < x.number) old.replies) now (replies_below old number track (omega (arith, next)))
          ]));
    };
    wave =
        let q : Pair Event = added old.log sent (events.Send number range request) entered in
        let own-is = own_after old.log sent (events.Send number range request) entered in
        let same : (known_of (old.log.part.own ++ q ∷ [])).heard ≡ (known_of old.log.part.own).heard = ap (λ (o : List (Pair Event)). (known_of o).heard) (sym own-is) ∙ heard_then old.log sent number range request entered in
        subst (λ b. WaitInWave b new.log.part.own new.posted new.replies) (sym beside)
        (subst (λ o. WaitInWave old.log.beside o new.posted new.replies) (sym (own ∙ own-is))
        (subst (WaitInWave old.log.beside (old.log.part.own ++ q ∷ []) new.posted) (sym (replies ∙ none))
        (wave_sent old.log.beside old.log.part.own q old.posted new.posted (λ hears. hears) same (subst (WaitInWave old.log.beside old.log.part.own old.posted) none track.wave))));
    given = gives_one old.log.part sent.part new.log.part (added old.log sent (events.Send number range request) entered) (own_after old.log sent (events.Send number range request) entered) (ap (λ (l : LogMeaning C). l.part.given) entered.stored) gives track.given;
  }

  pub way_sent : (other : ℕ) → is_on_way other new ≡ (number == other || is_on_way other old)
  way_sent other = by (number == other) refl
    where
      p : list_any (λ (x : Posted). x.number == other) new.posted ≡ nat_lt 0 (posted_as other old.posted + one_if (number == other))
      p = any_counts (λ (x : Posted). x.number == other) new.posted ∙ ap (nat_lt 0) (posted other)

      q : list_any (λ (x : Posted). x.number == other) old.posted ≡ nat_lt 0 (posted_as other old.posted)
      q = any_counts (λ (x : Posted). x.number == other) old.posted

      r : list_any (λ (a : Answered). a.number == other) new.replies ≡ list_any (λ (a : Answered). a.number == other) old.replies
      r = ap (list_any (λ (a : Answered). a.number == other)) replies

      by : (b : Bool) → (number == other) ≡ b → is_on_way other new ≡ (number == other || is_on_way other old)
      by true is =
          let one : nat_lt 0 (posted_as other old.posted + one_if (number == other)) ≡ true = (let o = ap one_if is in grind (arith, nat_tests)) in
          ap (λ x. x || list_any (λ (a : Answered). a.number == other) new.replies) (p ∙ one) ∙ sym (ap (λ b. b || is_on_way other old) is)
      by false is =
          let same : nat_lt 0 (posted_as other old.posted + one_if (number == other)) ≡ nat_lt 0 (posted_as other old.posted) = ap (nat_lt 0) (let o = ap one_if is in omega arith) in
          ap (λ x. x || list_any (λ (a : Answered). a.number == other) new.replies) (p ∙ (same ∙ sym q))
          ∙ (ap (λ x. list_any (λ (y : Posted). y.number == other) old.posted || x) r ∙ sym (ap (λ b. b || is_on_way other old) is))

-- ---- a message is evaluated

module _ {C : Type 0} (old new : DeskMeaning C) (m : Posted) (a : Answered) (track : KeepsTrack old) (first : old.posted ≡ m ∷ new.posted) (pushed : new.replies ≡ old.replies ++ a ∷ []) (to : a.number ≡ m.number) (later : All (λ (p : Posted). m.number < p.number) new.posted) (own : new.log.part.own ≡ old.log.part.own) (aside : new.later ≡ old.later) where
  posted-count : (n : ℕ) → posted_as n old.posted ≡ one_if (m.number == n) + posted_as n new.posted
  posted-count n = ap (posted_as n) first ∙ count-cons (λ (x : Posted). x.number == n) m new.posted

  replies-count : (n : ℕ) → answered_as n new.replies ≡ answered_as n old.replies + one_if (m.number == n)
  replies-count n = ap (answered_as n) pushed ∙ (count-push (λ (x : Answered). x.number == n) old.replies a ∙ ap (λ i. answered_as n old.replies + one_if (i == n)) to)

  same-known : known_of new.log.part.own ≡ known_of old.log.part.own
  same-known = ap known_of own

  first-said : Says (known_of old.log.part.own).sent m
  first-said = All-head (Says (known_of old.log.part.own).sent) m new.posted (subst (All (Says (known_of old.log.part.own).sent)) first track.posted)

  pub track_delivered : (range place : ℕ) → IsOwnLog new.log → new.sends ≡ old.sends → new.log.part.id ≡ old.log.part.id
      → new.log.part.known ≡ old.log.part.known ++ record { entry = evaluation a.step range old.log.part.id a.number a.reply; place = place; uses = 0 } ∷ []
      → ((x : KnownEntry Event) → Contains (old.log.part.known ++ record { entry = evaluation a.step range old.log.part.id a.number a.reply; place = place; uses = 0 } ∷ []) x → Contains new.log.part.known x)
      → Contains new.log.part.known (record { entry = evaluation a.step range old.log.part.id a.number a.reply; place = place; uses = 0 })
      → new.log.part.given ≡ old.log.part.given → new.log.beside ≡ old.log.beside → All (λ (p : Pair Event). p.entry.step < a.step) old.log.part.own
      → (old.log.beside ≡ false → All (λ (b : Answered). b.step < a.step) old.replies) → KeepsTrack new
  track_delivered range place log sends id known has there given beside behind after = record {
    log = log;
    counted = sends ∙ (track.counted ∙ ap (λ (k : Known). length k.sent) (sym same-known));
    numbers = subst (λ (k : Known). All (λ x. x.number ≤ length k.sent) k.sent) (sym same-known) track.numbers;
    once = λ n. subst (λ (k : Known). times_sent n k ≤ 1) (sym same-known) (track.once n);
    dropped = track.dropped;
    strays = All-weaker (IsStray old.log) (IsStray new.log)
        (λ p. stray_on old.log new.log p id (λ one. subst (λ (k : Known). IsOneSent k.sent p) (sym same-known) one) (λ e knows. has e (Contains-append_left old.log.part.known _ e knows))) track.dropped track.strays;
    stages = λ n.
        subst (λ (k : Known). posted_as n new.posted + (posted_as n new.later + posted_as n track.dropped) + answered_as n new.replies + heard_as_number n k ≡ times_sent n k) (sym same-known)
        (let l : posted_as n new.later ≡ posted_as n old.later = ap (posted_as n) aside in omega (arith, posted-count n, replies-count n, track.stages n));
    aside = subst (λ (k : Known). All (WasSetAside k.sent) new.later) (sym same-known) (subst (All (WasSetAside (known_of old.log.part.own).sent)) (sym aside) track.aside);
    posted = subst (λ (k : Known). All (Says k.sent) new.posted) (sym same-known) (All-tail (Says (known_of old.log.part.own).sent) m new.posted (subst (All (Says (known_of old.log.part.own).sent)) first track.posted));
    waits = subst (λ (k : Known). All (IsOneSent k.sent) new.posted) (sym same-known) (All-tail (IsOneSent (known_of old.log.part.own).sent) m new.posted (subst (All (IsOneSent (known_of old.log.part.own).sent)) first track.waits));
    answered = subst (All (IsAnsweredBy new.log)) (sym pushed)
        (All-push (IsAnsweredBy new.log) old.replies a
        (All-weaker (IsAnsweredBy old.log) (IsAnsweredBy new.log)
        (λ x. answered_on old.log new.log x id (λ r said. subst (λ (k : Known). request_sent x.number k.sent ≡ Some r) (sym same-known) said)
        (λ e knows. has e (Contains-append_left old.log.part.known _ e knows))) old.replies track.answered)
        (record {
          range = range;
          place = place;
          request = m.request;
          said = subst (λ (k : Known). request_sent a.number k.sent ≡ Some m.request) (sym same-known) (subst (λ n. request_sent n (known_of old.log.part.own).sent ≡ Some m.request) (sym to) first-said);
          knows = subst (λ (i : ActorId). Contains new.log.part.known (record { entry = evaluation a.step range i a.number a.reply; place = place; uses = 0 })) (sym id) there;
        }));
    turn = subst (λ rs. WaitInTurn rs new.posted) (sym pushed) (turn_delivered m new.posted old.replies a to later (subst (WaitInTurn old.replies) first track.turn));
    wave =
        subst (λ b. WaitInWave b new.log.part.own new.posted new.replies) (sym beside)
        (subst (λ o. WaitInWave old.log.beside o new.posted new.replies) (sym own)
        (subst (WaitInWave old.log.beside old.log.part.own new.posted) (sym pushed)
        (wave_evaluated old.log.beside old.log.part.own m new.posted old.replies a behind after (subst (λ ps. WaitInWave old.log.beside old.log.part.own ps old.replies) first track.wave))));
    given = gives_same old.log.part new.log.part own given track.given;
  }

  pub way_delivered : (n : ℕ) → is_on_way n new ≡ is_on_way n old
  way_delivered n =
      ap (λ x. x || list_any (λ (y : Answered). y.number == n) new.replies) (any_counts (λ (y : Posted). y.number == n) new.posted)
      ∙ (ap (λ x. nat_lt 0 (posted_as n new.posted) || x) (any_counts (λ (y : Answered). y.number == n) new.replies)
      ∙ (by (m.number == n) refl
      ∙ (ap (λ x. x || nat_lt 0 (answered_as n old.replies)) (sym (any_counts (λ (y : Posted). y.number == n) old.posted))
      ∙ ap (λ x. list_any (λ (y : Posted). y.number == n) old.posted || x) (sym (any_counts (λ (y : Answered). y.number == n) old.replies)))))
    where
      by : (b : Bool) → (m.number == n) ≡ b → (nat_lt 0 (posted_as n new.posted) || nat_lt 0 (answered_as n new.replies)) ≡ (nat_lt 0 (posted_as n old.posted) || nat_lt 0 (answered_as n old.replies))
      by true is =
          let o : one_if (m.number == n) ≡ 1 = ap one_if is in
          let p : nat_lt 0 (posted_as n old.posted) ≡ true = (let c = posted-count n in grind (arith, nat_tests)) in
          let r : nat_lt 0 (answered_as n new.replies) ≡ true = (let c = replies-count n in grind (arith, nat_tests)) in
          grind (arith, nat_tests)
      by false is =
          let o : one_if (m.number == n) ≡ 0 = ap one_if is in
          let p : posted_as n old.posted ≡ posted_as n new.posted = (let c = posted-count n in omega arith) in
          let r : answered_as n new.replies ≡ answered_as n old.replies = (let c = replies-count n in omega arith) in
          ap (λ x. nat_lt 0 x || nat_lt 0 (answered_as n new.replies)) (sym p) ∙ ap (λ x. nat_lt 0 (posted_as n old.posted) || nat_lt 0 x) r

-- ---- a reply is heard

module _ {C : Type 0} (old new : DeskMeaning C) (a : Answered) (track : KeepsTrack old) (first : old.replies ≡ a ∷ new.replies) (posted : new.posted ≡ old.posted) (by : IsAnsweredBy old.log a) (entered : HasEntered old.log new.log (events.Hear a.number a.step)) (later : new.later ≡ old.later) where
  sent-same : (known_of new.log.part.own).sent ≡ (known_of old.log.part.own).sent
  sent-same = sent_still old.log new.log a track.log by entered

  heard-count : (n : ℕ) → heard_as_number n (known_of new.log.part.own) ≡ heard_as_number n (known_of old.log.part.own) + one_if (a.number == n)
  heard-count n =
      ap (count_by (λ (x : Heard). x.number == n)) (heard_more old.log new.log a track.log by entered)
      ∙ count-push (λ (x : Heard). x.number == n) (known_of old.log.part.own).heard (reply_of old.log new.log a track.log by entered)

  replies-were : (n : ℕ) → answered_as n old.replies ≡ one_if (a.number == n) + answered_as n new.replies
  replies-were n = ap (answered_as n) first ∙ count-cons (λ (x : Answered). x.number == n) a new.replies

  pub track_heard : new.sends ≡ old.sends → old.posted ≡ [] → KeepsTrack new
  track_heard sends none = record {
    log = entered.log;
    counted = sends ∙ (track.counted ∙ ap length (sym sent-same));
    numbers = subst (λ (xs : List Sent). All (λ x. x.number ≤ length xs) xs) (sym sent-same) track.numbers;
    once = λ n. subst (λ (xs : List Sent). count_by (λ (x : Sent). x.number == n) xs ≤ 1) (sym sent-same) (track.once n);
    dropped = track.dropped;
    strays = All-weaker (IsStray old.log) (IsStray new.log)
        (λ p. stray_on old.log new.log p (ap (λ (l : LogMeaning C). l.part.id) entered.stored) (λ one. subst (λ (xs : List Sent). IsOneSent xs p) (sym sent-same) one)
        (λ e there. subst (λ ks. Contains ks e) (sym (known_still old.log new.log a track.log by entered)) there)) track.dropped track.strays;
    aside = subst (All (WasSetAside (known_of new.log.part.own).sent)) (sym later) (subst (λ (xs : List Sent). All (WasSetAside xs) old.later) (sym sent-same) track.aside);
    stages = λ n.
        let p : posted_as n new.posted ≡ posted_as n old.posted = ap (posted_as n) posted in
        let l : posted_as n new.later ≡ posted_as n old.later = ap (posted_as n) later in
        let s : times_sent n (known_of new.log.part.own) ≡ times_sent n (known_of old.log.part.own) = ap (count_by (λ (x : Sent). x.number == n)) sent-same in
        omega (arith, heard-count n, replies-were n, track.stages n);
    posted = subst (All (Says (known_of new.log.part.own).sent)) (sym posted) (subst (λ (xs : List Sent). All (Says xs) old.posted) (sym sent-same) track.posted);
    waits = subst (All (IsOneSent (known_of new.log.part.own).sent)) (sym posted) (subst (λ (xs : List Sent). All (IsOneSent xs) old.posted) (sym sent-same) track.waits);
    answered =
        All-weaker (IsAnsweredBy old.log) (IsAnsweredBy new.log)
        (λ x. answered_on old.log new.log x (ap (λ (l : LogMeaning C). l.part.id) entered.stored) (λ r said. subst (λ (xs : List Sent). request_sent x.number xs ≡ Some r) (sym sent-same) said)
        (λ e there. subst (λ ks. Contains ks e) (sym (known_still old.log new.log a track.log by entered)) there)) new.replies
        (All-tail (IsAnsweredBy old.log) a new.replies (subst (All (IsAnsweredBy old.log)) first track.answered));
    turn = subst (WaitInTurn new.replies) (sym posted) (turn_heard a new.replies old.posted (subst (λ rs. WaitInTurn rs old.posted) first track.turn));
    wave =
        let q : Pair Event = added old.log new.log (events.Hear a.number a.step) entered in
        let own-is = own_after old.log new.log (events.Hear a.number a.step) entered in
        let h : Heard = reply_of old.log new.log a track.log by entered in
        let same : (known_of (old.log.part.own ++ q ∷ [])).heard ≡ (known_of old.log.part.own).heard ++ h ∷ [] =
        ap (λ (o : List (Pair Event)). (known_of o).heard) (sym own-is) ∙ heard_more old.log new.log a track.log by entered in
        let below = subst (All (λ (b : Answered). b.step < entered.step)) first (answers_before old new.log (events.Hear a.number a.step) track entered) in
        subst (λ b. WaitInWave b new.log.part.own new.posted new.replies) (sym (ap (λ (l : LogMeaning C). l.beside) entered.stored))
        (subst (λ o. WaitInWave old.log.beside o new.posted new.replies) (sym own-is)
        (subst (λ ps. WaitInWave old.log.beside (old.log.part.own ++ q ∷ []) ps new.replies) (sym (posted ∙ none))
        (wave_heard old.log.beside old.log.part.own q h a new.replies (λ sent. sent) same refl below
        (subst (λ ps. WaitInWave old.log.beside old.log.part.own ps (a ∷ new.replies)) none (subst (WaitInWave old.log.beside old.log.part.own old.posted) first track.wave)))));
    given = gives_none old.log.part new.log.part (added old.log new.log (events.Hear a.number a.step) entered) (own_after old.log new.log (events.Hear a.number a.step) entered) (ap (λ (l : LogMeaning C). l.part.given) entered.stored) track.given;
  }

  pub way_heard : (n : ℕ) → is_on_way n new ≡ (is_on_way n old && not (a.number == n))
  way_heard n =
      ap (λ x. x || list_any (λ (y : Answered). y.number == n) new.replies) (any_counts (λ (y : Posted). y.number == n) new.posted ∙ ap (λ ps. nat_lt 0 (posted_as n ps)) posted)
      ∙ (ap (λ x. nat_lt 0 (posted_as n old.posted) || x) (any_counts (λ (y : Answered). y.number == n) new.replies)
      ∙ (cases (a.number == n) refl
      ∙ ap (λ x. x && not (a.number == n)) (ap (λ x. x || nat_lt 0 (answered_as n old.replies)) (sym (any_counts (λ (y : Posted). y.number == n) old.posted))
      ∙ ap (λ x. list_any (λ (y : Posted). y.number == n) old.posted || x) (sym (any_counts (λ (y : Answered). y.number == n) old.replies)))))
    where
      cases : (b : Bool) → (a.number == n) ≡ b → (nat_lt 0 (posted_as n old.posted) || nat_lt 0 (answered_as n new.replies)) ≡ ((nat_lt 0 (posted_as n old.posted) || nat_lt 0 (answered_as n old.replies)) && not (a.number == n))
      cases true is =
          let o : one_if (a.number == n) ≡ 1 = ap one_if is in
          let p : posted_as n old.posted ≡ 0 = (let c = replies-were n in let s = track.stages n in let w = track.once n in omega arith) in
          let r : answered_as n new.replies ≡ 0 = (let c = replies-were n in let s = track.stages n in let w = track.once n in omega arith) in
          let x : nat_lt 0 (posted_as n old.posted) ≡ false = grind (arith, nat_tests) in
          let y : nat_lt 0 (answered_as n new.replies) ≡ false = grind (arith, nat_tests) in
          grind (arith, nat_tests)
      cases false is =
          let o : one_if (a.number == n) ≡ 0 = ap one_if is in
          let r : answered_as n old.replies ≡ answered_as n new.replies = (let c = replies-were n in omega arith) in
          let same : nat_lt 0 (answered_as n old.replies) ≡ nat_lt 0 (answered_as n new.replies) = ap (nat_lt 0) r in
          grind (arith, nat_tests)

-- no reply to a message whose reply waits to be heard was heard before
pub unheard_yet : {C : Type 0} (d : DeskMeaning C) (a : Answered) (rest : List Answered) → KeepsTrack d → d.replies ≡ a ∷ rest → heard_as_number a.number (known_of d.log.part.own) ≡ 0
unheard_yet d a rest track first =
    let here : answered_as a.number d.replies ≡ one_if (a.number == a.number) + answered_as a.number rest = ap (answered_as a.number) first ∙ count-cons (λ (x : Answered). x.number == a.number) a rest in
    let o : one_if (a.number == a.number) ≡ 1 = grind (arith, nat_tests) in
    let s = track.stages a.number in
    let w = track.once a.number in
    omega arith

-- an event that sends and hears nothing leaves each message at its stage
pub track_done : {C : Type 0} (old new : DeskMeaning C) (event : Event) → KeepsTrack old → HasEntered old.log new.log event → new ≡ record old { log = new.log }
    → (known_of new.log.part.own).sent ≡ (known_of old.log.part.own).sent → (known_of new.log.part.own).heard ≡ (known_of old.log.part.own).heard → new.log.part.known ≡ old.log.part.known
    → (IsSending event → ⊥) → (IsHearing event → ⊥) → KeepsTrack new
track_done {C} old new event track entered rest sent heard known no_sending no_hearing =
    let posted : new.posted ≡ old.posted = ap (λ d. d.posted) rest in
    let replies : new.replies ≡ old.replies = ap (λ d. d.replies) rest in
    let later : new.later ≡ old.later = ap (λ d. d.later) rest in
    record {
      log = entered.log;
      counted = ap (λ d. d.sends) rest ∙ (track.counted ∙ ap length (sym sent));
      numbers = subst (λ (xs : List Sent). All (λ x. x.number ≤ length xs) xs) (sym sent) track.numbers;
      once = λ n. subst (λ (xs : List Sent). count_by (λ (x : Sent). x.number == n) xs ≤ 1) (sym sent) (track.once n);
      dropped = track.dropped;
      strays = All-weaker (IsStray old.log) (IsStray new.log)
          (λ p. stray_on old.log new.log p (ap (λ l. l.part.id) entered.stored) (λ one. subst (λ (xs : List Sent). IsOneSent xs p) (sym sent) one) (λ e there. subst (λ ks. Contains ks e) (sym known) there)) track.dropped track.strays;
      aside = subst (All (WasSetAside (known_of new.log.part.own).sent)) (sym later) (subst (λ (xs : List Sent). All (WasSetAside xs) old.later) (sym sent) track.aside);
      stages = λ n.
          let p : posted_as n new.posted ≡ posted_as n old.posted = ap (posted_as n) posted in
          let l : posted_as n new.later ≡ posted_as n old.later = ap (posted_as n) later in
          let r : answered_as n new.replies ≡ answered_as n old.replies = ap (answered_as n) replies in
          let h : heard_as_number n (known_of new.log.part.own) ≡ heard_as_number n (known_of old.log.part.own) = ap (count_by (λ (x : Heard). x.number == n)) heard in
          let s : times_sent n (known_of new.log.part.own) ≡ times_sent n (known_of old.log.part.own) = ap (count_by (λ (x : Sent). x.number == n)) sent in
          omega (arith, track.stages n);
      posted = subst (All (Says (known_of new.log.part.own).sent)) (sym posted) (subst (λ (xs : List Sent). All (Says xs) old.posted) (sym sent) track.posted);
      waits = subst (All (IsOneSent (known_of new.log.part.own).sent)) (sym posted) (subst (λ (xs : List Sent). All (IsOneSent xs) old.posted) (sym sent) track.waits);
      answered = subst (All (IsAnsweredBy new.log)) (sym replies)
          (All-weaker (IsAnsweredBy old.log) (IsAnsweredBy new.log)
          (λ x. answered_on old.log new.log x (ap (λ l. l.part.id) entered.stored) (λ r said. subst (λ (xs : List Sent). request_sent x.number xs ≡ Some r) (sym sent) said)
          (λ e there. subst (λ ks. Contains ks e) (sym known) there)) old.replies track.answered);
      turn = subst (λ ps. WaitInTurn new.replies ps) (sym posted) (subst (λ rs. WaitInTurn rs old.posted) (sym replies) track.turn);
      wave =
          let q : Pair Event = added old.log new.log event entered in
          let own-is = own_after old.log new.log event entered in
          let same : (known_of (old.log.part.own ++ q ∷ [])).heard ≡ (known_of old.log.part.own).heard = ap (λ (o : List (Pair Event)). (known_of o).heard) (sym own-is) ∙ heard in
          subst (λ b. WaitInWave b new.log.part.own new.posted new.replies) (sym (ap (λ (l : LogMeaning C). l.beside) entered.stored))
          (subst (λ o. WaitInWave old.log.beside o new.posted new.replies) (sym own-is)
          (subst (λ ps. WaitInWave old.log.beside (old.log.part.own ++ q ∷ []) ps new.replies) (sym posted)
          (subst (WaitInWave old.log.beside (old.log.part.own ++ q ∷ []) old.posted) (sym replies)
          (wave_done old.log.beside old.log.part.own q old.posted old.replies no_sending no_hearing same (answers_before old new.log event track entered) track.wave))));
      given = gives_none old.log.part new.log.part (added old.log new.log event entered) (own_after old.log new.log event entered) (ap (λ l. l.part.given) entered.stored) track.given;
    }
