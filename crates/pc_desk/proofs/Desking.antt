-- What an actor's messages are after each step of its desk, from what the parts of the step say.
use Rattle.std.proofs.Common.{◌≡◌, ℕ, ◌+◌, ◌-◌, ◌<◌, ◌≤◌, ◌^◌, ◌==◌, Bool, false, cond, inl, inr, All, Contains, List, [], ◌∷◌, ◌++◌, length, map, fold, count_by, slice_get, Option, None, Some, IfOk, OnOk, OnErr, Ok, Err, Result, refl, sym, ap, subst, ◌∙◌, arith, length-append}
use Rattle.std.proofs.lemmas.List.{append-nil}
use Rattle.std.proofs.lemmas.List.Elements.{All-contains, All-head, All-nil, All-tail, All-weaker, Contains-append_left, Contains-push, recursion_from_All}
use Rattle.std.specs.BTreeMap.{insert_entry, is_at}
use Rattle.std.specs.List.{AllByRecursion as Each}
use Rattle.std.specs.Map.{lookup}
use Rattle.std.specs.Option.{option_to_list}
use Rattle.std.specs.Ordering.{nat_cmp}
use Rattle.pc_base.specs.declared.actor.ActorId.{ActorId}
use Rattle.pc_base.specs.declared.entry.Entry.{Entry}
use Rattle.pc_desk.proofs.Counting.{insert_all, insert_contains, insert_count, lookup_none, none_beyond}
use Rattle.pc_desk.proofs.Entering.{log_kept}
use Rattle.pc_desk.proofs.Going.{kept_below}
use Rattle.pc_desk.proofs.Making.{added, hear_brings, hear_names_it, known_after_it, may_hear, own_after}
use Rattle.pc_desk.proofs.Tracking.{answered_on, gives_same, stray_on, track_delivered, track_done, track_heard, track_sent, unheard_yet, way_delivered, way_heard, way_sent}
use Rattle.pc_desk.proofs.Waves.{newest_evaluated, note_behind}
use Rattle.pc_desk.specs.declared.answered.Answered.{Answered}
use Rattle.pc_desk.specs.Desk.{DeskMeaning, EndsWithSend, HasDelivered, HasDone, HasHeardFirst, HasKept, HasPosted, HasSentTo, IsAnsweredBy, WasSetAside, IsDesk, IsOneSent, IsReadyToGo, IsStray, KeepsTrack, MayHearNow, Posted, WaitingMessage, answered_as, as_sent, heard_as_number, posted_as, posting, times_sent, uses_by}
use Rattle.pc_desk.specs.OwnLog.{HasEntered, IsOwnLog, LogMeaning, MayEnter, Took}
use Rattle.pc_desk.specs.Waiting.{IsBehindAll, IsNewest, WaitInWave}
use Rattle.pc_desk.specs.Waves.{KeepsWaves, KeepsWavesNext}
use Rattle.pc_follows.specs.WaveEvaluation.{IsInWave, IsSending}
use Rattle.pc_follows.specs.WaveOrder.{IsHearing}
use Rattle.pc_history.proofs.Callers.{knows-own, noted-at}
use Rattle.pc_history.specs.declared.pair.Pair.{Pair}
use Rattle.pc_history.specs.declared.view.Known.{Known as KnownEntry}
use Rattle.pc_history.specs.Parts.{entry_of, gave, knowledge, named_by, noted, spend, uses_left, with_uses, without_uses}
use Rattle.pc_lists.proofs.Counts.{count-cons, one_if}
use Rattle.pc_lists.proofs.Lists.{contains_map, contains_nil, get_push}
use Rattle.pc_proto.specs.declared.event.Event.{Event}
use Rattle.pc_proto.specs.declared.event.Event.TheVariants as events
use Rattle.pc_proto.specs.declared.request.Request.{Request}
use Rattle.pc_proto.specs.Stamps.{request_stamps}
use Rattle.pc_range.proofs.Evaluating.{gave-nothing}
use Rattle.pc_range.specs.Message.{ComesAfter, IsEvalNote, evaluation}
use Rattle.pc_wire.specs.declared.verdict.Verdict.{Verdict}
use Rattle.pc_wire.specs.declared.verdict.Verdict.TheVariants as verdicts
use Rattle.pc_world.specs.Known.{Known, known_of, learn, nothing_known}
use Rattle.pc_world.specs.Known.Traffic.{Heard, Sent, heard_by, request_sent, sent_by}
use Rattle.pc_world.specs.RangeOf.{GoesTo}
use Rattle.pc_world.specs.Run.{IsKept, protocol, spends}
use Rattle.pc_world.specs.Stamps.{AllBelowGreatest}

-- ---- a call is asked, or told its answer

done-at : {C : Type 0} (old : DeskMeaning C) (after : LogMeaning C) (event : Event) → sent_by event ≡ [] → ((named : Option (Entry Event)) (sent : List Sent) → heard_by event named sent ≡ None) → spends event ≡ false
    → (IsSending event → ⊥) → (IsHearing event → ⊥) → KeepsTrack old → HasEntered old.log after event → HasDone old (record old { log = after }) event
done-at old after event sends hears free no_sending no_hearing track entered = record {
  entered = entered;
  rest = refl;
  track = track_done old (record old { log = after }) event track entered refl
      (ap (λ (k : Known). k.sent) (known_after_it old.log after event entered) ∙ (ap (λ xs. (known_of old.log.part.own).sent ++ xs) sends ∙ append-nil (known_of old.log.part.own).sent))
      (ap (λ (k : Known). k.heard) (known_after_it old.log after event entered) ∙ (ap (λ o. (known_of old.log.part.own).heard ++ option_to_list o) (hears _ _) ∙ append-nil (known_of old.log.part.own).heard))
      (ap (λ l. l.part.known) entered.stored ∙ ap (λ b. cond b (spend (named_by (protocol old.log.head) old.log.part event) old.log.part.known) old.log.part.known) free) no_sending no_hearing;
}

pub has_done : {C : Type 0} (v old : DeskMeaning C) (after : LogMeaning C) (event : Event) → v ≡ old → sent_by event ≡ [] → ((named : Option (Entry Event)) (sent : List Sent) → heard_by event named sent ≡ None) → spends event ≡ false
    → (IsSending event → ⊥) → (IsHearing event → ⊥) → KeepsTrack old → HasEntered v.log after event → HasDone old (record v { log = after }) event
has_done v old after event same sends hears free no_sending no_hearing track entered =
    subst (λ d. HasEntered d.log after event → HasDone old (record d { log = after }) event) (sym same) (done-at old after event sends hears free no_sending no_hearing track) entered

-- ---- a reply is heard

pub hear_may : {C : Type 0} (old : DeskMeaning C) (a : Answered) (rest : List Answered) → KeepsTrack old → MayHearNow old → old.replies ≡ a ∷ rest → MayEnter old.log (events.Hear a.number a.step)
hear_may old a rest track may first =
    let by = All-head (IsAnsweredBy old.log) a rest (subst (All (IsAnsweredBy old.log)) first track.answered) in
    may_hear old.log a track.log by (unheard_yet old a rest track first) (may.each a rest by.range first)

-- the reply that is heard was evaluated with its wave
pub hear_waves : {C : Type 0} (old : DeskMeaning C) (a : Answered) (rest : List Answered) → KeepsTrack old → old.replies ≡ a ∷ rest
    → KeepsWavesNext old.log.beside old.log.part.own (events.Hear a.number a.step) (named_by (protocol old.log.head) old.log.part (events.Hear a.number a.step))
hear_waves old a rest track first =
    let by = All-head (IsAnsweredBy old.log) a rest (subst (All (IsAnsweredBy old.log)) first track.answered) in
    let w = subst (WaitInWave old.log.beside old.log.part.own old.posted) first track.wave in
    subst (KeepsWaves old.log.beside old.log.part.own) (sym (hear_brings old.log a track.log by)) (record {
      whole = All-head (λ (b : Answered). IsInWave old.log.part.own b.step) a rest w.wave;
      order = λ one. All-head (λ (b : Answered). All (λ (h : Heard). h.step < b.step) (known_of old.log.part.own).heard) a rest (w.order one).behind;
    })

heard-at : {C : Type 0} (old : DeskMeaning C) (after : LogMeaning C) (a : Answered) (rest : List Answered) → KeepsTrack old → old.posted ≡ [] → old.replies ≡ a ∷ rest → HasEntered old.log after (events.Hear a.number a.step)
    → HasHeardFirst old (record old { log = after; replies = rest }) a
heard-at old after a rest track none first entered =
    let by = All-head (IsAnsweredBy old.log) a rest (subst (All (IsAnsweredBy old.log)) first track.answered) in
    let new = record old { log = after; replies = rest } in
    record {
      range = by.range;
      first = first;
      posted = refl;
      entered = entered;
      named = hear_names_it old.log a track.log by;
      track = track_heard old new a track first refl by entered refl refl none;
      way = way_heard old new a track first refl by entered refl;
      later = refl;
      limit = refl;
    }

pub has_heard : {C : Type 0} (v old : DeskMeaning C) (after : LogMeaning C) (a : Answered) (rest : List Answered) → v ≡ old → KeepsTrack old → old.posted ≡ [] → v.replies ≡ a ∷ rest → HasEntered v.log after (events.Hear a.number a.step)
    → HasHeardFirst old (record v { log = after; replies = rest }) a
has_heard v old after a rest same track none first entered =
    subst (λ d. d.replies ≡ a ∷ rest → HasEntered d.log after (events.Hear a.number a.step) → HasHeardFirst old (record d { log = after; replies = rest }) a) (sym same) (heard-at old after a rest track none) first entered

-- ---- a message is evaluated

pub desk_first : {C Y : Type 0} (splits : List (List ℕ)) (log : LogMeaning C) (g : Y → WaitingMessage) (ws rest : List Y) (y : Y) → ws ≡ y ∷ rest → IsDesk splits log (map g ws) → IsReadyToGo log.part.id splits (g y)
desk_first splits log g ws rest y whole desk =
    subst (λ s. IsReadyToGo log.part.id s (g y)) (sym desk.same)
    (All-head (IsReadyToGo log.part.id log.head.splits) (g y) (map g rest) (subst (λ l. All (IsReadyToGo log.part.id log.head.splits) (map g l)) whole desk.ready))

pub desk_rest : {C Y : Type 0} (splits : List (List ℕ)) (log : LogMeaning C) (g : Y → WaitingMessage) (ws rest : List Y) (y : Y) → ws ≡ y ∷ rest → IsDesk splits log (map g ws) → IsDesk splits log (map g rest)
desk_rest splits log g ws rest y whole desk = record {
  same = desk.same;
  rising = desk.rising;
  few = desk.few;
  ready = All-tail (IsReadyToGo log.part.id log.head.splits) (g y) (map g rest) (subst (λ l. All (IsReadyToGo log.part.id log.head.splits) (map g l)) whole desk.ready);
}

module _ {C : Type 0} (old new : DeskMeaning C) (rest : List Posted) (m : Posted) (a : Answered) (note : List (KnownEntry Event)) (range : ℕ) (track : KeepsTrack old) (first : old.posted ≡ m ∷ rest) (later : All (λ (p : Posted). m.number < p.number) rest) (to : a.number ≡ m.number)
    (tells : IsEvalNote old.log.part.id m.number range a.step a.reply note) (kept : HasKept (record old { posted = rest }) new a note) (behind : All (λ (p : Pair Event). p.entry.step < a.step) old.log.part.own)
    (after : old.log.beside ≡ false → All (λ (b : Answered). b.step < a.step) old.replies) where
  -- What the note tells.
  abbrev told_of : KnownEntry Event
  told_of = record { entry = evaluation a.step range old.log.part.id a.number a.reply; place = tells.place; uses = 0 }

  note-is : note ≡ told_of ∷ []
  note-is = subst (λ n. note ≡ record { entry = evaluation a.step range old.log.part.id n a.reply; place = tells.place; uses = 0 } ∷ []) (sym to) tells.tells

  knows-more : new.log.part.known ≡ old.log.part.known ++ told_of ∷ []
  knows-more = ap (λ (d : DeskMeaning C). d.log.part.known) kept.kept ∙ ap (λ n. old.log.part.known ++ n) note-is

  posted-is : old.posted ≡ m ∷ new.posted
  posted-is = first ∙ ap (λ l. m ∷ l) (sym (ap (λ (d : DeskMeaning C). d.posted) kept.kept))

  replies-are : new.replies ≡ old.replies ++ a ∷ []
  replies-are = ap (λ (d : DeskMeaning C). d.replies) kept.kept

  later-are : All (λ (p : Posted). m.number < p.number) new.posted
  later-are = subst (All (λ (p : Posted). m.number < p.number)) (sym (ap (λ (d : DeskMeaning C). d.posted) kept.kept)) later

  own-is : new.log.part.own ≡ old.log.part.own
  own-is = ap (λ (d : DeskMeaning C). d.log.part.own) kept.kept

  later-is : new.later ≡ old.later
  later-is = ap (λ (d : DeskMeaning C). d.later) kept.kept

  delivered-at : HasDelivered old new
  delivered-at = record {
    own = ap (λ (d : DeskMeaning C). d.log) kept.kept ∙ ap (λ ks. record old.log { part = record old.log.part { known = ks } }) (sym (ap (λ (d : DeskMeaning C). d.log.part.known) kept.kept));
    sends = ap (λ (d : DeskMeaning C). d.sends) kept.kept;
    track = track_delivered old new m a track posted-is replies-are to later-are own-is later-is range tells.place kept.log (ap (λ (d : DeskMeaning C). d.sends) kept.kept) (ap (λ (d : DeskMeaning C). d.log.part.id) kept.kept) knows-more
        (λ x there. subst (λ l. Contains l x) (sym knows-more) there) (subst (λ l. Contains l told_of) (sym knows-more) (Contains-push old.log.part.known told_of)) (ap (λ (d : DeskMeaning C). d.log.part.given) kept.kept) (ap (λ (d : DeskMeaning C). d.log.beside) kept.kept) behind after;
    way = way_delivered old new m a track posted-is replies-are to later-are own-is later-is;
    later = later-is;
    more = λ x there. subst (λ l. Contains l x) (sym knows-more) (Contains-append_left old.log.part.known (told_of ∷ []) x there);
    limit = ap (λ (d : DeskMeaning C). d.range_limit) kept.kept;
  }

pub has_delivered : {C : Type 0} (v old new : DeskMeaning C) (rest : List Posted) (m : Posted) (a : Answered) (note : List (KnownEntry Event)) (sender : ActorId) (range : ℕ) → v ≡ old → KeepsTrack old → v.posted ≡ m ∷ rest → All (λ (p : Posted). m.number < p.number) rest → sender ≡ v.log.part.id → a.number ≡ m.number
    → IsEvalNote sender m.number range a.step a.reply note → All (λ (p : Pair Event). p.entry.step < a.step) old.log.part.own → (old.log.beside ≡ false → All (λ (b : Answered). b.step < a.step) old.replies)
    → HasKept (record v { posted = rest }) new a note → HasDelivered old new
has_delivered v old new rest m a note sender range same track first later whose to tells behind after kept =
    subst (λ d. d.posted ≡ m ∷ rest → IsEvalNote d.log.part.id m.number range a.step a.reply note → HasKept (record d { posted = rest }) new a note → HasDelivered old new) (sym same)
    (λ f t k. delivered-at old new rest m a note range track f later to t k behind after) first (subst (λ i. IsEvalNote i m.number range a.step a.reply note) whose tells) kept

-- nothing was delivered yet
pub delivers_none : {C : Type 0} (d : DeskMeaning C) → KeepsTrack d → HasDelivered d d
delivers_none d track = record { own = refl; sends = refl; track = track; way = λ n. refl; later = refl; more = λ k there. there; limit = refl }

-- ---- a message is posted

count-map : {A B : Type 0} (p : B → Bool) (f : A → B) (xs : List A) → count_by p (map f xs) ≡ count_by (λ x. p (f x)) xs
count-map p f [] = refl
count-map p f (x ∷ xs) = omega (arith, count-cons p (f x) (map f xs), count-cons (λ y. p (f y)) x xs, count-map p f xs)

each-of : {A B : Type 0} (f : A → B) (P : B → Type 0) (xs : List A) → Each P (map f xs) → Each (λ x. P (f x)) xs
each-of f P [] h = tt
each-of f P (x ∷ xs) h = (h.0, each-of f P xs h.1)

each-weaker : {A : Type 0} (P Q : A → Type 0) → ((x : A) → P x → Q x) → (xs : List A) → Each P xs → Each Q xs
each-weaker P Q f [] h = tt
each-weaker P Q f (x ∷ xs) h = (f x h.0, each-weaker P Q f xs h.1)

module _ {C Y : Type 0} (splits : List (List ℕ)) (log : LogMeaning C) (g : ℕ × Y → WaitingMessage) (n : ℕ × Y → ℕ) (numbered : (e : ℕ × Y) → (g e).posted.number ≡ n e) (keyed : (e : ℕ × Y) → (g e).key ≡ e.0) (es : List (ℕ × Y)) (k : ℕ) (desk : IsDesk splits log (map g es)) where
  -- each stands under its number
  pub each_under : Each (λ e. e.0 ≡ n e) es
  each_under =
      each-weaker (λ e. IsReadyToGo log.part.id log.head.splits (g e)) (λ e. e.0 ≡ n e) (λ e r. sym (keyed e) ∙ (r.numbered ∙ numbered e)) es
      (each-of g (IsReadyToGo log.part.id log.head.splits) es (recursion_from_All (IsReadyToGo log.part.id log.head.splits) (map g es) desk.ready))

  -- no message stands under a number that none has
  pub none_under : count_by (λ e. n e == k) es ≡ 0 → lookup (is_at (nat_cmp k)) es ≡ None
  none_under none = lookup_none n k es each_under none

-- how many of what waits have the number
pub posted_count : {Y : Type 0} (f : ℕ × Y → Posted) (es : List (ℕ × Y)) (k : ℕ) → posted_as k (map f es) ≡ count_by (λ e. (f e).number == k) es
posted_count f es k = count-map (λ (m : Posted). m.number == k) f es

pub posted_none : {Y : Type 0} (f : ℕ × Y → Posted) (es : List (ℕ × Y)) (k : ℕ) → posted_as k (map f es) ≡ 0 → count_by (λ e. (f e).number == k) es ≡ 0
posted_none f es k none = sym (count-map (λ (m : Posted). m.number == k) f es) ∙ none

-- the last entry of the actor's list sent the message
pub ends_with_send : {C : Type 0} (old new : LogMeaning C) (number range : ℕ) (request : Request) → HasEntered old new (events.Send number range request) → EndsWithSend new number range request
ends_with_send old new number range request entered =
    let event = events.Send number range request in
    let p : Pair Event = added old new event entered in
    let own = own_after old new event entered in
    let long : length new.part.own ≡ length old.part.own + 1 = ap length own ∙ length-append old.part.own (p ∷ []) in
    let at : length new.part.own - 1 ≡ length old.part.own = omega arith in
    record {
      last = p;
      step = entered.step;
      some = omega arith;
      there = ap (slice_get new.part.own) at ∙ (ap (λ l. slice_get l (length old.part.own)) own ∙ get_push old.part.own p);
      is = ap (λ i. entry_of entered.step i event) (sym (ap (λ l. l.part.id) entered.stored));
    }

-- its timestamps are below the greatest
pub sent_below : {C : Type 0} (old new : LogMeaning C) (number range : ℕ) (request : Request) → HasEntered old new (events.Send number range request) → AllBelowGreatest (request_stamps request)
sent_below old new number range request entered =
    let event = events.Send number range request in
    let p : Pair Event = added old new event entered in
    let there : Contains new.part.own p = subst (λ l. Contains l p) (sym (own_after old new event entered)) (Contains-push old.part.own p) in
    let knows : Contains (knowledge new.part) p.entry = knows-own new.part p.entry (contains_map (λ (q : Pair Event). q.entry) new.part.own p there) in
    kept_below entered.step number range request (All-contains (λ (e : Entry Event). IsKept e.step e.event) (knowledge new.part) p.entry entered.log.sound.kept knows) entered.small

-- no message of the next number is on its way
pub next_is_fresh : {C : Type 0} (d : DeskMeaning C) (number : ℕ) → KeepsTrack d → number ≡ d.sends + 1 → posted_as number d.posted ≡ 0
next_is_fresh d number track next =
    let none : times_sent number (known_of d.log.part.own) ≡ 0 = none_beyond (λ (x : Sent). x.number) (length (known_of d.log.part.own).sent) number (known_of d.log.part.own).sent track.numbers (let c = track.counted in omega arith) in
    let s = track.stages number in
    omega arith

-- ---- what the outbox has once a message was added

-- what is so of all that waits
all-after : {M Y A E : Type 0} (f : ℕ × M → Y) (P : Y → Type 0) (number : ℕ) (w : M) (es after : List (ℕ × M)) (r : Result A E) → lookup (is_at (nat_cmp number)) es ≡ None
    → OnOk r (after ≡ insert_entry nat_cmp es number w) → OnErr r (after ≡ es) → All P (map f es) → P (f (number, w)) → All P (map f after)
all-after f P number w es after (Ok u) none ok err all one = subst (λ l. All P (map f l)) (sym ok) (insert_all f number w P es none all one)
all-after f P number w es after (Err e) none ok err all one = subst (λ l. All P (map f l)) (sym err) all

pub desk_posted : {C M A E : Type 0} (splits : List (List ℕ)) (log after : LogMeaning C) (given : List ℕ) (g : ℕ × M → WaitingMessage) (number : ℕ) (w : M) (es new : List (ℕ × M)) (r : Result A E) → after ≡ record log { part = record log.part { given = given } }
    → IsDesk splits log (map g es) → lookup (is_at (nat_cmp number)) es ≡ None → OnOk r (new ≡ insert_entry nat_cmp es number w) → OnErr r (new ≡ es) → IsReadyToGo log.part.id log.head.splits (g (number, w))
    → IsDesk splits after (map g new)
desk_posted splits log after given g number w es new r same desk none ok err one =
    subst (λ l. IsDesk splits l (map g new)) (sym same) (record {
      same = desk.same;
      rising = desk.rising;
      few = desk.few;
      ready = all-after g (IsReadyToGo log.part.id log.head.splits) number w es new r none ok err desk.ready one;
    })

-- what waits may go still once a use of an entry was given
pub desk_noted : {C : Type 0} (splits : List (List ℕ)) (log after : LogMeaning C) (given : List ℕ) (ws : List WaitingMessage) → after ≡ record log { part = record log.part { given = given } } → IsDesk splits log ws → IsDesk splits after ws
desk_noted splits log after given ws same desk = subst (λ l. IsDesk splits l ws) (sym same) (record { same = desk.same; rising = desk.rising; few = desk.few; ready = desk.ready })

-- the note of the entry that was made last has one use, over a quiet wire
pub one_use : {C : Type 0} (old l : LogMeaning C) (number range uses : ℕ) (request : Request) (verdict : Verdict) (note : List (KnownEntry Event)) → l ≡ old → EndsWithSend old number range request → uses ≡ uses_by verdict → verdict ≡ verdicts.Deliver
    → note ≡ noted (length l.part.own - 1) uses l.part → uses_left note ≡ 1
one_use old l number range uses request verdict note same ends by quiet is =
    let one : uses ≡ 1 = by ∙ ap uses_by quiet in
    let there : slice_get l.part.own (length l.part.own - 1) ≡ Some ends.last = subst (λ m. slice_get m.part.own (length m.part.own - 1) ≡ Some ends.last) (sym same) ends.there in
    ap uses_left is ∙ (ap uses_left (noted-at (protocol l.head) l.part (length l.part.own - 1) uses ends.last there) ∙ one)

posted-at : {C M : Type 0} (old : DeskMeaning C) (after : LogMeaning C) (f : ℕ × M → Posted) (es new : List (ℕ × M)) (number range : ℕ) (request : Request) (w : M) → old.posted ≡ map f es → lookup (is_at (nat_cmp number)) es ≡ None → new ≡ insert_entry nat_cmp es number w
    → f (number, w) ≡ posting number range request 1 → after ≡ record old.log { part = gave (length old.log.part.own - 1) 1 old.log.part }
    → HasPosted old (record old { log = after; posted = map f new }) number range request
posted-at old after f es new number range request w was none put is given = record {
  log = given;
  rest = refl;
  counts = λ n.
      ap (λ l. posted_as n (map f l)) put
      ∙ (insert_count f number w (λ (m : Posted). m.number == n) es none
      ∙ (ap (λ l. posted_as n l + one_if ((f (number, w)).number == n)) (sym was)
      ∙ ap (λ (m : Posted). posted_as n old.posted + one_if (m.number == n)) is));
  all = λ m there.
      elim (insert_contains f number w es none m (subst (λ l. Contains (map f l) m) put there)) [ inl before ↦ inl (subst (λ l. Contains l m) (sym was) before) | inr now ↦ inr (sym is ∙ now) ];
}

pub has_posted : {C M : Type 0} (v old : DeskMeaning C) (after : LogMeaning C) (f : ℕ × M → Posted) (es new : List (ℕ × M)) (number range : ℕ) (request : Request) (w : M) → v ≡ old → v.posted ≡ map f es → lookup (is_at (nat_cmp number)) es ≡ None → new ≡ insert_entry nat_cmp es number w
    → f (number, w) ≡ posting number range request 1 → after ≡ record v.log { part = gave (length v.log.part.own - 1) 1 v.log.part }
    → HasPosted old (record v { log = after; posted = map f new }) number range request
has_posted v old after f es new number range request w same was none put is given =
    subst (λ d. d.posted ≡ map f es → after ≡ record d.log { part = gave (length d.log.part.own - 1) 1 d.log.part } → HasPosted old (record d { log = after; posted = map f new }) number range request) (sym same)
    (λ p q. posted-at old after f es new number range request w p none put is q) was given

-- a note that was given changes the counts of uses alone
pub gave_so : {C : Type 0} (log after : LogMeaning C) (place uses : ℕ) → after ≡ record log { part = record log.part { given = after.part.given } } → after.part ≡ gave place uses log.part → uses ≡ 1 → after ≡ record log { part = gave place 1 log.part }
gave_so log after place uses same given one =
    same ∙ (ap (λ p. record log { part = p }) (sym (ap (λ l. l.part) same)) ∙ ap (λ p. record log { part = p }) (given ∙ ap (λ n. gave place n log.part) one))

-- ---- a message is sent

by-event : (event : Event) → length (sent_by event) ≤ 1
by-event (events.Ask call reading) = omega arith
by-event (events.Send number range request) = omega arith
by-event (events.Eval actor number reply) = omega arith
by-event (events.Hear number step) = omega arith
by-event (events.Tell answer) = omega arith
by-event (events.Meet id step) = omega arith

sent-at-most : (own : List (Pair Event)) (k : Known) → length (fold (λ k p. learn p k) k own).sent ≤ length k.sent + length own
sent-at-most [] k = omega arith
sent-at-most (p ∷ own) k = omega (arith, sent-at-most own (learn p k), length-append k.sent (sent_by p.entry.event), by-event p.entry.event)

-- the numbers of messages are not used up
pub sends_few : {C : Type 0} (d : DeskMeaning C) → KeepsTrack d → d.sends + 1 < 2 ^ 64
sends_few d track =
    let some = sent-at-most d.log.part.own nothing_known in
    let counted = track.counted in
    let within = track.log.within in
    let short = track.log.short in
    omega arith

pub has_sent : {C : Type 0} (old mid new : DeskMeaning C) (number range : ℕ) (request : Request) → KeepsTrack old → old.replies ≡ [] → GoesTo old.log.head.splits request range → number ≡ old.sends + 1
    → HasEntered old.log mid.log (events.Send number range request) → mid ≡ record old { log = mid.log; sends = number } → HasPosted mid new number range request → HasSentTo old new number range request
has_sent {C} old mid new number range request track none goes next entered rest posted =
    let log : IsOwnLog new.log = subst IsOwnLog (sym posted.log)
    (log_kept mid.log (record mid.log { part = gave (length mid.log.part.own - 1) 1 mid.log.part }) refl refl refl refl refl refl refl refl (λ going. going) entered.log) in
    let id = ap (λ l. l.part.id) posted.log in
    let own = ap (λ l. l.part.own) posted.log in
    let known = ap (λ l. l.part.known) posted.log in
    let were : mid.posted ≡ old.posted = ap (λ d. d.posted) rest in
    let counts : (n : ℕ) → posted_as n new.posted ≡ posted_as n old.posted + one_if (number == n) = (λ n. posted.counts n ∙ ap (λ l. posted_as n l + one_if (number == n)) were) in
    let replies : new.replies ≡ old.replies = ap (λ d. d.replies) posted.rest ∙ ap (λ d. d.replies) rest in
    let later : new.later ≡ old.later = ap (λ d. d.later) posted.rest ∙ ap (λ d. d.later) rest in
    record {
      sent = record {
        range = range;
        goes = goes;
        next = next;
        sent = mid.log;
        entered = entered;
        noted = posted.log;
        track = track_sent old new mid.log number range 1 request track next entered id own known counts replies later log (ap (λ d. d.sends) posted.rest ∙ ap (λ d. d.sends) rest)
            (λ x there. elim (posted.all x there) [ inl before ↦ inl (subst (λ l. Contains l x) were before) | inr now ↦ inr now ]) (ap (λ l. l.part) posted.log) none (ap (λ (l : LogMeaning C). l.beside) posted.log ∙ ap (λ (l : LogMeaning C). l.beside) entered.stored);
        way = way_sent old new mid.log number range 1 request track next entered id own known counts replies later;
        replies = replies;
        later = later;
        limit = ap (λ d. d.range_limit) posted.rest ∙ ap (λ d. d.range_limit) rest;
      };
      there = refl;
    }

-- the range of a message that was sent is there
pub there_still : {C : Type 0} (old new : LogMeaning C) (event : Event) (splits : List (List ℕ)) (range : ℕ) → HasEntered old new event → splits ≡ old.head.splits → range ≤ length splits → range ≤ length new.head.splits
there_still old new event splits range entered same there =
    subst (λ h. range ≤ length h.splits) (sym (ap (λ l. l.head) entered.stored)) (subst (λ s. range ≤ length s) same there)

-- what waits, as contracts of the desk see it
pub posted_again : {Y : Type 0} (g : Y → WaitingMessage) (es : List Y) → map (λ (w : WaitingMessage). w.posted) (map g es) ≡ map (λ e. (g e).posted) es
posted_again g [] = refl
posted_again g (e ∷ es) = ap (λ l. (g e).posted ∷ l) (posted_again g es)

-- a note without uses leaves the actor as it was
pub marked_same : {C : Type 0} (v old : DeskMeaning C) (after : LogMeaning C) (place : ℕ) → v ≡ old → after ≡ record v.log { part = record v.log.part { given = after.part.given } } → after.part ≡ gave place 0 v.log.part → ◌≡◌ {A = DeskMeaning C} (record v { log = after }) old
marked_same {C} v old after place is same given =
    let part : after.part ≡ v.log.part = given ∙ gave-nothing v.log.part place in
    let log : after ≡ v.log = same ∙ ap (λ p. record v.log { part = p }) (sym (ap (λ (l : LogMeaning C). l.part) same) ∙ part) in
    ap (λ (l : LogMeaning C). record v { log = l }) log ∙ is

-- nor does one for which memory was wanted change anything
pub noted_same : {C A E : Type 0} (v old : DeskMeaning C) (after : LogMeaning C) (place : ℕ) (r : Result A E) → v ≡ old → after ≡ record v.log { part = record v.log.part { given = after.part.given } } → OnOk r (after.part ≡ gave place 0 v.log.part) → OnErr r (after ≡ v.log) → ◌≡◌ {A = DeskMeaning C} (record v { log = after }) old
noted_same v old after place (Ok note) is same given none = marked_same v old after place is same given
noted_same {C} v old after place (Err wanted) is same given none = ap (λ (l : LogMeaning C). record v { log = l }) none ∙ is

took-at : {C : Type 0} (old : DeskMeaning C) (after : LogMeaning C) (note : List (KnownEntry Event)) → Took note old.log after → KeepsTrack old → KeepsTrack (record old { log = after })
took-at {C} old after note took track =
    let own : after.part.own ≡ old.log.part.own = ap (λ (l : LogMeaning C). l.part.own) took.told_this in
    let same : known_of after.part.own ≡ known_of old.log.part.own = ap known_of own in
    record {
      log = took.log;
      counted = track.counted ∙ ap (λ (k : Known). length k.sent) (sym same);
      numbers = subst (λ (k : Known). All (λ x. x.number ≤ length k.sent) k.sent) (sym same) track.numbers;
      once = λ n. subst (λ (k : Known). times_sent n k ≤ 1) (sym same) (track.once n);
      dropped = track.dropped;
      strays = All-weaker (IsStray old.log) (IsStray after)
          (λ p. stray_on old.log after p (ap (λ (l : LogMeaning C). l.part.id) took.told_this) (λ one. subst (λ (k : Known). IsOneSent k.sent p) (sym same) one)
          (λ x there. subst (λ ks. Contains ks x) (sym (ap (λ (l : LogMeaning C). l.part.known) took.told_this)) (Contains-append_left old.log.part.known note x there))) track.dropped track.strays;
      stages = λ n. subst (λ (k : Known). posted_as n old.posted + (posted_as n old.later + posted_as n track.dropped) + answered_as n old.replies + heard_as_number n k ≡ times_sent n k) (sym same) (track.stages n);
      aside = subst (λ (k : Known). All (WasSetAside k.sent) old.later) (sym same) track.aside;
      posted = subst (λ (k : Known). All (λ m. request_sent m.number k.sent ≡ Some m.request) old.posted) (sym same) track.posted;
      waits = subst (λ (k : Known). All (IsOneSent k.sent) old.posted) (sym same) track.waits;
      answered = All-weaker (IsAnsweredBy old.log) (IsAnsweredBy after)
          (λ a. answered_on old.log after a (ap (λ (l : LogMeaning C). l.part.id) took.told_this) (λ r said. subst (λ (k : Known). request_sent a.number k.sent ≡ Some r) (sym same) said)
          (λ x there. subst (λ ks. Contains ks x) (sym (ap (λ (l : LogMeaning C). l.part.known) took.told_this)) (Contains-append_left old.log.part.known note x there))) old.replies track.answered;
      turn = track.turn;
      wave = subst (λ b. WaitInWave b after.part.own old.posted old.replies) (sym (ap (λ (l : LogMeaning C). l.beside) took.told_this)) (subst (λ o. WaitInWave old.log.beside o old.posted old.replies) (sym own) track.wave);
      given = gives_same old.log.part after.part own (ap (λ (l : LogMeaning C). l.part.given) took.told_this) track.given;
    }

-- an actor that took a note has its messages where they were
pub track_took : {C : Type 0} (v old : DeskMeaning C) (after : LogMeaning C) (note : List (KnownEntry Event)) → v ≡ old → Took note v.log after → KeepsTrack old → KeepsTrack (record v { log = after })
track_took v old after note same took track = subst (λ d. Took note d.log after → KeepsTrack (record d { log = after })) (sym same) (λ t. took-at old after note t track) took

-- ---- the notes behind which messages are evaluated

has-entries : (own : List (Pair Event)) (m : Sent) → Contains (known_of own).sent m → 1 ≤ length own
has-entries [] m there = absurd (contains_nil m there)
has-entries (p ∷ own) m there = omega arith

-- where a message waits, or was set aside, the actor has an entry
pub some_entry : {C : Type 0} (d : DeskMeaning C) → KeepsTrack d → 1 ≤ length d.posted + length d.later → 1 ≤ length d.log.part.own
some_entry d track some' = by d.posted refl d.later refl
  where
    by : (posted : List Posted) → d.posted ≡ posted → (later : List Posted) → d.later ≡ later → 1 ≤ length d.log.part.own
    by [] is [] none = (let n : length d.posted ≡ 0 = ap length is in let l : length d.later ≡ 0 = ap length none in absurd (omega arith))
    by [] is (m ∷ later) aside = has-entries d.log.part.own (as_sent m) (All-head (WasSetAside (known_of d.log.part.own).sent) m later (subst (All (WasSetAside (known_of d.log.part.own).sent)) aside track.aside)).one
    by (m ∷ posted) is later aside = has-entries d.log.part.own (as_sent m) (All-head (IsOneSent (known_of d.log.part.own).sent) m posted (subst (All (IsOneSent (known_of d.log.part.own).sent)) is track.waits))

-- a note of its last entry
pub last_behind : {C : Type 0} (v old : DeskMeaning C) (note : List (KnownEntry Event)) → v ≡ old → KeepsTrack old → 1 ≤ length old.posted + length old.later → note ≡ noted (length v.log.part.own - 1) 0 v.log.part → IsBehindAll old.log.part.own note
last_behind {C} v old note same track some' is =
    subst (IsBehindAll old.log.part.own) (sym (is ∙ ap (λ (d : DeskMeaning C). noted (length d.log.part.own - 1) 0 d.log.part) same))
    (note_behind (protocol old.log.head) old.log.part track.log.stands 0 (some_entry old track some'))

-- where no reply waits, what is behind all that the actor made is the newest
pub newest_first : (own : List (Pair Event)) (replies : List Answered) (note : List (KnownEntry Event)) → replies ≡ [] → IsBehindAll own note → IsNewest own replies note
newest_first own replies note none behind = subst (λ rs. IsNewest own rs note) (sym none) (record { made = behind; evaluated = λ step after. All-nil (λ (a : Answered). a.step < step) })

-- a note without uses is its own copy
pub kept_as_told : {C : Type 0} (d new : DeskMeaning C) (a : Answered) (note : List (KnownEntry Event)) (e : KnownEntry Event) → note ≡ record e { uses = 0 } ∷ [] → HasKept d new a (without_uses 0 note) → HasKept d new a note
kept_as_told d new a note e is kept = subst (HasKept d new a) (ap (without_uses 0) is ∙ sym is) kept

-- the note of the evaluation that was kept is the newest
pub newest_kept : {C M E : Type 0} (v old new : DeskMeaning C) (result : Result M E) (known : M → List (KnownEntry Event)) (posted : List Posted) (a : Answered) (last note : List (KnownEntry Event)) (e : Entry Event) (place : ℕ) → v ≡ old → e.step ≡ a.step → note ≡ record { entry = e; place = place; uses = 0 } ∷ []
    → IsNewest old.log.part.own old.replies last → ComesAfter a.step last → OnOk result (HasKept (record v { posted = posted }) new a (without_uses 0 note)) → IfOk result (λ copy. known copy ≡ with_uses 0 note)
    → IfOk result (λ copy. IsNewest new.log.part.own new.replies (known copy))
newest_kept {C} v old new (Ok copy) known posted a last note e place same at is newest after kept copied =
    let own : new.log.part.own ≡ old.log.part.own = ap (λ (d : DeskMeaning C). d.log.part.own) kept.kept ∙ ap (λ (d : DeskMeaning C). d.log.part.own) same in
    let replies : new.replies ≡ old.replies ++ a ∷ [] = ap (λ (d : DeskMeaning C). d.replies) kept.kept ∙ ap (λ (d : DeskMeaning C). d.replies ++ a ∷ []) same in
    let known-is : known copy ≡ record { entry = e; place = place; uses = 0 } ∷ [] = copied ∙ ap (with_uses 0) is in
    subst (λ o. IsNewest o new.replies (known copy)) (sym own)
    (subst (λ rs. IsNewest old.log.part.own rs (known copy)) (sym replies) (newest_evaluated old.log.part.own old.replies last (known copy) a e place 0 at known-is newest after))
newest_kept v old new (Err halt) known posted a last note e place same at is newest after kept copied = tt
