-- An actor's list that has ended, and what became of its messages.
use Rattle.std.proofs.Common.{◌≡◌, ℕ, ◌+◌, ◌<◌, ◌≤◌, ◌⊎◌, ◌==◌, ◌||◌, Bool, true, false, All, Contains, IfErr, inl, inr, List, [], ◌∷◌, ◌++◌, length, count_by, Result, Ok, Err, refl, sym, ap, subst, ◌∙◌, arith}
use Rattle.std.proofs.lemmas.Bool.{eq-eqb, eqb-true}
use Rattle.std.proofs.lemmas.List.{append_assoc}
use Rattle.std.proofs.lemmas.List.Elements.{All-append, All-contains, All-nil, All-weaker, Contains-append_left}
use Rattle.std.specs.List.{list_any}
use Rattle.pc_desk.proofs.Counting.{counted_once, counts_any, none_counted, uncounted}
use Rattle.pc_desk.proofs.Refusing.{was_given_back}
use Rattle.pc_desk.proofs.Turns.{counted_has}
use Rattle.pc_desk.specs.declared.answered.Answered.{Answered}
use Rattle.pc_desk.specs.declared.halt.Halt.{Halt}
use Rattle.pc_desk.specs.declared.halt.Halt.TheVariants as halts
use Rattle.pc_base.specs.declared.actor.ActorId.TheVariants as actors
use Rattle.pc_desk.specs.Desk.{DeskMeaning, HasHalted, HasTaken, HasTakenFirst, IsAnsweredBy, WasSetAside, IsOneSent, IsStray, KeepsTrack, KnowsFull, Posted, as_sent, posted_as, posting, times_sent}
use Rattle.pc_desk.specs.Ending.{EndsBy, EndsOnly, HasEnded, HasMadeLast, IsNotLost, IsSpent, PutsInCall, WaitsUnheard, all_waiting}
use Rattle.pc_desk.specs.OwnLog.{HasStopped, IsHalt, LogMeaning}
use Rattle.pc_desk.specs.Refused.{WasGivenBack}
use Rattle.pc_history.specs.declared.named.Named.{Ghosts}
use Rattle.pc_history.specs.declared.view.Known.{Known as KnownEntry}
use Rattle.pc_history.specs.Parts.{known_entry, told, uses_left}
use Rattle.pc_lists.proofs.Counts.{count-append}
use Rattle.pc_lists.proofs.Lists.{all_from_contains, contains_head, contains_nil, contains_cons, contains_tail}
use Rattle.pc_proto.specs.declared.event.Event.{Event}
use Rattle.pc_range.specs.declared.commit_world.CommitWorld.{CommitWorld}
use Rattle.pc_range.specs.declared.message.Message.{Message}
use Rattle.pc_range.specs.Message.{IsFullNote, evaluation}
use Rattle.pc_world.specs.Known.{Known, known_of}
use Rattle.pc_world.specs.Known.Traffic.{Heard, Sent}
use Rattle.pc_world.specs.Tell.Refusal.{is_heard}

-- one that passes the test is there
any_gives : {X : Type 0} (p : X → Bool) (xs : List X) → list_any p xs ≡ true → (x : X) × Contains xs x × (p x ≡ true)
any_gives p [] e = absurd cc
any_gives {X} p (x ∷ xs) e = by (p x) refl (any_gives p xs)
  where
    by : (b : Bool) → p x ≡ b → (list_any p xs ≡ true → (y : X) × Contains xs y × (p y ≡ true)) → (y : X) × Contains (x ∷ xs) y × (p y ≡ true)
    by true is on = (x, contains_head x xs, is)
    by false is on =
        let later = on (sym (ap (λ b. b || list_any p xs) is) ∙ e) in
        (later.0, contains_tail x xs later.0 later.1, later.2)

or_right : (a b : Bool) → b ≡ true → (a || b) ≡ true
or_right true b e = refl
or_right false b e = e

pub any_there : {X : Type 0} (test : X → Bool) (xs : List X) (x : X) → test x ≡ true → Contains xs x → list_any test xs ≡ true
any_there test [] x is there = absurd (contains_nil x there)
any_there test (y ∷ ys) x is there = elim (contains_cons y ys x there) [
  | inl here ↦ ap (λ b. b || list_any test ys) (ap test here ∙ is)
  | inr later ↦ or_right (test y) (list_any test ys) (any_there test ys x is later)
]

module _ {C : Type 0} (d : DeskMeaning C) (track : KeepsTrack d) where
  abbrev k : Known
  k = known_of d.log.part.own

  -- of what waits, or was set aside
  waiting-count : (n : ℕ) → count_by (λ (p : Posted). p.number == n) (all_waiting d) ≡ posted_as n d.posted + posted_as n d.later
  waiting-count n = count-append (λ (p : Posted). p.number == n) d.posted d.later

  one-not-lost : (m : Sent) → Contains k.sent m → IsNotLost d m
  one-not-lost m there = by (list_any (λ (h : Heard). h.number == m.number) k.heard) (list_any (λ (p : Posted). p.number == m.number) (all_waiting d)) (list_any (λ (a : Answered). a.number == m.number) d.replies) refl refl refl
    where
      some : 1 ≤ times_sent m.number k
      some = counts_any (λ (x : Sent). x.number == m.number) k.sent (any_there (λ (x : Sent). x.number == m.number) k.sent m (eq-eqb m.number m.number refl) there)

      by : (heard waiting answered : Bool) → list_any (λ (h : Heard). h.number == m.number) k.heard ≡ heard → list_any (λ (p : Posted). p.number == m.number) (all_waiting d) ≡ waiting → list_any (λ (a : Answered). a.number == m.number) d.replies ≡ answered → IsNotLost d m
      by true waiting answered h p a = inl h
      by false true answered h p a =
          let w = any_gives (λ (p : Posted). p.number == m.number) (all_waiting d) p in
          inr (inl (record { waiting = w.0; there = w.1; is = eqb-true w.0.number m.number w.2 }))
      by false false true h p a =
          let w = any_gives (λ (a : Answered). a.number == m.number) d.replies a in
          let of = All-contains (IsAnsweredBy d.log) d.replies w.0 track.answered w.1 in
          inr (inr (record { evaluation = known_entry (evaluation w.0.step of.range d.log.part.id w.0.number w.0.reply) of.place 0; knows = of.knows; of_it = (refl, eqb-true w.0.number m.number w.2) }))
      by false false false h p a =
          let stages = track.stages m.number in
          let x = uncounted (λ (h : Heard). h.number == m.number) k.heard h in
          let y = sym (waiting-count m.number) ∙ uncounted (λ (p : Posted). p.number == m.number) (all_waiting d) p in
          let z = uncounted (λ (a : Answered). a.number == m.number) d.replies a in
          let s = some in
          let one : 1 ≤ posted_as m.number track.dropped = omega arith in
          let w = counted_has (λ (p : Posted). p.number) m.number track.dropped one in
          let of = All-contains (IsStray d.log) track.dropped w.0 track.strays w.1 in
          inr (inr (record { evaluation = known_entry (evaluation of.step w.0.range d.log.part.id w.0.number of.reply) of.place 0; knows = of.knows; of_it = (refl, w.2) }))

  -- no message is lost
  pub not_lost : All (IsNotLost d) k.sent
  not_lost = all_from_contains (IsNotLost d) k.sent one-not-lost

  -- what waits, or was set aside, was not heard
  waits-unheard : (m : Posted) → Contains (all_waiting d) m → is_heard k.heard (as_sent m) ≡ false
  waits-unheard m there =
      let waits : 1 ≤ count_by (λ (p : Posted). p.number == m.number) (all_waiting d) = counts_any (λ (p : Posted). p.number == m.number) (all_waiting d) (any_there (λ (p : Posted). p.number == m.number) (all_waiting d) m (eq-eqb m.number m.number refl) there) in
      let both = waiting-count m.number in
      let stages = track.stages m.number in
      let once = track.once m.number in
      none_counted (λ (h : Heard). h.number == m.number) k.heard (omega arith)

  all_sent : All (IsOneSent k.sent) (all_waiting d)
  all_sent = All-append (IsOneSent k.sent) d.posted d.later track.waits (All-weaker (WasSetAside k.sent) (IsOneSent k.sent) (λ m aside. aside.one) d.later track.aside)

  pub all_wait : All (WaitsUnheard k) (all_waiting d)
  all_wait = all_from_contains (WaitsUnheard k) (all_waiting d) (λ m there. record { sent = All-contains (IsOneSent k.sent) (all_waiting d) m all_sent there; unheard = waits-unheard m there })

-- ---- a list that is full

ended-at : {C : Type 0} (old : DeskMeaning C) (rs : List Answered) → KeepsTrack old → ◌≡◌ {A = ℕ} (length old.log.part.own) old.log.limit → HasEnded old (record old { log = record old.log { stopped = true }; replies = rs })
ended-at old rs track full = record { known = λ x there. there; rest = refl; limit = refl; end = inl (record { long = full; each = not_lost old track; waits = all_wait old track }) }

-- The list's stop leaves the desk so.
abbrev StopsSo : {C : Type 0} → (Event → Type 0) → (Event → Type 0) → DeskMeaning C → LogMeaning C → List Answered → Type 0
StopsSo P Is old after rs = HasStopped P old.log after → HasMadeLast Is old (record old { log = after; replies = rs })

ended-by : {C : Type 0} (P Is : Event → Type 0) (old : DeskMeaning C) (after : LogMeaning C) (rs : List Answered) (halt : Halt) → KeepsTrack old → StopsSo P Is old after rs → IsHalt P old.log after halt → EndsOnly Is old (record old { log = after; replies = rs }) halt
ended-by P Is old after rs halts.Stopped track last (inl h) = λ going. absurd (let e : true ≡ false = sym h.0 ∙ going in cc e)
ended-by P Is old after rs halts.Stopped track last (inr h) = λ going. last h
ended-by {C} P Is old after rs (halts.Full actor) track last h = λ going. subst (λ (l : LogMeaning C). HasEnded old (record old { log = l; replies = rs })) (sym h.3) (ended-at old rs track h.2)
ended-by P Is old after rs halts.NoMemory track last h = λ going. tt

-- one more entry was the last, or was not made, at which nothing but a reply was taken
pub ended_so : {C : Type 0} (P Is : Event → Type 0) (v old : DeskMeaning C) (after : LogMeaning C) (rs : List Answered) (halt : Halt) → v ≡ old → KeepsTrack old → StopsSo P Is old after rs → IsHalt P v.log after halt → EndsOnly Is old (record v { log = after; replies = rs }) halt
ended_so {C} P Is v old after rs halt same track last h =
    subst (λ (x : DeskMeaning C). IsHalt P x.log after halt → EndsOnly Is old (record x { log = after; replies = rs }) halt) (sym same) (ended-by P Is old after rs halt track last) h

pub ended_if : {C X : Type 0} (P : Event → Type 0) (v old : DeskMeaning C) (after : LogMeaning C) (r : Result X Halt) → v ≡ old → KeepsTrack old → StopsSo P P old after old.replies → IfErr r (IsHalt P v.log after) → IfErr r (EndsOnly P old (record v { log = after }))
ended_if P v old after (Ok x) same track last h = tt
ended_if {C} P v old after (Err halt) same track last h =
    subst (λ (x : DeskMeaning C). IsHalt P x.log after halt → EndsOnly P old (record x { log = after }) halt) (sym same) (ended-by P P old after old.replies halt track last) h

-- ---- a range that is full

-- the first of those that wait was taken
pub taken_of_first : {C : Type 0} (old new : DeskMeaning C) (m : Posted) → HasTakenFirst old new m → HasTaken old new m
taken_of_first {C} old new m taken =
    let whole : old.posted ++ old.later ≡ m ∷ (new.posted ++ old.later) = ap (λ ps. ps ++ old.later) taken.first in
    let same : new.posted ++ new.later ≡ new.posted ++ old.later = ap (λ (d : DeskMeaning C). new.posted ++ d.later) taken.rest in
    record {
      there = subst (λ ps. Contains ps m) (sym whole) (contains_head m (new.posted ++ old.later));
      others = λ p there. elim (contains_cons m (new.posted ++ old.later) p (subst (λ ps. Contains ps p) whole there)) [ inl here ↦ inl here | inr behind ↦ inr (subst (λ ps. Contains ps p) (sym same) behind) ];
      left = λ p there. subst (λ ps. Contains ps p) (sym whole) (contains_tail m (new.posted ++ old.later) p (subst (λ ps. Contains ps p) same there));
      rest = taken.rest ∙ ap (λ ls. record old { posted = new.posted; later = ls }) (sym (ap (λ (d : DeskMeaning C). d.later) taken.rest));
      later = taken.later;
    }

-- the first of those that were set aside was taken, where none waits
taken_of_aside : {C : Type 0} (old new : DeskMeaning C) (m : Posted) → old.posted ≡ [] → old.later ≡ m ∷ new.later → new ≡ record old { later = new.later } → HasTaken old new m
taken_of_aside {C} old new m none first rest =
    let posted : new.posted ≡ [] = ap (λ (d : DeskMeaning C). d.posted) rest ∙ none in
    let whole : old.posted ++ old.later ≡ m ∷ new.later = ap (λ ps. ps ++ old.later) none ∙ first in
    let same : new.posted ++ new.later ≡ new.later = ap (λ ps. ps ++ new.later) posted in
    record {
      there = subst (λ ps. Contains ps m) (sym whole) (contains_head m new.later);
      others = λ p there. elim (contains_cons m new.later p (subst (λ ps. Contains ps p) whole there)) [ inl here ↦ inl here | inr behind ↦ inr (subst (λ ps. Contains ps p) (sym same) behind) ];
      left = λ p there. subst (λ ps. Contains ps p) (sym whole) (contains_tail m new.later p (subst (λ ps. Contains ps p) same there));
      rest = rest ∙ ap (λ ps. record old { posted = ps; later = new.later }) (sym (ap (λ (d : DeskMeaning C). d.posted) rest));
      later = subst (All (λ (p : Posted). m.number < p.number)) (sym posted) (All-nil (λ (p : Posted). m.number < p.number));
    }

-- as the parts of the step say it
pub aside_taken : {C : Type 0} (v old : DeskMeaning C) (rest : List Posted) (m : Posted) → v ≡ old → old.posted ≡ [] → v.later ≡ m ∷ rest → HasTaken old (record v { later = rest }) m
aside_taken {C} v old rest m same none first =
    subst (λ (d : DeskMeaning C). d.later ≡ m ∷ rest → HasTaken old (record d { later = rest }) m) (sym same) (λ f. taken_of_aside old (record old { later = rest }) m none f refl) first

module _ {C : Type 0} (old : DeskMeaning C) (m : Posted) (posted aside : List Posted) (notes : List (KnownEntry Event)) (track : KeepsTrack old) (taken : HasTaken old (record old { posted = posted; later = aside }) m) (refused : WasGivenBack old.range_limit (told notes old.log.part) (as_sent m)) (inside : PutsInCall (known_of old.log.part.own) m.request) where
  -- the message that its range refused
  it-waited : WaitsUnheard (known_of old.log.part.own) m
  it-waited = All-contains (WaitsUnheard (known_of old.log.part.own)) (all_waiting old) m (all_wait old track) taken.there

  -- The desk that has stopped.
  abbrev stopped : DeskMeaning C
  stopped = record old { posted = posted; later = aside; log = record old.log { part = told notes old.log.part; stopped = true } }

  -- what was sent under its number is it
  the-one : (x : Sent) → Contains (known_of old.log.part.own).sent x → m.number ≡ x.number → as_sent m ≡ x
  the-one x there same =
      counted_once (λ (y : Sent). y.number == m.number) (known_of old.log.part.own).sent (as_sent m) x (track.once m.number) it-waited.sent there (eq-eqb m.number m.number refl) (eq-eqb x.number m.number (sym same))

  it-is-spent : IsSpent stopped (as_sent m)
  it-is-spent = record { refused = refused; unheard = it-waited.unheard }

  not_lost_now : (x : Sent) → Contains (known_of old.log.part.own).sent x → IsNotLost old x → IsSpent stopped x ⊎ IsNotLost stopped x
  not_lost_now x there (inl heard) = inr (inl heard)
  not_lost_now x there (inr (inl waits)) = elim (taken.others waits.waiting waits.there) [
    | inl here ↦ inl (subst (IsSpent stopped) (the-one x there (ap (λ (p : Posted). p.number) here ∙ waits.is)) it-is-spent)
    | inr behind ↦ inr (inr (inl (record { waiting = waits.waiting; there = behind; is = waits.is })))
  ]
  not_lost_now x there (inr (inr knows)) = inr (inr (inr (record { evaluation = knows.evaluation; knows = Contains-append_left old.log.part.known notes knows.evaluation knows.knows; of_it = knows.of_it })))

  pub ended_full : HasEnded old stopped
  ended_full = record {
    known = λ x there. Contains-append_left old.log.part.known notes x there;
    rest = refl;
    limit = refl;
    end = inr (record {
      message = as_sent m;
      sent = it-waited.sent;
      spent = it-is-spent;
      in_call = inside;
      others = all_from_contains (λ (x : Sent). IsSpent stopped x ⊎ IsNotLost stopped x) (known_of old.log.part.own).sent
          (λ x there. not_lost_now x there (All-contains (IsNotLost old) (known_of old.log.part.own).sent x (not_lost old track) there));
      waits = all_from_contains (WaitsUnheard (known_of old.log.part.own)) (all_waiting stopped) (λ p there. All-contains (WaitsUnheard (known_of old.log.part.own)) (all_waiting old) p (all_wait old track) (taken.left p there));
      later = taken.later;
    });
  }

-- the desk from which the message was taken
ended-at_range : {C : Type 0} (d old : DeskMeaning C) (m : Posted) (notes : List (KnownEntry Event)) → KeepsTrack old → HasTaken old d m → WasGivenBack d.range_limit (told notes d.log.part) (as_sent m) → PutsInCall (known_of old.log.part.own) m.request
    → HasEnded old (record d { log = record d.log { part = told notes d.log.part; stopped = true } })
ended-at_range {C} d old m notes track taken refused inside =
    subst (λ (x : DeskMeaning C). WasGivenBack x.range_limit (told notes x.log.part) (as_sent m) → HasEnded old (record x { log = record x.log { part = told notes x.log.part; stopped = true } })) (sym taken.rest)
    (λ r. ended_full old m d.posted d.later notes track (subst (λ (x : DeskMeaning C). HasTaken old x m) taken.rest taken) r inside) refused

-- The desk took what the range gave, and then the use of its message, and stopped.
abbrev HasItBack : {C N : Type 0} {G : Ghosts N CommitWorld} → DeskMeaning C → List (KnownEntry Event) → Message N G → DeskMeaning C
HasItBack d last message = record d { log = record d.log { part = told message.note.known (told last d.log.part); stopped = true } }

taken-both : (known last more : List (KnownEntry Event)) → (known ++ last) ++ more ≡ known ++ (last ++ more)
taken-both known last more = append_assoc known last more

-- a range that is full is the cause
pub halted_full : {C N : Type 0} {G : Ghosts N CommitWorld} (d after : DeskMeaning C) (m : Posted) (message : Message N G) (range : ℕ) (last : List (KnownEntry Event)) → after ≡ HasItBack d last message → 1 ≤ m.uses → range ≡ m.range → IsFullNote m.range d.range_limit last
    → message.sender ≡ d.log.part.id → posting message.number message.range message.request (uses_left message.note.known) ≡ m → HasHalted d after (halts.Full (actors.Range range))
halted_full {C} d after m message range last is some at full whose same =
    let notes = last ++ message.note.known in
    let refused = was_given_back d.range_limit (told notes d.log.part) m message last d.log.part.known refl full whose same some in
    let knows : KnowsFull m.range d.range_limit (HasItBack d last message).log.part.known = subst (KnowsFull m.range d.range_limit) (sym (taken-both d.log.part.known last message.note.known)) refused.full in
    subst (λ (x : DeskMeaning C). HasHalted d x (halts.Full (actors.Range range))) (sym is)
    record { stopped = refl; head = refl; id = refl; cause = inr (m.range, ap actors.Range at, knows) }

-- one message was given back, and the list has ended
pub ended_refused : {C N : Type 0} {G : Ghosts N CommitWorld} (d after old : DeskMeaning C) (m : Posted) (message : Message N G) (last : List (KnownEntry Event)) → after ≡ HasItBack d last message → KeepsTrack old → HasTaken old d m → 1 ≤ m.uses → IsFullNote m.range d.range_limit last
    → message.sender ≡ d.log.part.id → posting message.number message.range message.request (uses_left message.note.known) ≡ m → PutsInCall (known_of old.log.part.own) m.request → HasEnded old after
ended_refused {C} d after old m message last is track taken some full whose same inside =
    let notes = last ++ message.note.known in
    subst (HasEnded old) (sym (is ∙ ap (λ ks. record d { log = record d.log { part = record d.log.part { known = ks }; stopped = true } }) (taken-both d.log.part.known last message.note.known)))
    (ended-at_range d old m notes track taken (was_given_back d.range_limit (told notes d.log.part) m message last d.log.part.known refl full whose same some) inside)

-- first messages were delivered, then the list ended
pub ended_later : {C : Type 0} (old mid new : DeskMeaning C) (halt : Halt) → mid.log.stopped ≡ old.log.stopped → ((k : KnownEntry Event) → Contains old.log.part.known k → Contains mid.log.part.known k)
    → mid.log ≡ record old.log { part = record old.log.part { known = mid.log.part.known } } → mid.range_limit ≡ old.range_limit → EndsOnly (λ made. ⊥) mid new halt → EndsOnly (λ made. ⊥) old new halt
ended_later {C} old mid new halt stopped more same limit ends = λ going. by halt (ends (stopped ∙ going))
  where
    on : HasEnded mid new → HasEnded old new
    on e = record {
      known = λ x there. e.known x (more x there);
      rest = e.rest ∙ ap (λ (l : LogMeaning C). record l { part = record l.part { known = new.log.part.known }; stopped = true }) same;
      limit = e.limit ∙ limit;
      end = e.end;
    }

    by : (halt : Halt) → EndsBy (λ made. ⊥) mid new halt → EndsBy (λ made. ⊥) old new halt
    by halts.Stopped e = absurd e.is
    by (halts.Full actor) e = on e
    by halts.NoMemory e = tt

-- want of memory
pub ended_memory : {C : Type 0} (Is : Event → Type 0) (old new : DeskMeaning C) (halt : Halt) → halt ≡ halts.NoMemory → EndsOnly Is old new halt
ended_memory Is old new halt want = λ going. subst (EndsBy Is old new) (sym want) tt
