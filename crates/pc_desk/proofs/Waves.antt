-- When what waits to be heard was evaluated, after each step of its actor, and what an evaluation needs to be of the actor's wave.
use Rattle.std.proofs.Common.{◌≡◌, ℕ, ◌+◌, ◌-◌, ◌<◌, ◌≤◌, Bool, false, ◌⊎◌, inl, inr, All, Contains, List, [], ◌∷◌, ◌++◌, length, slice_get, Some, refl, sym, ap, subst, ◌∙◌, arith, length-append, suc, zero}
use Rattle.std.proofs.lemmas.List.{append-nil, append_assoc, same_from_push}
use Rattle.std.proofs.lemmas.List.Elements.{All-contains, All-head, All-nil, All-push, All-tail, All-weaker, Contains-append_left, Contains-push}
use Rattle.std.proofs.lemmas.List.Sums.{fold-append}
use Rattle.pc_base.specs.declared.entry.Entry.{Entry}
use Rattle.pc_desk.specs.declared.answered.Answered.{Answered}
use Rattle.pc_desk.specs.Waiting.{AreEvaluatedInOrder, AreInOrder, EndsUnheard, IsBehindAll, IsNewest, WaitInWave, WentOn}
use Rattle.pc_follows.specs.WaveEvaluation.{AreHeardAfter, IsHearingOfWave, IsInWave, IsSending}
use Rattle.pc_follows.specs.WaveOrder.{IsHearing}
use Rattle.pc_history.proofs.Callers.{noted-at}
use Rattle.pc_history.proofs.Histories.{Rises, own-rises, rises-least}
use Rattle.pc_history.specs.Closed.{StandsInHistory}
use Rattle.pc_history.specs.declared.pair.Pair.{Pair}
use Rattle.pc_history.specs.declared.view.Known.{Known as KnownEntry}
use Rattle.pc_history.specs.declared.view.Part.{Part}
use Rattle.pc_history.specs.Parts.{known_entry, noted}
use Rattle.pc_history.specs.Sense.{Sense}
use Rattle.pc_lists.proofs.Lists.{all_from_contains, contains_cons, contains_nil, get_contains, get_push}
use Rattle.pc_proto.specs.declared.event.Event.{Event}
use Rattle.pc_proto.specs.declared.event.Event.TheVariants as events
use Rattle.pc_range.specs.Message.{ComesAfter}
use Rattle.pc_world.specs.Known.{Known, known_of, learn, nothing_known}
use Rattle.pc_world.specs.Known.Traffic.{Heard, Sent, sent_by}

-- a list has a last element, or none
pub record IsEnding (xs : List (Pair Event)) : Type 0 where
  pub front : List (Pair Event)
  pub last : Pair Event
  pub whole : xs ≡ front ++ last ∷ []

pub ending_of : (xs : List (Pair Event)) → (xs ≡ []) ⊎ IsEnding xs
ending_of [] = inl refl
ending_of (x ∷ xs) = elim (ending_of xs) [
  | inl none ↦ inr (record { front = []; last = x; whole = ap (λ ys. x ∷ ys) none })
  | inr some ↦ inr (record { front = x ∷ some.front; last = some.last; whole = ap (λ ys. x ∷ ys) some.whole })
]

sends_none : (event : Event) → (IsSending event → ⊥) → sent_by event ≡ []
sends_none (events.Send number range request) sends = absurd (sends tt)
sends_none event sends = refl

-- ---- the wave of one reply

-- where the list does not end with a hearing, what was evaluated after all that was sent is of its wave
pub in_wave_now : (own : List (Pair Event)) (step : ℕ) → EndsUnheard own → All (λ (p : Pair Event). p.entry.step < step) own → IsInWave own step
in_wave_now own step unheard behind = record {
  sent = All-weaker (λ (p : Pair Event). p.entry.step < step) (λ (p : Pair Event). IsSending p.entry.event → p.entry.step < step) (λ p below sends. below) own behind;
  heard = after;
}
  where
    after : AreHeardAfter step own
    after front hearings whole hears = elim (ending_of hearings) [
      | inl none ↦ subst (All (λ (p : Pair Event). step < p.entry.step)) (sym none) (All-nil (λ (p : Pair Event). step < p.entry.step))
      | inr some ↦
          let last : IsHearingOfWave (known_of own).sent some.last.entry.event = All-contains (λ (p : Pair Event). IsHearingOfWave (known_of own).sent p.entry.event) hearings some.last hears (subst (λ l. Contains l some.last) (sym some.whole) (Contains-push some.front some.last)) in
          absurd (unheard (front ++ some.front) some.last (whole ∙ (ap (λ l. front ++ l) some.whole ∙ sym (append_assoc front some.front (some.last ∷ [])))) last)
    ]

-- what is sent behind an entry is as before, where that sends nothing
sends_on : (own : List (Pair Event)) (q : Pair Event) → (IsSending q.entry.event → ⊥) → (known_of (own ++ q ∷ [])).sent ≡ (known_of own).sent
sends_on own q sends =
    ap (λ (k : Known). k.sent) (fold-append (λ (k : Known) (p : Pair Event). learn p k) nothing_known own (q ∷ []))
    ∙ (ap (λ ms. (known_of own).sent ++ ms) (sends_none q.entry.event sends) ∙ append-nil (known_of own).sent)

-- it stays so behind an entry that sends nothing
pub in_wave_on : (own : List (Pair Event)) (q : Pair Event) (step : ℕ) → (IsSending q.entry.event → ⊥) → step < q.entry.step → IsInWave own step → IsInWave (own ++ q ∷ []) step
in_wave_on own q step sends above one = record {
  sent = All-push (λ (p : Pair Event). IsSending p.entry.event → p.entry.step < step) own q one.sent (λ does. absurd (sends does));
  heard = after;
}
  where
    after : AreHeardAfter step (own ++ q ∷ [])
    after front hearings whole hears = elim (ending_of hearings) [
      | inl none ↦ subst (All (λ (p : Pair Event). step < p.entry.step)) (sym none) (All-nil (λ (p : Pair Event). step < p.entry.step))
      | inr some ↦
          let longer : own ++ q ∷ [] ≡ (front ++ some.front) ++ some.last ∷ [] = whole ∙ (ap (λ l. front ++ l) some.whole ∙ sym (append_assoc front some.front (some.last ∷ []))) in
          let both = same_from_push own (front ++ some.front) q some.last longer in
          let later : All (λ (p : Pair Event). IsHearingOfWave (known_of own).sent p.entry.event) hearings = subst (λ ms. All (λ (p : Pair Event). IsHearingOfWave ms p.entry.event) hearings) (sends_on own q sends) hears in
          let before : All (λ (p : Pair Event). IsHearingOfWave (known_of own).sent p.entry.event) some.front = all_from_contains (λ (p : Pair Event). IsHearingOfWave (known_of own).sent p.entry.event) some.front (λ p there.
          All-contains (λ (p : Pair Event). IsHearingOfWave (known_of own).sent p.entry.event) hearings p later (subst (λ l. Contains l p) (sym some.whole) (Contains-append_left some.front (some.last ∷ []) p there))) in
          subst (All (λ (p : Pair Event). step < p.entry.step)) (sym some.whole)
          (All-push (λ (p : Pair Event). step < p.entry.step) some.front some.last (one.heard front some.front both.0 before) (subst (λ (p : Pair Event). step < p.entry.step) both.1 above))
    ]

-- the hearing of a wave is one
of_wave : (sent : List Sent) (event : Event) → IsHearingOfWave sent event → IsHearing event
of_wave sent (events.Hear number step) of = tt
of_wave sent event of = of

-- a list whose last entry hears nothing
pub unheard_push : (own : List (Pair Event)) (q : Pair Event) → (IsHearing q.entry.event → ⊥) → EndsUnheard (own ++ q ∷ [])
unheard_push own q hears front p whole does = hears (subst (λ (x : Pair Event). IsHearing x.entry.event) (sym (same_from_push own front q p whole).1) (of_wave (known_of (own ++ q ∷ [])).sent p.entry.event does))

-- ---- all that waits

went-on-still : (own : List (Pair Event)) (q : Pair Event) (step : ℕ) → WentOn own step → WentOn (own ++ q ∷ []) step
went-on-still own q step w = record { later = w.later; there = Contains-append_left own (q ∷ []) w.later w.there; above = w.above }

all-went-on : (own : List (Pair Event)) (q : Pair Event) (heard : List Heard) → All (λ (h : Heard). WentOn own h.step) heard → All (λ (h : Heard). WentOn (own ++ q ∷ []) h.step) heard
all-went-on own q heard all = All-weaker (λ (h : Heard). WentOn own h.step) (λ (h : Heard). WentOn (own ++ q ∷ []) h.step) (λ h w. went-on-still own q h.step w) heard all

all-in-wave : (own : List (Pair Event)) (q : Pair Event) (replies : List Answered) → (IsSending q.entry.event → ⊥) → All (λ (a : Answered). a.step < q.entry.step) replies → All (λ (a : Answered). IsInWave own a.step) replies
    → All (λ (a : Answered). IsInWave (own ++ q ∷ []) a.step) replies
all-in-wave own q replies sends below all =
    all_from_contains (λ (a : Answered). IsInWave (own ++ q ∷ []) a.step) replies (λ a there.
    in_wave_on own q a.step sends (All-contains (λ (a : Answered). a.step < q.entry.step) replies a below there) (All-contains (λ (a : Answered). IsInWave own a.step) replies a all there))

-- an actor that has made nothing
pub wave_new : {X : Type 0} (beside : Bool) → WaitInWave {X = X} beside [] [] []
wave_new {X} beside = record {
  wave = All-nil (λ (a : Answered). IsInWave [] a.step);
  unheard = All-nil (λ (m : X). EndsUnheard []);
  order = λ one. record { rising = tt; behind = All-nil (λ (a : Answered). All (λ (h : Heard). h.step < a.step) []) };
  heard = All-nil (λ (h : Heard). WentOn [] h.step);
}

-- an entry that neither sends nor hears
pub wave_done : {X : Type 0} (beside : Bool) (own : List (Pair Event)) (q : Pair Event) (posted : List X) (replies : List Answered) → (IsSending q.entry.event → ⊥) → (IsHearing q.entry.event → ⊥)
    → (known_of (own ++ q ∷ [])).heard ≡ (known_of own).heard → All (λ (a : Answered). a.step < q.entry.step) replies → WaitInWave beside own posted replies → WaitInWave beside (own ++ q ∷ []) posted replies
wave_done {X} beside own q posted replies sends hears same below w = record {
  wave = all-in-wave own q replies sends below w.wave;
  unheard = all_from_contains (λ (m : X). EndsUnheard (own ++ q ∷ [])) posted (λ m there. unheard_push own q hears);
  order = λ one. subst (λ hs. AreInOrder hs replies) (sym same) (w.order one);
  heard = subst (All (λ (h : Heard). WentOn (own ++ q ∷ []) h.step)) (sym same) (all-went-on own q (known_of own).heard w.heard);
}

-- a sending, where no reply waits
pub wave_sent : {X Y : Type 0} (beside : Bool) (own : List (Pair Event)) (q : Pair Event) (were : List X) (posted : List Y) → (IsHearing q.entry.event → ⊥)
    → (known_of (own ++ q ∷ [])).heard ≡ (known_of own).heard → WaitInWave beside own were [] → WaitInWave beside (own ++ q ∷ []) posted []
wave_sent {X} {Y} beside own q were posted hears same w = record {
  wave = All-nil (λ (a : Answered). IsInWave (own ++ q ∷ []) a.step);
  unheard = all_from_contains (λ (m : Y). EndsUnheard (own ++ q ∷ [])) posted (λ m there. unheard_push own q hears);
  order = λ one. record { rising = tt; behind = All-nil (λ (a : Answered). All (λ (h : Heard). h.step < a.step) (known_of (own ++ q ∷ [])).heard) };
  heard = subst (All (λ (h : Heard). WentOn (own ++ q ∷ []) h.step)) (sym same) (all-went-on own q (known_of own).heard w.heard);
}

-- the hearing of the first reply, where no message waits to be evaluated
pub wave_heard : {X : Type 0} (beside : Bool) (own : List (Pair Event)) (q : Pair Event) (h : Heard) (a : Answered) (rest : List Answered) → (IsSending q.entry.event → ⊥)
    → (known_of (own ++ q ∷ [])).heard ≡ (known_of own).heard ++ h ∷ [] → h.step ≡ a.step → All (λ (b : Answered). b.step < q.entry.step) (a ∷ rest) → WaitInWave {X = X} beside own [] (a ∷ rest)
    → WaitInWave {X = X} beside (own ++ q ∷ []) [] rest
wave_heard {X} beside own q h a rest sends same at below w = record {
  wave = all-in-wave own q rest sends (All-tail (λ (b : Answered). b.step < q.entry.step) a rest below) (All-tail (λ (b : Answered). IsInWave own b.step) a rest w.wave);
  unheard = All-nil (λ (m : X). EndsUnheard (own ++ q ∷ []));
  order = λ one.
      let o = w.order one in
      let hs = (known_of own).heard in
      subst (λ heard. AreInOrder heard rest) (sym same) (record {
        rising = o.rising.1;
        behind = all_from_contains (λ (b : Answered). All (λ (h : Heard). h.step < b.step) (hs ++ h ∷ [])) rest (λ b there.
            All-push (λ (h : Heard). h.step < b.step) hs h
            (All-contains (λ (b : Answered). All (λ (h : Heard). h.step < b.step) hs) rest b (All-tail (λ (b : Answered). All (λ (h : Heard). h.step < b.step) hs) a rest o.behind) there)
            (subst (λ n. n < b.step) (sym at) (All-contains (λ (later : Answered). a.step < later.step) rest b o.rising.0 there)));
      });
  heard = subst (All (λ (h : Heard). WentOn (own ++ q ∷ []) h.step)) (sym same)
      (All-push (λ (h : Heard). WentOn (own ++ q ∷ []) h.step) (known_of own).heard h (all-went-on own q (known_of own).heard w.heard)
      (record { later = q; there = Contains-push own q; above = subst (λ n. n < q.entry.step) (sym at) (All-head (λ (b : Answered). b.step < q.entry.step) a rest below) }));
}

push-order : (replies : List Answered) (a : Answered) → All (λ (b : Answered). b.step < a.step) replies → AreEvaluatedInOrder replies → AreEvaluatedInOrder (replies ++ a ∷ [])
push-order [] a below rising = (All-nil (λ (later : Answered). a.step < later.step), tt)
push-order (b ∷ replies) a below rising = (
  All-push (λ (later : Answered). b.step < later.step) replies a rising.0 (All-head (λ (b : Answered). b.step < a.step) b replies below),
  push-order replies a (All-tail (λ (b : Answered). b.step < a.step) b replies below) rising.1,
)

-- the evaluation of the first message, after all that the actor made
pub wave_evaluated : {X : Type 0} (beside : Bool) (own : List (Pair Event)) (m : X) (posted : List X) (replies : List Answered) (a : Answered) → All (λ (p : Pair Event). p.entry.step < a.step) own
    → (beside ≡ false → All (λ (b : Answered). b.step < a.step) replies) → WaitInWave beside own (m ∷ posted) replies → WaitInWave beside own posted (replies ++ a ∷ [])
wave_evaluated {X} beside own m posted replies a behind later w = record {
  wave = All-push (λ (b : Answered). IsInWave own b.step) replies a w.wave (in_wave_now own a.step (All-head (λ (x : X). EndsUnheard own) m posted w.unheard) behind);
  unheard = All-tail (λ (x : X). EndsUnheard own) m posted w.unheard;
  order = λ one.
      let o = w.order one in
      let hs = (known_of own).heard in
      record {
        rising = push-order replies a (later one) o.rising;
        behind = All-push (λ (b : Answered). All (λ (h : Heard). h.step < b.step) hs) replies a o.behind
            (All-weaker (λ (h : Heard). WentOn own h.step) (λ (h : Heard). h.step < a.step)
            (λ h went. let low : went.later.entry.step < a.step = All-contains (λ (p : Pair Event). p.entry.step < a.step) own went.later behind went.there in let up = went.above in omega (arith, low, up)) hs w.heard);
      };
  heard = w.heard;
}

-- ---- what comes after a note

-- the steps of a list that rises are at most that of its last entry
rises-up : (n : ℕ) (own : List (Pair Event)) (last p : Pair Event) (place : ℕ) → Rises n own → length own ≡ place + 1 → slice_get own place ≡ Some last → Contains own p → p.entry.step ≤ last.entry.step
rises-up n [] last p place rises long at there = absurd (contains_nil p there)
rises-up n (q ∷ []) last p place rises long at there =
    let zero' : place ≡ 0 = omega arith in
    let same : Some q ≡ Some last = subst (λ i. slice_get (q ∷ []) i ≡ Some last) zero' at in
    let is : q ≡ last = cc in
    elim (contains_cons q [] p there) [
      | inl here ↦ let e : p.entry.step ≡ last.entry.step = ap (λ (x : Pair Event). x.entry.step) (sym here ∙ is) in omega arith
      | inr none ↦ absurd (contains_nil p none)
    ]
rises-up n (q ∷ r ∷ own) last p zero rises long at there = absurd (omega arith)
rises-up n (q ∷ r ∷ own) last p (suc place) rises long at there =
    elim (contains_cons q (r ∷ own) p there) [
      | inl here ↦
          let least : q.entry.step + 1 ≤ last.entry.step = rises-least (q.entry.step + 1) (r ∷ own) last rises.1 (get_contains (r ∷ own) place last at) in
          let e : p.entry.step ≡ q.entry.step = ap (λ (x : Pair Event). x.entry.step) (sym here) in
          omega arith
      | inr later ↦ rises-up (q.entry.step + 1) (r ∷ own) last p place rises.1 (let l : length (r ∷ own) ≡ place + 1 = omega arith in l) at later
    ]

-- a note of the actor's last entry
module _ (S : Sense Event) (part : Part Event) (stands : StandsInHistory S part) where
  own-steps : Rises 0 part.own
  own-steps = subst (Rises 0) stands.list (own-rises S part.id stands.history stands.fine)

  note-at : (place uses : ℕ) (last : Pair Event) → length part.own ≡ place + 1 → slice_get part.own place ≡ Some last → IsBehindAll part.own (noted place uses part)
  note-at place uses last long at step after =
      let told : noted place uses part ≡ known_entry last.entry place uses ∷ [] = noted-at S part place uses last at in
      let low : last.entry.step < step = All-head (λ (k : KnownEntry Event). k.entry.step < step) (known_entry last.entry place uses) [] (subst (ComesAfter step) told after) in
      all_from_contains (λ (p : Pair Event). p.entry.step < step) part.own (λ p there. let up = rises-up 0 part.own last p place own-steps long at there in omega (arith, low, up))

  pub note_behind : (uses : ℕ) → 1 ≤ length part.own → IsBehindAll part.own (noted (length part.own - 1) uses part)
  note_behind uses some' = elim (ending_of part.own) [
    | inl none ↦ (let n : length part.own ≡ 0 = ap length none in absurd (omega arith))
    | inr some ↦
        let long : length part.own ≡ length some.front + 1 = ap length some.whole ∙ length-append some.front (some.last ∷ []) in
        let at : slice_get part.own (length some.front) ≡ Some some.last = ap (λ l. slice_get l (length some.front)) some.whole ∙ get_push some.front some.last in
        let place : length some.front ≡ length part.own - 1 = omega arith in
        subst (λ n. IsBehindAll part.own (noted n uses part)) place (note-at (length some.front) uses some.last long at)
  ]

-- the evaluation that its note tells of is the newest, where it came after all that the newest before it told of
pub newest_evaluated : (own : List (Pair Event)) (replies : List Answered) (before note : List (KnownEntry Event)) (a : Answered) (e : Entry Event) (place uses : ℕ) → e.step ≡ a.step → note ≡ known_entry e place uses ∷ []
    → IsNewest own replies before → ComesAfter a.step before → IsNewest own (replies ++ a ∷ []) note
newest_evaluated own replies before note a e place uses at tells newest after =
    let below : (step : ℕ) → ComesAfter step note → a.step < step = (λ step behind.
    let low : e.step < step = All-head (λ (k : KnownEntry Event). k.entry.step < step) (known_entry e place uses) [] (subst (ComesAfter step) tells behind) in omega arith) in
    record {
      made = λ step behind.
          let low = below step behind in
          All-weaker (λ (p : Pair Event). p.entry.step < a.step) (λ (p : Pair Event). p.entry.step < step) (λ p h. omega (arith, low, h)) own (newest.made a.step after);
      evaluated = λ step behind.
          let low = below step behind in
          All-push (λ (b : Answered). b.step < step) replies a (All-weaker (λ (b : Answered). b.step < a.step) (λ (b : Answered). b.step < step) (λ b h. omega (arith, low, h)) replies (newest.evaluated a.step after)) low;
    }
