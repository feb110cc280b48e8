-- Of the puts for which a call waits all that went out are heard, or none, once one message more was sent, or one reply more was heard.
use Rattle.std.proofs.Common.{◌≡◌, ℕ, ◌+◌, Bool, true, false, ◌||◌, ◌&&◌, ◌==◌, not, ◌⊎◌, inl, inr, All, Contains, IsTrue, List, [], ◌∷◌, ◌++◌, Some, refl, sym, ap, subst, ◌∙◌}
use Rattle.std.proofs.lemmas.List.{append_assoc, same_from_push}
use Rattle.std.proofs.lemmas.List.Elements.{All-contains, All-weaker, Contains-append_left, Contains-append_right}
use Rattle.pc_coord.specs.Coordination.{Coordination, next_of, request_next, awaits_number}
use Rattle.pc_coord.specs.Knows.{Knows}
use Rattle.pc_desk.proofs.Waves.{ending_of}
use Rattle.pc_desk.specs.Desk.{DeskMeaning, KeepsTrack, is_on_way}
use Rattle.pc_follows.specs.Proving.{IsAwaitedPut, IsOfPutWave}
use Rattle.pc_follows.specs.WaveOrder.{EndsPutWaves, IsNoAsk, hears_put}
use Rattle.pc_history.specs.declared.pair.Pair.{Pair}
use Rattle.pc_lists.proofs.Lists.{all_from_contains, contains_head}
use Rattle.pc_proto.specs.declared.event.Event.{Event}
use Rattle.pc_proto.specs.declared.event.Event.TheVariants as events
use Rattle.pc_proto.specs.declared.request.Request.{Request}
use Rattle.pc_session.proofs.Knowing.{with_sent, with_heard}
use Rattle.pc_session.proofs.Awaited.{awaited_heard}
use Rattle.pc_session.proofs.AwaitedSent.{awaited_sent}
use Rattle.pc_world.specs.Known.{Known, known_of}
use Rattle.pc_world.specs.Known.Traffic.{Sent, Heard, request_sent}
use Rattle.pc_world.specs.Tell.Refusal.{is_heard}
use Rattle.std.proofs.lemmas.List.Folds.{list_any-append}
use Rattle.std.specs.List.{list_any}
use Rattle.std.specs.Option.{option_map_or}
use Rattle.pc_proto.specs.Requests.{is_put, is_stage}
use Rattle.pc_session.specs.InCall.{LeavesNoPut}
use Rattle.pc_session.specs.Session.{SessionMeaning, session_knows}
use Rattle.std.proofs.lemmas.Bool.{eqb-true}
use Rattle.pc_session.proofs.Away.{none_heard_next, said_before}
use Rattle.pc_session.proofs.HeardEntry.{heard_entry}

or_last : (a b : Bool) → b ≡ true → (a || b) ≡ true
or_last true b e = refl
or_last false b e = e

no_ask_front : (xs : List (Pair Event)) (x : Pair Event) → All (λ (y : Pair Event). IsNoAsk y.entry.event) (xs ++ x ∷ []) → All (λ (y : Pair Event). IsNoAsk y.entry.event) xs
no_ask_front xs x all = all_from_contains (λ (y : Pair Event). IsNoAsk y.entry.event) xs (λ y there. All-contains (λ (y : Pair Event). IsNoAsk y.entry.event) (xs ++ x ∷ []) y all (Contains-append_left xs (x ∷ []) y there))

-- a reply that was heard before is to a message that was sent before
hears_before : {C : Type 0} (d : DeskMeaning C) → KeepsTrack d → (number : ℕ) → number ≡ d.sends + 1 → (range : ℕ) (request : Request) (p : Pair Event) → Contains d.log.part.own p
    → IsTrue (hears_put ((known_of d.log.part.own).sent ++ record { number = number; range = range; request = request } ∷ []) p.entry.event) → IsTrue (hears_put (known_of d.log.part.own).sent p.entry.event)
hears_before d track number next range request p there hears = by p.entry.event refl hears
  where
    k : Known
    k = known_of d.log.part.own

    m : Sent
    m = record { number = number; range = range; request = request }

    -- the number of the new message was not heard
    other : (n step : ℕ) → p.entry.event ≡ events.Hear n step → (number == n) ≡ false
    other n step is = by_number (number == n) refl
      where
        by_number : (b : Bool) → (number == n) ≡ b → (number == n) ≡ false
        by_number false apart = apart
        by_number true same =
            let none = (none_heard_next d track number next).0 in
            let some : list_any (λ (h : Heard). h.number == n) k.heard ≡ true = heard_entry d.log track.log p there n step is in
            let e : true ≡ false = sym some ∙ (ap (λ i. list_any (λ (h : Heard). h.number == i) k.heard) (sym (eqb-true number n same)) ∙ none) in
            absurd cc

    by : (event : Event) → p.entry.event ≡ event → IsTrue (hears_put (k.sent ++ m ∷ []) event) → IsTrue (hears_put k.sent event)
    by (events.Hear n step) is put = sym (ap (λ o. option_map_or (λ (r : Request). is_put r) o false) (said_before n k.sent m (other n step is))) ∙ put
    by event is put = absurd (let e : false ≡ true = put in cc e)

-- so it is once one message more was sent
pub puts_sent : {C : Type 0} (d : DeskMeaning C) → KeepsTrack d → (c : Coordination) → Knows false c (known_of d.log.part.own) → (request : Request) → request_next (next_of c) ≡ Some request → (number range : ℕ) (q : Pair Event) → q.entry.event ≡ events.Send number range request
    → known_of (d.log.part.own ++ q ∷ []) ≡ with_sent number range request (known_of d.log.part.own) → number ≡ d.sends + 1 → EndsPutWaves d.log.part.own → EndsPutWaves (d.log.part.own ++ q ∷ [])
puts_sent d track c knows request due number range q sends known next puts front back p whole hears none = elim (ending_of back) [
  | inl last ↦
      let both = same_from_push own front q p (whole ∙ ap (λ l. front ++ (p ∷ l)) last) in
      let is : p.entry.event ≡ events.Send number range request = ap (λ (x : Pair Event). x.entry.event) (sym both.1) ∙ sends in
      absurd (let e : false ≡ true = ap (hears_put (known_of (own ++ q ∷ [])).sent) (sym is) ∙ hears in cc e)
  | inr some ↦
      let longer : own ++ q ∷ [] ≡ (front ++ (p ∷ some.front)) ++ some.last ∷ [] = whole ∙ (ap (λ l. front ++ (p ∷ l)) some.whole ∙ sym (append_assoc front (p ∷ some.front) (some.last ∷ []))) in
      let both = same_from_push own (front ++ (p ∷ some.front)) q some.last longer in
      let fewer : All (λ (x : Pair Event). IsNoAsk x.entry.event) some.front = no_ask_front some.front some.last (subst (All (λ (x : Pair Event). IsNoAsk x.entry.event)) some.whole none) in
      let there : Contains own p = subst (λ l. Contains l p) (sym both.0) (Contains-append_right front (p ∷ some.front) p (contains_head p some.front)) in
      let before : IsTrue (hears_put k.sent p.entry.event) = hears_before d track number next range request p there (ap (λ (x : Known). hears_put x.sent p.entry.event) (sym known) ∙ hears) in
      let heard : All (λ m. IsAwaitedPut k m.request → IsTrue (is_heard k.heard m)) (known_of front).sent = puts front some.front p both.0 before fewer in
      subst (λ x. All (λ m. IsAwaitedPut x m.request → IsTrue (is_heard x.heard m)) (known_of front).sent) (sym known)
      (All-weaker (λ m. IsAwaitedPut k m.request → IsTrue (is_heard k.heard m)) (λ m. IsAwaitedPut (with_sent number range request k) m.request → IsTrue (is_heard k.heard m))
      (λ m is awaited. is (awaited_sent c k request knows due number range m.request awaited)) (known_of front).sent heard)
]
  where
    own : List (Pair Event)
    own = d.log.part.own

    k : Known
    k = known_of own

-- and once a reply to one that is on its way was heard
pub puts_heard : {C : Type 0} (s t : SessionMeaning C) (h : Heard) (q : Pair Event) → t.desk.log.part.own ≡ s.desk.log.part.own ++ q ∷ [] → q.entry.event ≡ events.Hear h.number h.step → session_knows t ≡ with_heard h (session_knows s)
    → ((n : ℕ) → is_on_way n t.desk ≡ (is_on_way n s.desk && not (h.number == n))) → request_sent h.number (session_knows s).sent ≡ Some h.request
    → (IsOfPutWave h.request → All (λ m. IsAwaitedPut (session_knows s) m.request → IsTrue (is_heard (session_knows s).heard m) ⊎ (awaits_number m.number s.coordinator.due ≡ true)) (session_knows s).sent)
    → ((n : ℕ) → awaits_number n s.coordinator.due ≡ true → is_on_way n s.desk ≡ true) → LeavesNoPut s → LeavesNoPut t
puts_heard s t h q is hears_h known way said all awaited puts front back p whole hears none = elim (ending_of back) [
  | inl last ↦
      let both = same_from_push own front q p (sym is ∙ (whole ∙ ap (λ l. front ++ (p ∷ l)) last)) in
      let put : is_put h.request ≡ true = put_heard both.1 in
      subst (λ l. All Stands (known_of l).sent) both.0
      (All-weaker (λ m. IsAwaitedPut k m.request → IsTrue (is_heard k.heard m) ⊎ (awaits_number m.number s.coordinator.due ≡ true)) Stands (λ m was. stands m (λ a. elim (was a) [ inl heard ↦ inl heard | inr waits ↦ inr (awaited m.number waits) ])) k.sent (all (of_put h.request put)))
  | inr some ↦
      let longer : own ++ q ∷ [] ≡ (front ++ (p ∷ some.front)) ++ some.last ∷ [] = sym is ∙ (whole ∙ (ap (λ l. front ++ (p ∷ l)) some.whole ∙ sym (append_assoc front (p ∷ some.front) (some.last ∷ [])))) in
      let both = same_from_push own (front ++ (p ∷ some.front)) q some.last longer in
      let fewer : All (λ (x : Pair Event). IsNoAsk x.entry.event) some.front = no_ask_front some.front some.last (subst (All (λ (x : Pair Event). IsNoAsk x.entry.event)) some.whole none) in
      All-weaker (λ m. IsAwaitedPut k m.request → IsTrue (is_heard k.heard m) ⊎ (is_on_way m.number s.desk ≡ true)) Stands stands (known_of front).sent
      (puts front some.front p both.0 (ap (λ (x : Known). hears_put x.sent p.entry.event) (sym known) ∙ hears) fewer)
]
  where
    own : List (Pair Event)
    own = s.desk.log.part.own

    k : Known
    k = session_knows s

    Stands : Sent → Type 0
    Stands m = IsAwaitedPut (session_knows t) m.request → IsTrue (is_heard (session_knows t).heard m) ⊎ (is_on_way m.number t.desk ≡ true)

    pushed : (m : Sent) → is_heard k.heard m ≡ true → is_heard (session_knows t).heard m ≡ true
    pushed m heard =
        ap (λ (x : Known). is_heard x.heard m) known ∙ (list_any-append (λ (g : Heard). g.number == m.number) k.heard (h ∷ []) ∙ ap (λ b. b || list_any (λ (g : Heard). g.number == m.number) (h ∷ [])) heard)

    newest : (m : Sent) → (h.number == m.number) ≡ true → is_heard (session_knows t).heard m ≡ true
    newest m same =
        ap (λ (x : Known). is_heard x.heard m) known ∙ (list_any-append (λ (g : Heard). g.number == m.number) k.heard (h ∷ []) ∙ or_last (is_heard k.heard m) (list_any (λ (g : Heard). g.number == m.number) (h ∷ [])) (ap (λ b. b || false) same))

    by_number : (m : Sent) → (b : Bool) → (h.number == m.number) ≡ b → is_on_way m.number s.desk ≡ true → IsTrue (is_heard (session_knows t).heard m) ⊎ (is_on_way m.number t.desk ≡ true)
    by_number m true same on = inl (newest m same)
    by_number m false other on = inr (way m.number ∙ (ap (λ b. is_on_way m.number s.desk && not b) other ∙ ap (λ b. b && true) on))

    stands : (m : Sent) → (IsAwaitedPut k m.request → IsTrue (is_heard k.heard m) ⊎ (is_on_way m.number s.desk ≡ true)) → Stands m
    stands m was a = elim (was (awaited_heard h m.request k (subst (λ x. IsAwaitedPut x m.request) known a))) [
      | inl heard ↦ inl (pushed m heard)
      | inr on ↦ by_number m (h.number == m.number) refl on
    ]

    put_heard : q ≡ p → is_put h.request ≡ true
    put_heard same =
        let event : p.entry.event ≡ events.Hear h.number h.step = ap (λ (x : Pair Event). x.entry.event) (sym same) ∙ hears_h in
        let sends : (session_knows t).sent ≡ k.sent = ap (λ (x : Known). x.sent) known in
        sym (ap (λ o. option_map_or (λ (r : Request). is_put r) o false) said) ∙ (sym (ap (λ ms. hears_put ms (events.Hear h.number h.step)) sends) ∙ (ap (hears_put (session_knows t).sent) (sym event) ∙ hears))

    of_put : (r : Request) → is_put r ≡ true → IsOfPutWave r
    of_put r put = ap (λ b. b || is_stage r) put
