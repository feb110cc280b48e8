-- Where the calls and jobs of one session come one after another, it has heard what it sent before it asks or is told, and done its jobs before
-- it asks; but for what is broken off where its list ends.
use Rattle.std.proofs.Common.{◌≡◌, ℕ, Bool, true, false, ◌==◌, ◌||◌, cond, List, [], ◌∷◌, ◌++◌, fold, ◌⊎◌, inl, inr, Option, None, Some, All, Contains, IsTrue, refl, sym, ap, subst, ◌∙◌, arith, append-nil, append_assoc}
use Rattle.std.proofs.lemmas.Bool.{eq-eqb, eqb-true}
use Rattle.std.proofs.lemmas.List.Elements.{All-contains, Contains-append_cases, Contains-append_left, Contains-append_right, Contains-push, Contains-push_cases}
use Rattle.std.proofs.lemmas.List.{map-append}
use Rattle.std.proofs.lemmas.List.Folds.{Any-from_list_any}
use Rattle.std.specs.List.{list_any}
use Rattle.std.specs.Option.{option_to_list}
use Rattle.pc_base.specs.declared.actor.ActorId.TheVariants as actors
use Rattle.pc_history.proofs.Ids.{same_id-equal}
use Rattle.pc_history.specs.declared.pair.Pair.{Pair}
use Rattle.pc_lists.proofs.Lists.{all_from_contains, contains_cons, contains_head, contains_nil, contains_tail}
use Rattle.pc_proto.specs.declared.answer.Answer.{Answer}
use Rattle.pc_proto.specs.declared.call.Call.{Call}
use Rattle.pc_proto.specs.declared.event.Event.{Event}
use Rattle.pc_proto.specs.declared.event.Event.TheVariants as events
use Rattle.pc_proto.specs.declared.request.Request.{Request}
use Rattle.pc_turns.specs.Order.{AsksIfNext, AsksPartly, AsksWhole, FinishesIfLeft, FinishesWhole, GoInTurns, GoOnThreads, GoesByItself, IsInBetween, TakesOne, UnlessEnded, entries_by, events_of, is_at_end}
use Rattle.pc_turns.specs.Order.GoesByItself.{Passed, Ended, Onwards}
use Rattle.pc_world.proofs.Knowing.{known_push}
use Rattle.pc_follows.specs.FinishingJobs.{jobs_of}
use Rattle.pc_world.specs.Known.{Known, known_after, known_of, learn, nothing_known}
use Rattle.pc_world.specs.Known.Clock.{high_after, top_after}
use Rattle.pc_world.specs.Known.Traffic.{Heard, Sent, heard_by, sent_by}
use Rattle.pc_world.specs.Tell.Refusal.{is_heard}

-- ---- lists

module _ {X : Type 0} where
  -- where an element splits two lists that are put together
  pub split-cases : (first rest xs : List X) (x : X) (ys : List X) → first ++ rest ≡ xs ++ x ∷ ys
      → ((more : List X) × (first ≡ xs ++ x ∷ more)) ⊎ ((more : List X) × (xs ≡ first ++ more) × (rest ≡ more ++ x ∷ ys))
  split-cases [] rest xs x ys e = inr (xs, refl, e)
  split-cases (f ∷ first) rest [] x ys e = let same : f ≡ x = cc in inl (first, ap (λ y. y ∷ first) same)
  split-cases (f ∷ first) rest (y ∷ xs) x ys e =
      let same : f ≡ y = cc in
      let later : first ++ rest ≡ xs ++ x ∷ ys = cc in
      elim (split-cases first rest xs x ys later) [
        | inl here ↦ inl (here.0, λ i. same i ∷ here.1 i)
        | inr there ↦ inr (there.0, (λ i. sym same i ∷ there.1 i), there.2)
      ]

  pub none-split : (xs : List X) (x : X) (ys : List X) → [] ≡ xs ++ x ∷ ys → ⊥
  none-split [] x ys e = cc
  none-split (y ∷ xs) x ys e = cc

  -- an element of a list that has a first, some between and a last
  first-between-last : (ds : List X) (x : X) (es : List X) (a : X) (bs : List X) (z : X) → ds ++ x ∷ es ≡ a ∷ (bs ++ z ∷ []) → ((ds ≡ []) × (x ≡ a)) ⊎ Contains bs x ⊎ ((x ≡ z) × (es ≡ []))
  first-between-last [] x es a bs z e = inl (refl, cc)
  first-between-last (d ∷ ds) x es a bs z e = let later : ds ++ x ∷ es ≡ bs ++ z ∷ [] = cc in inr (last ds bs later)
    where
      last : (ds bs : List X) → ds ++ x ∷ es ≡ bs ++ z ∷ [] → Contains bs x ⊎ ((x ≡ z) × (es ≡ []))
      last [] [] e = inr (cc, cc)
      last [] (b ∷ bs) e = let same : b ≡ x = cc in inl (subst (λ y. Contains (b ∷ bs) y) same (contains_head b bs))
      last (d ∷ ds) [] e = let more : ds ++ x ∷ es ≡ [] = cc in absurd (none-split ds x es (sym more))
      last (d ∷ ds) (b ∷ bs) e = let later : ds ++ x ∷ es ≡ bs ++ z ∷ [] = cc in elim (last ds bs later) [ inl there ↦ inl (contains_tail b bs x there) | inr is ↦ inr is ]

  -- an element of a list that has a first
  first-later : (ds : List X) (x : X) (es : List X) (a : X) (bs : List X) → ds ++ x ∷ es ≡ a ∷ bs → ((ds ≡ []) × (x ≡ a)) ⊎ Contains bs x
  first-later [] x es a bs e = inl (refl, cc)
  first-later (d ∷ ds) x es a bs e = let later : ds ++ x ∷ es ≡ bs = cc in inr (subst (λ l. Contains l x) later (Contains-append_right ds (x ∷ es) x (contains_head x es)))

-- where a list of the events of entries splits, the entries do
events-nil : (ps : List (Pair Event)) → events_of ps ≡ [] → ps ≡ []
events-nil [] is = refl
events-nil (p ∷ ps) is = absurd cc

last-event : (ps : List (Pair Event)) (ds : List Event) (z : Event) → events_of ps ≡ ds ++ z ∷ []
    → (xs : List (Pair Event)) × (p : Pair Event) × (ps ≡ xs ++ p ∷ []) × (p.entry.event ≡ z)
last-event [] ds z is = absurd (none-split ds z [] is)
last-event (p ∷ ps) [] z is = let none : events_of ps ≡ [] = cc in let same : p.entry.event ≡ z = cc in ([], p, ap (λ l. p ∷ l) (events-nil ps none), same)
last-event (p ∷ ps) (d ∷ ds) z is = let later : events_of ps ≡ ds ++ z ∷ [] = cc in let r = last-event ps ds z later in (p ∷ r.0, r.1, ap (λ l. p ∷ l) r.2, r.3)

any-there : (number : ℕ) (heard : List Heard) (h : Heard) → Contains heard h → h.number ≡ number → list_any (λ (x : Heard). x.number == number) heard ≡ true
any-there number [] h there is = absurd (contains_nil h there)
any-there number (x ∷ xs) h there is = elim (contains_cons x xs h there) [
  | inl same ↦ ap (λ b. b || list_any (λ (x : Heard). x.number == number) xs) (eq-eqb x.number number (ap (λ (y : Heard). y.number) same ∙ is))
  | inr later ↦ by (x.number == number) (any-there number xs h later is)
]
  where
    by : (b : Bool) → list_any (λ (x : Heard). x.number == number) xs ≡ true → (b || list_any (λ (x : Heard). x.number == number) xs) ≡ true
    by true rest = refl
    by false rest = rest

-- ---- what was sent was heard, or is of the open call

-- each message that was sent was heard
abbrev pub HearsEach : Known → Type 0
HearsEach k = All (λ m. IsTrue (is_heard k.heard m)) k.sent

abbrev AwaitsIn : Known → Type 0
AwaitsIn k = (m : Sent) → Contains k.sent m → (is_heard k.heard m ≡ true) ⊎ Contains k.sent_now m

heard-more : (m : Sent) (heard : List Heard) (more : List Heard) → is_heard heard m ≡ true → is_heard (heard ++ more) m ≡ true
heard-more m heard more is =
    let a = Any-from_list_any (λ (x : Heard). x.number == m.number) heard is in
    any-there m.number (heard ++ more) a.1 (Contains-append_left heard more a.1 (a.0, a.2, a.3)) (eqb-true a.1.number m.number a.4)

heard-in : (k : Known) → HearsEach k → (m : Sent) → Contains k.sent m → is_heard k.heard m ≡ true
heard-in k all m there = All-contains (λ m. IsTrue (is_heard k.heard m)) k.sent m all there

hears-each : (k : Known) → ((m : Sent) → Contains k.sent m → is_heard k.heard m ≡ true) → HearsEach k
hears-each k on = all_from_contains (λ m. IsTrue (is_heard k.heard m)) k.sent on

awaits-learnt : (k : Known) (event : Event) (g : Option Heard) (top high : ℕ) → ((call : Call) (reading : ℕ) → event ≡ events.Ask call reading → HearsEach k) → AwaitsIn k
    → AwaitsIn (known_after event g top high k)
awaits-learnt k event g top high asks aw = by event asks
  where
    rests : (m : Sent) → Contains (k.sent ++ []) m → (is_heard (k.heard ++ option_to_list g) m ≡ true) ⊎ Contains (k.sent_now ++ []) m
    rests m there = elim (aw m (subst (λ l. Contains l m) (append-nil k.sent) there)) [
      | inl heard ↦ inl (heard-more m k.heard (option_to_list g) heard)
      | inr now ↦ inr (Contains-append_left k.sent_now [] m now)
    ]

    by : (event : Event) → ((call : Call) (reading : ℕ) → event ≡ events.Ask call reading → HearsEach k) → AwaitsIn (known_after event g top high k)
    by (events.Ask call reading) all m there = inl (heard-more m k.heard (option_to_list g) (heard-in k (all call reading refl) m (subst (λ l. Contains l m) (append-nil k.sent) there)))
    by (events.Send number range request) all m there =
        let m0 : Sent = record { number = number; range = range; request = request } in
        elim (Contains-push_cases k.sent m0 m there) [
          | inl old ↦ elim (aw m old) [ inl heard ↦ inl (heard-more m k.heard (option_to_list g) heard) | inr now ↦ inr (Contains-append_left k.sent_now (m0 ∷ []) m now) ]
          | inr new ↦ inr (subst (λ x. Contains (k.sent_now ++ m0 ∷ []) x) new (Contains-push k.sent_now m0))
        ]
    by (events.Eval sender sent told) all m there = rests m there
    by (events.Hear number step) all m there = rests m there
    by (events.Tell answer) all m there = rests m there
    by (events.Meet id step) all m there = rests m there

awaits-push : (own : List (Pair Event)) (p : Pair Event) → ((call : Call) (reading : ℕ) → p.entry.event ≡ events.Ask call reading → HearsEach (known_of own)) → AwaitsIn (known_of own) → AwaitsIn (known_of (own ++ p ∷ []))
awaits-push own p asks aw =
    let k = known_of own in
    subst AwaitsIn (sym (known_push own p)) (awaits-learnt k p.entry.event (heard_by p.entry.event p.named k.sent) (top_after p.entry.event p.named k.top) (high_after p.entry.event p.named k.high) asks aw)

awaits-along : (before xs : List (Pair Event))
    → ((front : List (Pair Event)) (p : Pair Event) (back : List (Pair Event)) → xs ≡ front ++ p ∷ back → (call : Call) (reading : ℕ) → p.entry.event ≡ events.Ask call reading → HearsEach (known_of (before ++ front)))
    → AwaitsIn (known_of before) → AwaitsIn (known_of (before ++ xs))
awaits-along before [] asks aw = subst (λ l. AwaitsIn (known_of l)) (sym (append-nil before)) aw
awaits-along before (x ∷ xs) asks aw =
    subst (λ l. AwaitsIn (known_of l)) (append_assoc before (x ∷ []) xs)
    (awaits-along (before ++ x ∷ []) xs
    (λ front p back split call reading is. subst (λ l. HearsEach (known_of l)) (sym (append_assoc before (x ∷ []) front)) (asks (x ∷ front) p back (ap (λ l. x ∷ l) split) call reading is))
    (awaits-push before x (λ call reading is. subst (λ l. HearsEach (known_of l)) (append-nil before) (asks [] x xs refl call reading is)) aw))

-- what was heard in the last call was heard
abbrev HeardEver : Known → Type 0
HeardEver k = (h : Heard) → Contains k.heard_now h → Contains k.heard h

ever-learnt : (k : Known) (event : Event) (g : Option Heard) (top high : ℕ) → HeardEver k → HeardEver (known_after event g top high k)
ever-learnt k event g top high ever = by event
  where
    more : (h : Heard) → Contains (k.heard_now ++ option_to_list g) h → Contains (k.heard ++ option_to_list g) h
    more h there = elim (Contains-append_cases k.heard_now (option_to_list g) h there) [
      | inl old ↦ Contains-append_left k.heard (option_to_list g) h (ever h old)
      | inr new ↦ Contains-append_right k.heard (option_to_list g) h new
    ]

    by : (event : Event) → HeardEver (known_after event g top high k)
    by (events.Ask call reading) h there = absurd (contains_nil h there)
    by (events.Send number range request) h there = more h there
    by (events.Eval sender sent told) h there = more h there
    by (events.Hear number step) h there = more h there
    by (events.Tell answer) h there = more h there
    by (events.Meet id step) h there = more h there

ever-along : (k : Known) (ps : List (Pair Event)) → HeardEver k → HeardEver (fold (λ k p. learn p k) k ps)
ever-along k [] ever = ever
ever-along k (p ∷ ps) ever =
    ever-along (learn p k) ps (ever-learnt k p.entry.event (heard_by p.entry.event p.named k.sent) (top_after p.entry.event p.named k.top) (high_after p.entry.event p.named k.high) ever)

-- what was heard in the call was heard
pub heard_ever : (own : List (Pair Event)) (m : Sent) → is_heard (known_of own).heard_now m ≡ true → is_heard (known_of own).heard m ≡ true
heard_ever own m now =
    let a = Any-from_list_any (λ (x : Heard). x.number == m.number) (known_of own).heard_now now in
    let ever = ever-along nothing_known own (λ h there. there) a.1 (a.0, a.2, a.3) in
    any-there m.number (known_of own).heard a.1 ever (eqb-true a.1.number m.number a.4)

-- what is told brings no message
hears-after_tell : (own : List (Pair Event)) (p : Pair Event) (answer : Answer) → p.entry.event ≡ events.Tell answer → HearsEach (known_of own) → HearsEach (known_of (own ++ p ∷ []))
hears-after_tell own p answer is all =
    let k = known_of own in
    let sent : (learn p k).sent ≡ k.sent = ap (λ event. k.sent ++ sent_by event) is ∙ append-nil k.sent in
    subst HearsEach (sym (known_push own p))
    (hears-each (learn p k) (λ m there. heard-more m k.heard _ (heard-in k all m (subst (λ l. Contains l m) sent there))))

-- what was heard was heard when more was done
heard-kept : (before xs : List (Pair Event)) (m : Sent) → is_heard (known_of before).heard m ≡ true → is_heard (known_of (before ++ xs)).heard m ≡ true
heard-kept before [] m is = subst (λ l. is_heard (known_of l).heard m ≡ true) (sym (append-nil before)) is
heard-kept before (x ∷ xs) m is =
    let k = known_of before in
    subst (λ l. is_heard (known_of l).heard m ≡ true) (append_assoc before (x ∷ []) xs)
    (heard-kept (before ++ x ∷ []) xs m (subst (λ k. is_heard k.heard m ≡ true) (sym (known_push before x)) (heard-more m k.heard (option_to_list (heard_by x.entry.event x.named k.sent)) is)))

-- ---- what an entry that asks or tells finds

pub record IsGoodAt (before : List (Pair Event)) (p : Pair Event) : Type 0 where
  pub asks : (call : Call) (reading : ℕ) → p.entry.event ≡ events.Ask call reading → (jobs_of before ≡ []) × HearsEach (known_of before)
  pub tells : (answer : Answer) → p.entry.event ≡ events.Tell answer → HearsEach (known_of before)

abbrev pub AllGood : List (Pair Event) → List (Pair Event) → Type 0
AllGood before part = (xs : List (Pair Event)) (p : Pair Event) (ys : List (Pair Event)) → part ≡ xs ++ p ∷ ys → IsGoodAt (before ++ xs) p

-- the session tells where it has heard what it sent in its call
abbrev pub TellsHeard : List (Pair Event) → Type 0
TellsHeard own = (before : List (Pair Event)) (p : Pair Event) (later : List (Pair Event)) (answer : Answer) → own ≡ before ++ p ∷ later → p.entry.event ≡ events.Tell answer
    → (m : Sent) → Contains (known_of before).sent_now m → is_heard (known_of before).heard m ≡ true

nothing-good : (before part : List (Pair Event)) → part ≡ [] → AllGood before part
nothing-good before part none xs p ys split = absurd (none-split xs p ys (sym none ∙ split))

both-good : (before first rest : List (Pair Event)) → AllGood before first → AllGood (before ++ first) rest → AllGood before (first ++ rest)
both-good before first rest one two xs p ys split = elim (split-cases first rest xs p ys split) [
  | inl here ↦ one xs p here.0 here.1
  | inr there ↦ subst (λ h. IsGoodAt h p) (append_assoc before first there.0 ∙ ap (λ l. before ++ l) (sym there.1)) (two there.0 p ys there.2)
]

event-at : (part xs : List (Pair Event)) (p : Pair Event) (ys : List (Pair Event)) → part ≡ xs ++ p ∷ ys → events_of part ≡ events_of xs ++ p.entry.event ∷ events_of ys
event-at part xs p ys split = ap events_of split ∙ map-append (λ (q : Pair Event). q.entry.event) xs (p ∷ ys)

between-good : (before part : List (Pair Event)) → All IsInBetween (events_of part) → AllGood before part
between-good before part within xs p ys split = record {
  asks = λ call reading is. absurd (subst IsInBetween is there);
  tells = λ answer is. absurd (subst IsInBetween is there);
}
  where
    there : IsInBetween p.entry.event
    there = All-contains IsInBetween (events_of part) p.entry.event within (subst (λ l. Contains l p.entry.event) (sym (event-at part xs p ys split)) (Contains-append_right (events_of xs) (p.entry.event ∷ events_of ys) p.entry.event (contains_head p.entry.event (events_of ys))))

module _ (own : List (Pair Event)) (heard : TellsHeard own) where
  call-good : (number : ℕ) (call : Call) (before part after : List (Pair Event)) → own ≡ before ++ (part ++ after) → HearsEach (known_of before) → jobs_of before ≡ [] → AsksWhole number call part
      → AllGood before part × HearsEach (known_of (before ++ part))
  call-good number call before part after whole all none c = (good, end)
    where
      at : (xs : List (Pair Event)) (p : Pair Event) (ys : List (Pair Event)) → part ≡ xs ++ p ∷ ys → events_of xs ++ p.entry.event ∷ events_of ys ≡ events.Ask call c.reading ∷ (c.between ++ events.Tell c.answer ∷ [])
      at xs p ys split = sym (event-at part xs p ys split) ∙ c.whole

      asked : (xs : List (Pair Event)) (p : Pair Event) (ys : List (Pair Event)) → part ≡ xs ++ p ∷ ys → (other : Call) (reading : ℕ) → p.entry.event ≡ events.Ask other reading → xs ≡ []
      asked xs p ys split other reading is = elim (first-between-last (events_of xs) p.entry.event (events_of ys) (events.Ask call c.reading) c.between (events.Tell c.answer) (at xs p ys split)) [
        | inl first ↦ events-nil xs first.0
        | inr other ↦ elim other [
          | inl there ↦ absurd (subst IsInBetween is (All-contains IsInBetween c.between p.entry.event c.within there))
          | inr last ↦ absurd (let both = sym is ∙ last.0 in cc both)
        ]
      ]

      heard-there : (xs : List (Pair Event)) (p : Pair Event) (ys : List (Pair Event)) → part ≡ xs ++ p ∷ ys → (other : Call) (reading : ℕ) → p.entry.event ≡ events.Ask other reading → HearsEach (known_of (before ++ xs))
      heard-there xs p ys split other reading is = subst (λ l. HearsEach (known_of l)) (sym (append-nil before) ∙ ap (λ l. before ++ l) (sym (asked xs p ys split other reading is))) all

      told-there : (xs : List (Pair Event)) (p : Pair Event) (ys : List (Pair Event)) → part ≡ xs ++ p ∷ ys → (answer : Answer) → p.entry.event ≡ events.Tell answer → HearsEach (known_of (before ++ xs))
      told-there xs p ys split answer is =
          let there : own ≡ (before ++ xs) ++ p ∷ (ys ++ after) =
          whole ∙ ap (λ l. before ++ (l ++ after)) split ∙ ap (λ l. before ++ l) (append_assoc xs (p ∷ ys) after) ∙ sym (append_assoc before xs (p ∷ (ys ++ after))) in
          let aw : AwaitsIn (known_of (before ++ xs)) = awaits-along before xs
          (λ front x back inside other reading asks. heard-there front x (back ++ p ∷ ys) (split ∙ ap (λ l. l ++ p ∷ ys) inside ∙ append_assoc front (x ∷ back) (p ∷ ys)) other reading asks)
          (λ m there_m. inl (heard-in (known_of before) all m there_m)) in
          hears-each (known_of (before ++ xs)) (λ m there_m. elim (aw m there_m) [ inl done ↦ done | inr now ↦ heard (before ++ xs) p (ys ++ after) answer there is m now ])

      good : AllGood before part
      good xs p ys split = record {
        asks = λ other reading is. (ap (λ l. jobs_of (before ++ l)) (asked xs p ys split other reading is) ∙ ap jobs_of (append-nil before) ∙ none, heard-there xs p ys split other reading is);
        tells = λ answer is. told-there xs p ys split answer is;
      }

      end : HearsEach (known_of (before ++ part))
      end =
          let d = last-event part (events.Ask call c.reading ∷ c.between) (events.Tell c.answer) c.whole in
          let told = told-there d.0 d.1 [] d.2 c.answer d.3 in
          subst (λ l. HearsEach (known_of l)) (append_assoc before d.0 (d.1 ∷ []) ∙ ap (λ l. before ++ l) (sym d.2)) (hears-after_tell (before ++ d.0) d.1 c.answer d.3 told)

  broken-good : (number : ℕ) (call : Call) (before part : List (Pair Event)) → HearsEach (known_of before) → jobs_of before ≡ [] → AsksPartly number call part → AllGood before part
  broken-good number call before part all none c xs p ys split = record {
    asks = λ other reading is. (
      ap (λ l. jobs_of (before ++ l)) (asked other reading is) ∙ ap jobs_of (append-nil before) ∙ none,
      subst (λ l. HearsEach (known_of l)) (sym (append-nil before) ∙ ap (λ l. before ++ l) (sym (asked other reading is))) all,
    );
    tells = λ answer is. absurd (told answer is);
  }
    where
      places : ((events_of xs ≡ []) × (p.entry.event ≡ events.Ask call c.reading)) ⊎ Contains c.between p.entry.event
      places = first-later (events_of xs) p.entry.event (events_of ys) (events.Ask call c.reading) c.between (sym (event-at part xs p ys split) ∙ c.begins)

      asked : (other : Call) (reading : ℕ) → p.entry.event ≡ events.Ask other reading → xs ≡ []
      asked other reading is = elim places [
        | inl first ↦ events-nil xs first.0
        | inr there ↦ absurd (subst IsInBetween is (All-contains IsInBetween c.between p.entry.event c.within there))
      ]

      told : (answer : Answer) → p.entry.event ≡ events.Tell answer → ⊥
      told answer is = elim places [
        | inl first ↦ (let both = sym is ∙ first.1 in cc both)
        | inr there ↦ subst IsInBetween is (All-contains IsInBetween c.between p.entry.event c.within there)
      ]

  module _ (next : ℕ → List (Pair Event) → Option Call) (ended : ℕ → List (Pair Event) → Bool) where
    -- all was heard, or the list has ended
    abbrev Goes : List (Pair Event) → Type 0
    Goes before = HearsEach (known_of before) ⊎ (ended 1 before ≡ true)

    still : (before part : List (Pair Event)) → part ≡ [] → Goes before → Goes (before ++ part)
    still before part none goes = subst Goes (sym (append-nil before) ∙ ap (λ l. before ++ l) (sym none)) goes

    asks-good : (before part after : List (Pair Event)) → own ≡ before ++ (part ++ after) → Goes before → jobs_of before ≡ [] → (o : Option Call) → UnlessEnded (ended 1 before) part (AsksIfNext next ended 1 o before part)
        → AllGood before part × Goes (before ++ part)
    asks-good before part after whole goes none o takes = by (ended 1 before) refl takes goes
      where
        heard-or : (call : Option Call) → HearsEach (known_of before) → AsksIfNext next ended 1 call before part → AllGood before part × Goes (before ++ part)
        heard-or None all is = (nothing-good before part is, still before part is (inl all))
        heard-or (Some call) all is = elim is [
          | inl c ↦ (let r = call-good 1 call before part after whole all none c in (r.0, inl r.1))
          | inr broken ↦ (broken-good 1 call before part all none broken.0, inr broken.1)
        ]

        by : (b : Bool) → ended 1 before ≡ b → UnlessEnded b part (AsksIfNext next ended 1 o before part) → Goes before → AllGood before part × Goes (before ++ part)
        by true is nothing goes = (nothing-good before part nothing, still before part nothing goes)
        by false is takes (inl all) = heard-or o all takes
        by false is takes (inr over) = absurd (let both = sym over ∙ is in cc both)

    finishes-good : (before part : List (Pair Event)) → Goes before → (jobs : List (List Request)) → UnlessEnded (ended 1 before) part (FinishesIfLeft next ended 1 jobs before part) → AllGood before part × Goes (before ++ part)
    finishes-good before part goes jobs takes = by (ended 1 before) refl takes goes
      where
        whole-heard : HearsEach (known_of before) → FinishesWhole 1 before part → HearsEach (known_of (before ++ part))
        whole-heard all done =
            let later = known_of (before ++ part) in
            hears-each later (λ m there. elim (All-contains (λ m. IsTrue (is_heard later.heard m) ⊎ Contains (known_of before).sent m) later.sent m done.heard there) [
              | inl heard ↦ heard
              | inr was ↦ heard-kept before part m (heard-in (known_of before) all m was)
            ])

        left : HearsEach (known_of before) → (jobs : List (List Request)) → FinishesIfLeft next ended 1 jobs before part → AllGood before part × Goes (before ++ part)
        left all [] nothing = (nothing-good before part nothing, still before part nothing (inl all))
        left all (job ∷ jobs) is = elim is [
          | inl done ↦ (between-good before part done.within, inl (whole-heard all done))
          | inr broken ↦ (between-good before part broken.0.within, inr broken.1)
        ]

        by : (b : Bool) → ended 1 before ≡ b → UnlessEnded b part (FinishesIfLeft next ended 1 jobs before part) → Goes before → AllGood before part × Goes (before ++ part)
        by true is nothing goes = (nothing-good before part nothing, still before part nothing goes)
        by false is takes (inl all) = left all jobs takes
        by false is takes (inr over) = absurd (let both = sym over ∙ is in cc both)

    module _ (mine : All (λ p. p.entry.actor ≡ actors.Session 1) own) where
      share : (before after : List (Pair Event)) → own ≡ before ++ after → entries_by 1 before ≡ before
      share before after whole = by before (λ p there. All-contains (λ p. p.entry.actor ≡ actors.Session 1) own p mine (subst (λ l. Contains l p) (sym whole) (Contains-append_left before after p there)))
        where
          by : (ps : List (Pair Event)) → ((p : Pair Event) → Contains ps p → p.entry.actor ≡ actors.Session 1) → entries_by 1 ps ≡ ps
          by [] all = refl
          by (p ∷ ps) all =
              let it = same_id-equal (actors.Session 1) p.entry.actor (sym (all p (contains_head p ps))) in
              let rest = by ps (λ q there. all q (contains_tail p ps q there)) in
              ap (λ b. cond b (p ∷ entries_by 1 ps) (entries_by 1 ps)) it ∙ ap (λ l. p ∷ l) rest

      turn-good : (before part after : List (Pair Event)) → own ≡ before ++ (part ++ after) → Goes before → TakesOne next ended 1 (jobs_of (entries_by 1 before)) (entries_by 1 before) part
          → AllGood before part × Goes (before ++ part)
      turn-good before part after whole goes turn =
          let it : entries_by 1 before ≡ before = share before (part ++ after) whole in
          by (jobs_of before) refl (subst (λ l. TakesOne next ended 1 (jobs_of l) l part) it turn)
        where
          by : (jobs : List (List Request)) → jobs_of before ≡ jobs → TakesOne next ended 1 jobs before part → AllGood before part × Goes (before ++ part)
          by [] none turn = asks-good before part after whole goes none (next 1 before) turn
          by (job ∷ jobs) some turn = finishes-good before part goes (jobs_of before) turn

      goes-good : (test : List (Pair Event) → Bool) (before part after : List (Pair Event)) → own ≡ before ++ (part ++ after) → Goes before → GoesByItself next ended 1 test before part
          → AllGood before part × Goes (before ++ part)
      goes-good test before part after whole goes (Passed start none passed) = (nothing-good before part refl, still before part refl goes)
      goes-good test before part after whole goes (Ended start over) = (nothing-good before part refl, still before part refl goes)
      goes-good test before part after whole goes (Onwards start first rest on turn more) =
          let one = turn-good before first (rest ++ after) (whole ∙ ap (λ l. before ++ l) (append_assoc first rest after)) goes turn in
          let two = goes-good test (before ++ first) rest after (whole ∙ ap (λ l. before ++ l) (append_assoc first rest after) ∙ sym (append_assoc before first (rest ++ after))) one.1 more in
          (both-good before first rest one.0 two.0, subst Goes (append_assoc before first rest) two.1)

      nothing-sent : Goes []
      nothing-sent = inl (hears-each (known_of []) (λ m there. absurd (contains_nil m there)))

      -- in turns of which none is stated, without recoverers
      pub in-turns : (opened : List (Pair Event) → Bool) (recoverer_ended : ℕ → List (Pair Event) → Bool) (rounds : ℕ → ℕ) → GoInTurns next ended recoverer_ended rounds opened [] 1 0 own → AllGood [] own
      in-turns opened recoverer_ended rounds t =
          let none : t.taken ≡ [] = t.takes in
          let b = t.opening ++ t.taken in
          let unaided : own ≡ t.opening ++ (t.taken ++ t.left) = t.whole ∙ ap (λ l. t.opening ++ (t.taken ++ l)) (ap (λ l. t.left ++ l) t.recovers ∙ append-nil t.left) in
          let first = goes-good opened [] t.opening (t.taken ++ t.left) unaided nothing-sent t.opens in
          let opened_all : AllGood [] b = both-good [] t.opening t.taken first.0 (nothing-good t.opening t.taken none) in
          let goes : Goes b = still t.opening t.taken none first.1 in
          let left : List (Pair Event) = t.ends.0 in
          let behind : List (Pair Event) = t.ends.1 in
          let parts : t.left ≡ left ++ behind = t.ends.2 in
          let ends : behind ≡ [] = t.ends.4 in
          let whole : own ≡ b ++ (left ++ behind) = unaided ∙ sym (append_assoc t.opening t.taken t.left) ∙ ap (λ l. b ++ l) parts in
          let last = goes-good (is_at_end next 1) b left behind whole goes t.ends.3 in
          let all = both-good [] b left opened_all last.0 in
          subst (AllGood []) (sym (whole ∙ ap (λ l. b ++ (left ++ l)) ends ∙ ap (λ l. b ++ l) (append-nil left))) all

      -- on threads
      pub on-threads : (opened : List (Pair Event) → Bool) → GoOnThreads next ended opened 1 own → AllGood [] own
      on-threads opened t =
          let it : entries_by 1 own ≡ own = share own [] (sym (append-nil own)) in
          let goes : GoesByItself next ended 1 (is_at_end next 1) [] own = subst (λ l. GoesByItself next ended 1 (is_at_end next 1) [] l) it (t.each 1 (omega arith) (omega arith)) in
          (goes-good (is_at_end next 1) [] own [] (sym (append-nil own)) nothing-sent goes).0

-- where each entry is good, what was sent before the open call was heard
pub hears-before : (own before more : List (Pair Event)) → own ≡ before ++ more → AllGood [] own → (m : Sent) → Contains (known_of before).sent m → (is_heard (known_of before).heard m ≡ true) ⊎ Contains (known_of before).sent_now m
hears-before own before more whole good =
    awaits-along [] before
    (λ front p back split call reading is. ((good front p (back ++ more) (whole ∙ ap (λ l. l ++ more) split ∙ append_assoc front (p ∷ back) more)).asks call reading is).1)
    (λ m there. absurd (contains_nil m there))
