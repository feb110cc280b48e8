-- The session of the history with a staged commit is alone: entry by entry, what it owes.
use Rattle.std.proofs.Common.{◌≡◌, ℕ, Bool, true, false, ◌==◌, ◌&&◌, not, List, [], ◌∷◌, ◌++◌, All, Contains, IfSome, inl, inr, refl, sym, ap, subst, ◌∙◌, take, slice_get, arith, append-nil, append_assoc}
use Rattle.std.proofs.lemmas.Bool.{and_parts, eq-eqb}
use Rattle.std.proofs.lemmas.List.Elements.{All-from_recursion}
use Rattle.std.specs.List.{list_all}
use Rattle.pc_base.specs.declared.actor.ActorId.{ActorId}
use Rattle.pc_base.specs.declared.actor.ActorId.TheVariants as actors
use Rattle.pc_base.specs.declared.entry.Entry.{Entry}
use Rattle.pc_lists.proofs.Lists.{contains_cons, contains_nil}
use Rattle.pc_proto.specs.declared.event.Event.{Event}
use Rattle.pc_proto.specs.declared.event.Event.TheVariants as events
use Rattle.pc_serial.proofs.AloneRunsPlainly.{one_session_runs_plainly}
use Rattle.pc_serial.proofs.AloneStanding.{contains_split}
use Rattle.pc_serial.proofs.StagedRun.{known_before, staged_run}
use Rattle.pc_serial.specs.Alone.{IsAlone, jobs_at}
use Rattle.pc_serial.specs.FirstRow.{first_head}
use Rattle.pc_serial.specs.Laws.{IsTalk, SaysLost}
use Rattle.pc_serial.specs.QuietWire.{EvaluatesOnce, IsEvaluated, stays_open, the_session}
use Rattle.pc_serial.specs.StagedRow.{StagedRowRunsPlainly, staged_history}
use Rattle.pc_serial.specs.Tidy.{IsTidy}
use Rattle.pc_world.specs.After.{known_at}
use Rattle.pc_world.specs.Caused.{Evaluates}

-- ---- each entry at its place

-- Each of the entries is so, after those before it.
abbrev AtEach : (List (Entry Event) → Entry Event → Type 0) → List (Entry Event) → List (Entry Event) → Type 0
AtEach P front [] = Unit {0}
AtEach P front (e ∷ es) = P front e × AtEach P (front ++ e ∷ []) es

at-split : (P : List (Entry Event) → Entry Event → Type 0) (front es : List (Entry Event)) → AtEach P front es
    → (before : List (Entry Event)) (e : Entry Event) (later : List (Entry Event)) → es ≡ before ++ e ∷ later → P (front ++ before) e
at-split P front [] each [] e later split = absurd cc
at-split P front [] each (b ∷ before) e later split = absurd cc
at-split P front (x ∷ es) each [] e later split = let same : x ≡ e = cc in subst (P (front ++ [])) same (subst (λ f. P f x) (sym (append-nil front)) each.0)
at-split P front (x ∷ es) each (b ∷ before) e later split =
    let same : x ≡ b = cc in
    let rest : es ≡ before ++ e ∷ later = cc in
    subst (λ f. P f e) (append_assoc front (b ∷ []) before) (at-split P (front ++ b ∷ []) es (subst (λ y. AtEach P (front ++ y ∷ []) es) same each.1) before e later rest)

-- ---- evaluated once

abbrev same_evaluation : Event → Event → Bool
same_evaluation (events.Eval actor number reply) (events.Eval other at told) = number == at
same_evaluation one other = false

abbrev are_apart : List (Entry Event) → Bool
are_apart [] = true
are_apart (e ∷ es) = list_all (λ other. not (same_evaluation e.event other.event)) es && are_apart es

apart-in : (e : Entry Event) (es : List (Entry Event)) → list_all (λ other. not (same_evaluation e.event other.event)) es ≡ true → (other : Entry Event) → Contains es other → not (same_evaluation e.event other.event) ≡ true
apart-in e [] all other there = absurd (contains_nil other there)
apart-in e (x ∷ es) all other there =
    let parts = and_parts (not (same_evaluation e.event x.event)) (list_all (λ y. not (same_evaluation e.event y.event)) es) all in
    elim (contains_cons x es other there) [
      | inl same ↦ subst (λ (y : Entry Event). not (same_evaluation e.event y.event) ≡ true) same parts.0
      | inr later ↦ apart-in e es parts.1 other later
    ]

both-evaluate : (one other : Event) (actor : ActorId) (number : ℕ) → Evaluates actor number one → Evaluates actor number other → same_evaluation one other ≡ true
both-evaluate (events.Eval sender at reply) (events.Eval sent_by there told) actor number first second = eq-eqb at there (first.1 ∙ sym second.1)
both-evaluate (events.Eval sender at reply) other actor number first second = absurd second
both-evaluate one other actor number first second = absurd first

once : (es : List (Entry Event)) → are_apart es ≡ true → EvaluatesOnce es
once [] apart [] between later e other actor number split first second = cc
once [] apart (b ∷ before) between later e other actor number split first second = cc
once (x ∷ es) apart [] between later e other actor number split first second =
    let same : x ≡ e = cc in
    let rest : es ≡ between ++ other ∷ later = cc in
    let parts = and_parts (list_all (λ y. not (same_evaluation x.event y.event)) es) (are_apart es) apart in
    let differ = apart-in x es parts.0 other (subst (λ l. Contains l other) (sym rest) (contains_split between other later)) in
    let both = both-evaluate x.event other.event actor number (subst (λ (y : Entry Event). Evaluates actor number y.event) (sym same) first) second in
    let no : not true ≡ true = ap not (sym both) ∙ differ in cc no
once (x ∷ es) apart (b ∷ before) between later e other actor number split first second =
    let rest : es ≡ before ++ e ∷ (between ++ other ∷ later) = cc in
    once es (and_parts (list_all (λ y. not (same_evaluation x.event y.event)) es) (are_apart es) apart).1 before between later e other actor number rest first second

-- ---- what is owed at each entry

abbrev SaysLostIn : Event → Type 0
SaysLostIn (events.Tell answer) = SaysLost answer
SaysLostIn event = ⊥

record IsOwed (before : List (Entry Event)) (e : Entry Event) : Type 0 where
  lost : SaysLostIn e.event → ⊥
  in_time : e.actor ≡ the_session → IsTalk e.event → stays_open (known_at first_head the_session before) e.event ≡ false → All (λ m. IsEvaluated m.number before) (known_at first_head the_session before).sent
  tidy : e.actor ≡ the_session → IsTidy (known_at first_head the_session before) (jobs_at first_head before) e.event

abbrev Owed : ℕ → Type 0
Owed n = IfSome (slice_get staged_history n) (IsOwed (take n staged_history))

-- a range owes nothing
of-range : (n : ℕ) (event : Event) → (SaysLostIn event → ⊥) → IsOwed (take n staged_history) (record { step = n; actor = actors.Range 0; event = event })
of-range n event lost = record { lost = lost; in_time = λ me. absurd (cc me); tidy = λ me. absurd (cc me) }

o0 : Owed 0
o0 = record {
  lost = λ h. h;
  in_time = λ me talks ends k d lt. absurd (omega arith);
  tidy = λ me. record { calls = tt; puts = tt; early = tt; aborts = tt; finishes = tt; asks = refl };
}

o1 : Owed 1
o1 = record {
  lost = λ h. h;
  in_time = λ me talks ends k d lt. absurd (omega arith);
  tidy = λ me. record { calls = tt; puts = tt; early = tt; aborts = tt; finishes = tt; asks = tt };
}

o2 : Owed 2
o2 = record {
  lost = λ h. h;
  in_time = λ me talks ends. absurd (cc ends);
  tidy = λ me. record { calls = tt; puts = tt; early = tt; aborts = tt; finishes = tt; asks = refl };
}

o3 : Owed 3
o3 = record {
  lost = λ h. h;
  in_time = λ me talks. absurd talks;
  tidy = λ me. record {
    calls = inl (λ s is. inl (record { s = _; opened = refl; kind = inl refl }));
    puts = inl (record { t = _; opened = refl; whose = refl });
    early = λ t decided. elim decided [ inl known ↦ cc known.1.asked | inr known ↦ cc known.1.asked ];
    aborts = tt;
    finishes = λ none. absurd (cc none);
    asks = tt;
  };
}

o4 : Owed 4
o4 = record {
  lost = λ h. h;
  in_time = λ me talks ends. absurd (cc ends);
  tidy = λ me. record { calls = tt; puts = tt; early = tt; aborts = tt; finishes = tt; asks = tt };
}

o5 : Owed 5
o5 = record {
  lost = λ h. h;
  in_time = λ me talks ends. absurd (cc ends);
  tidy = λ me. record { calls = tt; puts = tt; early = tt; aborts = tt; finishes = tt; asks = refl };
}

o6 : Owed 6
o6 = record {
  lost = λ h. h;
  in_time = λ me talks. absurd talks;
  tidy = λ me. record {
    calls = inr (refl, record { t = _; opened = refl; whose = refl });
    puts = tt;
    early = λ t decided. elim decided [
      | inl known ↦ elim known.1.why [ inl (n, h, inside, at, shows) ↦ absurd (omega (arith, inside)) | inr implied ↦ let (n, h, inside, at, shows) = implied.staging in absurd (omega (arith, inside)) ]
      | inr known ↦ let (n, h, inside, at, shows) = known.1.heard in absurd (omega (arith, inside))
    ];
    aborts = tt;
    finishes = λ none. absurd (cc none);
    asks = tt;
  };
}

o9 : Owed 9
o9 = record {
  lost = λ h. h;
  in_time = λ me talks. absurd talks;
  tidy = λ me. record { calls = tt; puts = tt; early = tt; aborts = tt; finishes = tt; asks = tt };
}

o10 : Owed 10
o10 = record {
  lost = λ h. h;
  in_time = λ me talks. absurd talks;
  tidy = λ me. record { calls = tt; puts = tt; early = tt; aborts = tt; finishes = tt; asks = tt };
}

o11 : Owed 11
o11 = record {
  lost = λ h. h;
  in_time = λ me talks ends.
      All-from_recursion (λ m. IsEvaluated m.number (take 11 staged_history)) (known_before 11).sent
      ((_, (7, omega arith, refl), (refl, refl)), ((_, (8, omega arith, refl), (refl, refl)), tt));
  tidy = λ me. record { calls = tt; puts = tt; early = tt; aborts = tt; finishes = tt; asks = tt };
}

-- a message of the finishing job
o12 : Owed 12
o12 = record {
  lost = λ h. h;
  in_time = λ me talks. absurd talks;
  tidy = λ me. record {
    calls = inl (λ s is. absurd (cc is));
    puts = tt;
    early = λ t decided. elim decided [ inl known ↦ cc known.1.asked | inr known ↦ cc known.1.asked ];
    aborts = tt;
    finishes = λ none. refl;
    asks = tt;
  };
}

o14 : Owed 14
o14 = record {
  lost = λ h. h;
  in_time = λ me talks. absurd talks;
  tidy = λ me. record { calls = tt; puts = tt; early = tt; aborts = tt; finishes = tt; asks = tt };
}

o15 : Owed 15
o15 = record {
  lost = λ h. h;
  in_time = λ me talks. absurd talks;
  tidy = λ me. record {
    calls = inl (λ s is. absurd (cc is));
    puts = tt;
    early = λ t decided. elim decided [ inl known ↦ cc known.1.asked | inr known ↦ cc known.1.asked ];
    aborts = tt;
    finishes = λ none. refl;
    asks = tt;
  };
}

o17 : Owed 17
o17 = record {
  lost = λ h. h;
  in_time = λ me talks. absurd talks;
  tidy = λ me. record { calls = tt; puts = tt; early = tt; aborts = tt; finishes = tt; asks = tt };
}

o18 : Owed 18
o18 = record {
  lost = λ h. h;
  in_time = λ me talks. absurd talks;
  tidy = λ me. record {
    calls = inl (λ s is. absurd (cc is));
    puts = tt;
    early = λ t decided. elim decided [ inl known ↦ cc known.1.asked | inr known ↦ cc known.1.asked ];
    aborts = tt;
    finishes = λ none. refl;
    asks = tt;
  };
}

o20 : Owed 20
o20 = record {
  lost = λ h. h;
  in_time = λ me talks. absurd talks;
  tidy = λ me. record { calls = tt; puts = tt; early = tt; aborts = tt; finishes = tt; asks = tt };
}

owed : AtEach IsOwed [] staged_history
owed =
    (o0, (o1, (o2, (o3, (o4, (o5, (o6, (of-range 7 _ (λ h. h), (of-range 8 _ (λ h. h), (o9, (o10, (o11, (o12, (of-range 13 _ (λ h. h), (o14, (o15, (of-range 16 _ (λ h. h), (o17, (o18, (of-range 19 _ (λ h. h), (o20, tt)))))))))))))))))))))

alone : IsAlone first_head staged_history
alone = record {
  one = refl;
  unaided = refl;
  wire = record {
    once = once staged_history refl;
    in_time = λ before e later split me talks ends. (at-split IsOwed [] staged_history owed before e later split).in_time me talks ends;
    none_lost = λ before e later answer split me tells says. absurd ((at-split IsOwed [] staged_history owed before e later split).lost (subst SaysLostIn (sym tells) says));
  };
  tidy = λ before e later split me. (at-split IsOwed [] staged_history owed before e later split).tidy me;
}

pub staged_row_runs_plainly : StagedRowRunsPlainly
staged_row_runs_plainly = record {
  run = staged_run;
  alone = alone;
  plain = one_session_runs_plainly first_head staged_history staged_run alone;
  not_before = refl;
  staged = refl;
}
