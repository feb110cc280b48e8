-- What is kept of stages, stage by stage.
use Rattle.std.proofs.Common.{◌≡◌, ℕ, ◌<◌, Bool, true, false, ◌&&◌, ◌||◌, ◌==◌, not, cond, ◌⊎◌, inl, inr, Option, List, [], ◌∷◌, ◌++◌, map, filter, refl, sym, ap, ◌∙◌, subst, All, Any, Contains, IsTrue}
use Rattle.std.specs.List.{list_all, list_any}
use Rattle.std.proofs.lemmas.Bool.{eq-eqb, eqb-true}
use Rattle.std.proofs.lemmas.List.Elements.{All-cons, All-head, All-nil, All-tail}
use Rattle.pc_base.specs.declared.transaction.TxnId.{TxnId}
use Rattle.pc_lists.proofs.Anywhere.{any_of, any_weaker}
use Rattle.pc_lists.proofs.Lists.{contains_cons, contains_head, contains_nil, contains_tail}
use Rattle.pc_staging.proofs.Fates.{none_more}
use Rattle.pc_staging.proofs.Steps.{before_is, first_is, first_some, IsThenSeen, then_seen}
use Rattle.pc_staging.specs.declared.stage_out.StageOut.{StageOut}
use Rattle.pc_staging.specs.Kept.{is_dead_by, is_refuted, stages_elsewhere}
use Rattle.pc_staging.specs.Laws.{ProvesOn}
use Rattle.pc_staging.specs.Standing.{AreEvidence, IsEvidenceOf, IsFirstStep, IsLastStep, AreRefutedBelow}
use Rattle.pc_world.specs.Known.Traffic.{Heard}
use Rattle.pc_world.specs.Known.Transactions.{Txn}
use Rattle.pc_world.specs.StageFate.{IsDead, IsDeadByWrite, IsLate, IsLateByRecord, IsUnsettledAfter, RefutesRecord, RefutesWrite, SentStage}
use Rattle.pc_world.specs.Views.{shows_undecided}

-- ---- what is kept of one stage

-- it stays evidence, where more was heard
pub evidence_step : (heard more : List Heard) (t now : Txn) (s : SentStage) (o o2 : StageOut) → IsEvidenceOf heard t s o → now.id ≡ t.id → now.epoch ≡ t.epoch → ProvesOn t.writes now.writes → o2.ts ≡ o.ts
    → IsFirstStep (RefutesWrite s) (heard ++ more) o2.refuted → All (λ h. RefutesRecord s h → ⊥) more → IsEvidenceOf (heard ++ more) now s o2
evidence_step heard more t now s o o2 e same epoch proves at first none = record {
  whose = e.whose ∙ sym same;
  epoch_now = e.epoch_now ∙ sym epoch;
  lists = λ key seq unproved. e.lists key seq (proves key seq unproved);
  at = at ∙ e.at;
  first_refuted = first;
  not_past = none_more (RefutesRecord s) heard more e.not_past none;
}

-- it is refuted by a write exactly where it is late
refuted_of : (heard : List Heard) (s : SentStage) → (IsLateByRecord heard s → ⊥) → IsLate heard s → Any (RefutesWrite s) heard
refuted_of heard s none (k, h, there, is, why) =
    elim why [ inl refuted ↦ (k, h, there, is, refuted) | inr past ↦ absurd (none (k, h, there, is, past)) ]

pub refuted_late : (heard : List Heard) (t : Txn) (s : SentStage) (o : StageOut) → IsEvidenceOf heard t s o → is_refuted o ≡ true → Any (RefutesWrite s) heard
refuted_late heard t s o e is = first_some (RefutesWrite s) o.refuted heard e.first_refuted is

pub late_refuted : (heard : List Heard) (t : Txn) (s : SentStage) (o : StageOut) → IsEvidenceOf heard t s o → IsLate heard s → is_refuted o ≡ true
late_refuted heard t s o e late = first_is (RefutesWrite s) o.refuted heard e.first_refuted (refuted_of heard s e.not_past late)

pub write_late : (heard : List Heard) (s : SentStage) → Any (RefutesWrite s) heard → IsLate heard s
write_late heard s some = any_weaker (RefutesWrite s) (λ h. RefutesWrite s h ⊎ RefutesRecord s h) (λ h r. inl r) heard some

-- what refutes it lies above it
pub refuted_below : (heard : List Heard) (t : Txn) (s : SentStage) → s.meta.id ≡ t.id → All (AreRefutedBelow t.id t.write_ts) heard → Any (RefutesWrite s) heard → s.ts < t.write_ts
refuted_below heard t s whose reached some =
    let one = any_of (AreRefutedBelow t.id t.write_ts) (RefutesWrite s) heard reached some in
    one.1 s whose one.2.refuted

-- The transaction was seen undecided.
abbrev pub ShowsOpen : TxnId → Heard → Type 0
ShowsOpen id h = IsTrue (shows_undecided id h.request h.reply)

pub dead_kept : (heard : List Heard) (t : Txn) (s : SentStage) (o : StageOut) (undecided : Option ℕ) → IsEvidenceOf heard t s o → IsLastStep (ShowsOpen t.id) heard undecided → is_dead_by undecided o ≡ true → IsDead heard s
dead_kept heard t s o undecided e last is =
    inr (any_weaker (IsThenSeen (RefutesWrite s) (ShowsOpen t.id) heard) (IsDeadByWrite heard s)
    (λ h d. record {
      refuted = d.0;
      undecided = any_weaker (λ later. (h.step < later.step) × ShowsOpen t.id later) (IsUnsettledAfter s h)
          (λ later q. record { after = q.0; unsettled = subst (λ i. ShowsOpen i later) (sym e.whose) q.1 })
          heard d.1;
    })
    heard (then_seen (RefutesWrite s) (ShowsOpen t.id) heard o.refuted undecided e.first_refuted last is))

pub kept_dead : (heard : List Heard) (t : Txn) (s : SentStage) (o : StageOut) (undecided : Option ℕ) → IsEvidenceOf heard t s o → IsLastStep (ShowsOpen t.id) heard undecided → IsDead heard s → is_dead_by undecided o ≡ true
kept_dead heard t s o undecided e last (inl past) = absurd (e.not_past past)
kept_dead heard t s o undecided e last (inr (k, h, there, is, dead)) =
    let (n, seen, inside, at, after) = dead.undecided in
    before_is (RefutesWrite s) (ShowsOpen t.id) heard o.refuted undecided h seen e.first_refuted last (k, there, is) dead.refuted (n, inside, at)
    (subst (λ i. ShowsOpen i seen) e.whose after.unsettled) after.after

-- ---- what is kept of all

pub evidence_on : (heard more : List Heard) (t now : Txn) (f : StageOut → StageOut) (ss : List SentStage) (os : List StageOut) → ((s : SentStage) (o : StageOut) → Contains ss s → IsEvidenceOf heard t s o → IsEvidenceOf (heard ++ more) now s (f o))
    → AreEvidence heard t ss os → AreEvidence (heard ++ more) now ss (map f os)
evidence_on heard more t now f [] [] on e = tt
evidence_on heard more t now f [] (o ∷ os) on e = absurd e
evidence_on heard more t now f (s ∷ ss) [] on e = absurd e
evidence_on heard more t now f (s ∷ ss) (o ∷ os) on e =
    (on s o (contains_head s ss) e.0, evidence_on heard more t now f ss os (λ x y there. on x y (contains_tail s ss x there)) e.1)

pub map_same : (os : List StageOut) → map (λ o. o) os ≡ os
map_same [] = refl
map_same (o ∷ os) = ap (λ l. o ∷ l) (map_same os)

pub evidence_push : (heard : List Heard) (t : Txn) (ss : List SentStage) (os : List StageOut) (s : SentStage) (o : StageOut) → AreEvidence heard t ss os → IsEvidenceOf heard t s o → AreEvidence heard t (ss ++ s ∷ []) (os ++ o ∷ [])
evidence_push heard t [] [] s o e one = (one, tt)
evidence_push heard t [] (p ∷ os) s o e one = absurd e
evidence_push heard t (x ∷ ss) [] s o e one = absurd e
evidence_push heard t (x ∷ ss) (p ∷ os) s o e one = (e.0, evidence_push heard t ss os s o e.1 one)

module _ (heard : List Heard) (t : Txn) (ts : ℕ) where
  keep_if : (a b : Bool) (s : SentStage) (o : StageOut) (ss : List SentStage) (os : List StageOut) → a ≡ b → IsEvidenceOf heard t s o → AreEvidence heard t ss os → AreEvidence heard t (cond (not a) (s ∷ ss) ss) (cond (not b) (o ∷ os) os)
  keep_if true true s o ss os e one rest = rest
  keep_if false false s o ss os e one rest = (one, rest)
  keep_if true false s o ss os e one rest = absurd cc
  keep_if false true s o ss os e one rest = absurd cc

  pub evidence_elsewhere : (ss : List SentStage) (os : List StageOut) → AreEvidence heard t ss os → AreEvidence heard t (filter (λ s. not (s.ts == ts)) ss) (stages_elsewhere ts os)
  evidence_elsewhere [] [] e = tt
  evidence_elsewhere [] (o ∷ os) e = absurd e
  evidence_elsewhere (s ∷ ss) [] e = absurd e
  evidence_elsewhere (s ∷ ss) (o ∷ os) e =
      keep_if (s.ts == ts) (o.ts == ts) s o (filter (λ s. not (s.ts == ts)) ss) (stages_elsewhere ts os) (ap (λ n. n == ts) (sym e.0.at)) e.0 (evidence_elsewhere ss os e.1)

pub both_true : (a b : Bool) → (a && b) ≡ true → (a ≡ true) × (b ≡ true)
both_true true b e = (refl, e)
both_true false b e = absurd cc

module _ (heard : List Heard) (t : Txn) where
  -- each is late, and below the write timestamp
  pub all_late : All (AreRefutedBelow t.id t.write_ts) heard → (ss : List SentStage) (os : List StageOut) → AreEvidence heard t ss os → list_all is_refuted os ≡ true → All (λ s. IsLate heard s × (s.ts < t.write_ts)) ss
  all_late reached [] [] e is = All-nil (λ s. IsLate heard s × (s.ts < t.write_ts))
  all_late reached [] (o ∷ os) e is = absurd e
  all_late reached (s ∷ ss) [] e is = absurd e
  all_late reached (s ∷ ss) (o ∷ os) e is =
      let parts = both_true (is_refuted o) (list_all is_refuted os) is in
      let some = refuted_late heard t s o e.0 parts.0 in
      All-cons (λ s. IsLate heard s × (s.ts < t.write_ts)) s ss (write_late heard s some, refuted_below heard t s e.0.whose reached some) (all_late reached ss os e.1 parts.1)

  pub late_all : (ss : List SentStage) (os : List StageOut) → AreEvidence heard t ss os → All (IsLate heard) ss → list_all is_refuted os ≡ true
  late_all [] [] e a = refl
  late_all [] (o ∷ os) e a = absurd e
  late_all (s ∷ ss) [] e a = absurd e
  late_all (s ∷ ss) (o ∷ os) e a =
      ap (λ b. b && list_all is_refuted os) (late_refuted heard t s o e.0 (All-head (IsLate heard) s ss a)) ∙ late_all ss os e.1 (All-tail (IsLate heard) s ss a)

  module _ (undecided : Option ℕ) (last : IsLastStep (ShowsOpen t.id) heard undecided) where
    pub all_dead : (ss : List SentStage) (os : List StageOut) → AreEvidence heard t ss os → list_all (is_dead_by undecided) os ≡ true → All (IsDead heard) ss
    all_dead [] [] e is = All-nil (IsDead heard)
    all_dead [] (o ∷ os) e is = absurd e
    all_dead (s ∷ ss) [] e is = absurd e
    all_dead (s ∷ ss) (o ∷ os) e is =
        let parts = both_true (is_dead_by undecided o) (list_all (is_dead_by undecided) os) is in
        All-cons (IsDead heard) s ss (dead_kept heard t s o undecided e.0 last parts.0) (all_dead ss os e.1 parts.1)

    pub dead_all : (ss : List SentStage) (os : List StageOut) → AreEvidence heard t ss os → All (IsDead heard) ss → list_all (is_dead_by undecided) os ≡ true
    dead_all [] [] e a = refl
    dead_all [] (o ∷ os) e a = absurd e
    dead_all (s ∷ ss) [] e a = absurd e
    dead_all (s ∷ ss) (o ∷ os) e a =
        ap (λ b. b && list_all (is_dead_by undecided) os) (kept_dead heard t s o undecided e.0 last (All-head (IsDead heard) s ss a)) ∙ dead_all ss os e.1 (All-tail (IsDead heard) s ss a)

    -- where not all are dead, one is not
    pub one_alive : (ss : List SentStage) (os : List StageOut) → AreEvidence heard t ss os → list_all (is_dead_by undecided) os ≡ false → (s : SentStage) × Contains ss s × (IsDead heard s → ⊥)
    one_alive [] [] e is = absurd cc
    one_alive [] (o ∷ os) e is = absurd e
    one_alive (s ∷ ss) [] e is = absurd e
    one_alive (s ∷ ss) (o ∷ os) e is = by (is_dead_by undecided o) refl (λ later. one_alive ss os e.1 later)
      where
        by : (b : Bool) → is_dead_by undecided o ≡ b → (list_all (is_dead_by undecided) os ≡ false → (x : SentStage) × Contains ss x × (IsDead heard x → ⊥)) → (x : SentStage) × Contains (s ∷ ss) x × (IsDead heard x → ⊥)
        by true dead on =
            let found = on (sym (ap (λ b. b && list_all (is_dead_by undecided) os) dead) ∙ is) in
            (found.0, contains_tail s ss found.0 found.1, found.2)
        by false alive on = (s, contains_head s ss, λ dead. let so : is_dead_by undecided o ≡ true = kept_dead heard t s o undecided e.0 last dead in absurd cc)

  -- one at the timestamp is not late
  pub one_live : (ts : ℕ) (ss : List SentStage) (os : List StageOut) → AreEvidence heard t ss os → list_any (λ o. o.ts == ts && not (is_refuted o)) os ≡ true → (s : SentStage) × Contains ss s × (s.ts ≡ ts) × (IsLate heard s → ⊥)
  one_live ts [] [] e is = absurd cc
  one_live ts [] (o ∷ os) e is = absurd e
  one_live ts (s ∷ ss) [] e is = absurd e
  one_live ts (s ∷ ss) (o ∷ os) e is = by (o.ts == ts && not (is_refuted o)) refl (λ later. one_live ts ss os e.1 later)
    where
      by : (b : Bool) → (o.ts == ts && not (is_refuted o)) ≡ b → (list_any (λ o. o.ts == ts && not (is_refuted o)) os ≡ true → (x : SentStage) × Contains ss x × (x.ts ≡ ts) × (IsLate heard x → ⊥))
          → (x : SentStage) × Contains (s ∷ ss) x × (x.ts ≡ ts) × (IsLate heard x → ⊥)
      by true here on =
          let parts = both_true (o.ts == ts) (not (is_refuted o)) here in
          let unrefuted : not (is_refuted o) ≡ true = parts.1 in
          (s, contains_head s ss, sym e.0.at ∙ eqb-true o.ts ts parts.0, λ late. let so : is_refuted o ≡ true = late_refuted heard t s o e.0 late in absurd cc)
      by false other on =
          let found = on (sym (ap (λ b. b || list_any (λ o. o.ts == ts && not (is_refuted o)) os) other) ∙ is) in
          (found.0, contains_tail s ss found.0 found.1, found.2, found.3)

  -- where a stage at the timestamp is not late, one is kept so
  pub live_one : (ts : ℕ) (ss : List SentStage) (os : List StageOut) → AreEvidence heard t ss os → (s : SentStage) → Contains ss s → s.ts ≡ ts → (IsLate heard s → ⊥) → list_any (λ o. o.ts == ts && not (is_refuted o)) os ≡ true
  live_one ts [] os e s there at unlate = absurd (contains_nil s there)
  live_one ts (x ∷ ss) [] e s there at unlate = absurd e
  live_one ts (x ∷ ss) (o ∷ os) e s there at unlate =
      elim (contains_cons x ss s there) [
        | inl here ↦ ap (λ b. b || list_any (λ o. o.ts == ts && not (is_refuted o)) os) (own o e.0 here)
        | inr later ↦ either (o.ts == ts && not (is_refuted o)) (list_any (λ o. o.ts == ts && not (is_refuted o)) os) (live_one ts ss os e.1 s later at unlate)
      ]
    where
      either : (a b : Bool) → b ≡ true → (a || b) ≡ true
      either true b is = refl
      either false b is = is

      own : (o : StageOut) → IsEvidenceOf heard t x o → x ≡ s → (o.ts == ts && not (is_refuted o)) ≡ true
      own o one here = by (is_refuted o) refl
        where
          by : (b : Bool) → is_refuted o ≡ b → (o.ts == ts && not (is_refuted o)) ≡ true
          by true is = absurd (unlate (subst (IsLate heard) here (write_late heard x (refuted_late heard t x o one is))))
          by false is = ap (λ b. b && not (is_refuted o)) (eq-eqb o.ts ts (one.at ∙ ap (λ y. y.ts) here ∙ at)) ∙ ap not is

  -- a stage that is kept and late is below the write timestamp
  pub late_below : All (AreRefutedBelow t.id t.write_ts) heard → (ss : List SentStage) (os : List StageOut) → AreEvidence heard t ss os → (s : SentStage) → Contains ss s → IsLate heard s → s.ts < t.write_ts
  late_below reached [] os e s there late = absurd (contains_nil s there)
  late_below reached (x ∷ ss) [] e s there late = absurd e
  late_below reached (x ∷ ss) (o ∷ os) e s there late =
      elim (contains_cons x ss s there) [
        | inl here ↦
            subst (λ y. y.ts < t.write_ts) here
            (refuted_below heard t x e.0.whose reached (refuted_of heard x e.0.not_past (subst (IsLate heard) (sym here) late)))
        | inr later ↦ late_below reached ss os e.1 s later late
      ]
