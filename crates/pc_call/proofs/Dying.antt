-- Stages that are late are dead once the record was seen undecided after that.
use Rattle.std.proofs.Common.{◌≡◌, ℕ, ◌≤◌, true, ◌&&◌, List, [], ◌∷◌, Option, None, Some, is_none, refl, ap, ◌∙◌, arith, ◌<◌, inl, inr, All, Any}
use Rattle.std.specs.List.{list_all}
use Rattle.std.proofs.lemmas.Bool.{lt-ltb}
use Rattle.std.proofs.lemmas.List.Elements.{All-cons, All-contains, All-head, All-nil, All-tail}
use Rattle.pc_call.specs.GivingUp.{WasRefutedBefore}
use Rattle.pc_staging.specs.declared.stage_out.StageOut.{StageOut}
use Rattle.pc_lists.proofs.Anywhere.{any_of}
use Rattle.pc_staging.specs.Standing.{AreEvidence, IsFirstStep}
use Rattle.pc_world.specs.Known.Traffic.{Heard}
use Rattle.pc_world.specs.Known.Transactions.{Txn}
use Rattle.pc_world.specs.StageFate.{IsLate, IsLateByRecord, RefutesWrite, SentStage}
use Rattle.pc_staging.specs.Kept.{Evidence, is_dead_by, is_over, is_step_before, later_step, seen_undecided}

-- the last step is no earlier than this one
later_up : (o : Option ℕ) (step : ℕ) → step ≤ later_step o step
later_up None step = omega arith
later_up (Some last) step = omega arith

dead_by : (undecided : Option ℕ) (step : ℕ) (o : StageOut) → WasRefutedBefore step o → is_dead_by (Some (later_step undecided step)) o ≡ true
dead_by undecided step o w =
    ap (λ r. is_step_before r (Some (later_step undecided step))) w.refuted
    ∙ lt-ltb w.first (later_step undecided step) (let up = later_up undecided step in let low = w.before in omega (arith, up, low))

all_dead : (undecided : Option ℕ) (step : ℕ) (os : List StageOut) → All (WasRefutedBefore step) os → list_all (is_dead_by (Some (later_step undecided step))) os ≡ true
all_dead undecided step [] a = refl
all_dead undecided step (o ∷ os) a =
    ap (λ b. b && list_all (is_dead_by (Some (later_step undecided step))) os) (dead_by undecided step o (All-head (WasRefutedBefore step) o os a))
    ∙ all_dead undecided step os (All-tail (WasRefutedBefore step) o os a)

-- ---- what is late was refuted before

-- of what is so, each at an earlier step, the first step is earlier
first_before : (P : Heard → Type 0) (heard : List Heard) (first : Option ℕ) (step : ℕ) → IsFirstStep P heard first → Any P heard → All (λ e. e.step < step) heard → (at : ℕ) × (first ≡ Some at) × (at < step)
first_before P heard None step none some early = let f = any_of (λ h. P h → ⊥) P heard none some in absurd (f.1 f.2)
first_before P heard (Some at) step there some early =
    let one = there.0 in
    let is : one.1.step ≡ at = one.4.1 in
    let low : one.1.step < step = All-contains (λ (e : Heard). e.step < step) heard one.1 early (one.0, one.2, one.3) in
    (at, refl, omega (arith, is, low))

-- a stage that is kept is late by a write
by_write : (heard : List Heard) (s : SentStage) → IsLate heard s → (IsLateByRecord heard s → ⊥) → Any (RefutesWrite s) heard
by_write heard s (n, h, inside, at, refutes) not_past = elim refutes [ inl write ↦ (n, h, inside, at, write) | inr record_past ↦ absurd (not_past (n, h, inside, at, record_past)) ]

-- so where each was heard to be refuted before this step, it is kept so
pub refuted_before : (heard : List Heard) (t : Txn) (step : ℕ) → All (λ e. e.step < step) heard → (stages : List SentStage) (os : List StageOut) → AreEvidence heard t stages os → All (IsLate heard) stages → All (WasRefutedBefore step) os
refuted_before heard t step early [] [] kept late = All-nil (WasRefutedBefore step)
refuted_before heard t step early [] (o ∷ os) kept late = absurd kept
refuted_before heard t step early (s ∷ stages) [] kept late = absurd kept
refuted_before heard t step early (s ∷ stages) (o ∷ os) kept late =
    let f = first_before (RefutesWrite s) heard o.refuted step kept.0.first_refuted (by_write heard s (All-head (IsLate heard) s stages late) kept.0.not_past) early in
    All-cons (WasRefutedBefore step) o os (record { first = f.0; refuted = f.1; before = f.2 }) (refuted_before heard t step early stages os kept.1 (All-tail (IsLate heard) s stages late))

-- where no commit is out, the transaction is over with its stages once its record was seen undecided after each was refuted
pub over_beaten : (e : Evidence) (step : ℕ) → e.commit ≡ None → All (WasRefutedBefore step) e.stages → is_over (seen_undecided step e) ≡ true
over_beaten e step none late = ap (λ o. is_none o && list_all (is_dead_by (Some (later_step e.undecided step))) e.stages) none ∙ all_dead e.undecided step e.stages late
