-- The verdict that is told is the only right one, so it is told exactly where it is right.
use Rattle.std.proofs.Common.{◌≡◌, ◌↔◌, ℕ, List, Option, None, Some, IfSome, refl, subst}
use Rattle.pc_check.specs.declared.rule.Rule.{Rule}
use Rattle.pc_program.specs.Causes.{HasBegunWriting, IfRead, IsOfCheck}
use Rattle.pc_program.specs.ModeCheck.{verdict_told}
use Rattle.pc_program.specs.declared.status.Status.{Status}
use Rattle.pc_program.specs.declared.status.Status.TheVariants as statuses
use Rattle.pc_verdict.proofs.Unique.{one_verdict_is_right}
use Rattle.pc_verdict.specs.declared.verdict.Verdict.{Verdict}
use Rattle.pc_verdict.specs.declared.verdict.Verdict.TheVariants as verdicts
use Rattle.pc_verdict.specs.Verdicts.{IsVerdictOf}

begun_writing : (status : Status) (told : Verdict) → verdict_told status ≡ Some told → HasBegunWriting status ↔ (told ≡ verdicts.Run)
begun_writing statuses.Done told is = (λ begun. cc, λ e. tt)
begun_writing (statuses.NotRun line rule) told is = (λ begun. absurd begun, λ e. cc)
begun_writing statuses.Usage told is = (λ begun. absurd begun, λ e. cc)
begun_writing statuses.ReadFault told is = (λ begun. absurd begun, λ e. cc)
begun_writing (statuses.WriteFault written) told is = (λ begun. cc, λ e. tt)
begun_writing (statuses.Workload number) told is = (λ begun. absurd begun, λ e. cc)
begun_writing (statuses.Journal line) told is = (λ begun. absurd begun, λ e. cc)
begun_writing (statuses.TooLong bytes) told is = (λ begun. absurd begun, λ e. cc)
begun_writing statuses.NoMemory told is = (λ begun. absurd begun, λ e. cc)

told_no_run : (status : Status) (told : Verdict) (line : ℕ) (rule : Rule) → verdict_told status ≡ Some told → (status ≡ statuses.NotRun line rule) ↔ (told ≡ verdicts.NotRun line rule)
told_no_run statuses.Done told line rule is = (λ e. cc, λ e. cc)
told_no_run (statuses.NotRun at broken) told line rule is = (λ e. cc, λ e. cc)
told_no_run statuses.Usage told line rule is = (λ e. cc, λ e. cc)
told_no_run statuses.ReadFault told line rule is = (λ e. cc, λ e. cc)
told_no_run (statuses.WriteFault written) told line rule is = (λ e. cc, λ e. cc)
told_no_run (statuses.Workload number) told line rule is = (λ e. cc, λ e. cc)
told_no_run (statuses.Journal at) told line rule is = (λ e. cc, λ e. cc)
told_no_run (statuses.TooLong bytes) told line rule is = (λ e. cc, λ e. cc)
told_no_run statuses.NoMemory told line rule is = (λ e. cc, λ e. cc)

told_malformed : (status : Status) (told : Verdict) (line : ℕ) → verdict_told status ≡ Some told → (status ≡ statuses.Journal line) ↔ (told ≡ verdicts.Malformed line)
told_malformed statuses.Done told line is = (λ e. cc, λ e. cc)
told_malformed (statuses.NotRun at broken) told line is = (λ e. cc, λ e. cc)
told_malformed statuses.Usage told line is = (λ e. cc, λ e. cc)
told_malformed statuses.ReadFault told line is = (λ e. cc, λ e. cc)
told_malformed (statuses.WriteFault written) told line is = (λ e. cc, λ e. cc)
told_malformed (statuses.Workload number) told line is = (λ e. cc, λ e. cc)
told_malformed (statuses.Journal at) told line is = (λ e. cc, λ e. cc)
told_malformed (statuses.TooLong bytes) told line is = (λ e. cc, λ e. cc)
told_malformed statuses.NoMemory told line is = (λ e. cc, λ e. cc)

of_right : (left : Option (List ℕ)) (verdict : Verdict) (P : List ℕ → Type 0) → IfSome left (λ bytes. IsVerdictOf bytes verdict) → ((bytes : List ℕ) → IsVerdictOf bytes verdict → P bytes) → IfSome left P
of_right None verdict P right f = tt
of_right (Some bytes) verdict P right f = f bytes right

-- What holds of all bytes of which the verdict that is told is right.
module _ (left : Option (List ℕ)) (P : List ℕ → Type 0) where
  of_told : (status : Status) → IsOfCheck status → IfSome left (λ bytes. IfSome (verdict_told status) (IsVerdictOf bytes))
      → ((bytes : List ℕ) (told : Verdict) → verdict_told status ≡ Some told → IsVerdictOf bytes told → P bytes) → IfRead status (IfSome left P)
  of_told statuses.Done kind right f = of_right left verdicts.Run P right (λ bytes r. f bytes verdicts.Run refl r)
  of_told (statuses.NotRun line rule) kind right f = of_right left (verdicts.NotRun line rule) P right (λ bytes r. f bytes (verdicts.NotRun line rule) refl r)
  of_told statuses.Usage kind right f = tt
  of_told statuses.ReadFault kind right f = tt
  of_told (statuses.WriteFault written) kind right f = of_right left verdicts.Run P right (λ bytes r. f bytes verdicts.Run refl r)
  of_told (statuses.Workload number) kind right f = absurd kind
  of_told (statuses.Journal line) kind right f = of_right left (verdicts.Malformed line) P right (λ bytes r. f bytes (verdicts.Malformed line) refl r)
  of_told (statuses.TooLong bytes) kind right f = tt
  of_told statuses.NoMemory kind right f = tt

-- A fact that says that this verdict is told holds exactly where the verdict is right.
exactly : (Told : Type 0) (bytes : List ℕ) (told verdict : Verdict) → Told ↔ (told ≡ verdict) → IsVerdictOf bytes told → Told ↔ IsVerdictOf bytes verdict
exactly Told bytes told verdict same right =
    (λ t. subst (IsVerdictOf bytes) (same.0 t) right, λ other. same.1 (one_verdict_is_right bytes told verdict right other))

module _ (status : Status) (left : Option (List ℕ)) (kind : IsOfCheck status) (right : IfSome left (λ bytes. IfSome (verdict_told status) (IsVerdictOf bytes))) where
  pub run_exactly : IfRead status (IfSome left (λ bytes. HasBegunWriting status ↔ IsVerdictOf bytes verdicts.Run))
  run_exactly = of_told left (λ bytes. HasBegunWriting status ↔ IsVerdictOf bytes verdicts.Run) status kind right
      (λ bytes told is r. exactly (HasBegunWriting status) bytes told verdicts.Run (begun_writing status told is) r)

  pub no_run_exactly : IfRead status (IfSome left (λ bytes. (line : ℕ) (rule : Rule) → (status ≡ statuses.NotRun line rule) ↔ IsVerdictOf bytes (verdicts.NotRun line rule)))
  no_run_exactly = of_told left (λ bytes. (line : ℕ) (rule : Rule) → (status ≡ statuses.NotRun line rule) ↔ IsVerdictOf bytes (verdicts.NotRun line rule)) status kind right
      (λ bytes told is r line rule. exactly (status ≡ statuses.NotRun line rule) bytes told (verdicts.NotRun line rule) (told_no_run status told line rule is) r)

  pub malformed_exactly : IfRead status (IfSome left (λ bytes. (line : ℕ) → (status ≡ statuses.Journal line) ↔ IsVerdictOf bytes (verdicts.Malformed line)))
  malformed_exactly = of_told left (λ bytes. (line : ℕ) → (status ≡ statuses.Journal line) ↔ IsVerdictOf bytes (verdicts.Malformed line)) status kind right
      (λ bytes told is r line. exactly (status ≡ statuses.Journal line) bytes told (verdicts.Malformed line) (told_malformed status told line is) r)
