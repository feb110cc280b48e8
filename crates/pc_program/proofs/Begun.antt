-- What the bytes decide where a workload was read of them, and its output made.
use Rattle.std.proofs.Common.{◌≡◌, ◌⊎◌, ◌↔◌, inl, inr, ℕ, List, Result, Err, IsErrOf, IsSome, ap, subst}
use Rattle.pc_program.specs.declared.status.Status.{Status}
use Rattle.pc_program.specs.declared.status.Status.TheVariants as statuses
use Rattle.pc_program.specs.Causes.{HasBegunWriting, IfRead}
use Rattle.pc_work.specs.Workload.{IsJson, IsNumberOf, accepted_in}
use Rattle.pc_work.specs.declared.fault.WorkFault.{WorkFault}
use Rattle.pc_work.specs.declared.fault.WorkFault.TheVariants as faults
use Rattle.pc_work.specs.declared.workload.Workload.{Workload}

-- A status that ends the making of an output comes from what was read only where its writing began.
begun : (status : Status) (P : Type 0) → (status ≡ statuses.NoMemory) ⊎ HasBegunWriting status → (HasBegunWriting status → P) → IfRead status P
begun statuses.Done P kind from = from tt
begun (statuses.NotRun line rule) P kind from = elim kind [ inl no_memory ↦ cc | inr other ↦ absurd other ]
begun statuses.Usage P kind from = tt
begun statuses.ReadFault P kind from = tt
begun (statuses.WriteFault written) P kind from = from tt
begun (statuses.Workload number) P kind from = elim kind [ inl no_memory ↦ cc | inr other ↦ absurd other ]
begun (statuses.Journal line) P kind from = elim kind [ inl no_memory ↦ cc | inr other ↦ absurd other ]
begun (statuses.TooLong count) P kind from = tt
begun statuses.NoMemory P kind from = tt

module _ (bytes : List ℕ) (read : IsJson bytes × IsSome (accepted_in bytes)) (status : Status) (kind : (status ≡ statuses.NoMemory) ⊎ HasBegunWriting status) where
  pub begun_no_json : IfRead status ((status ≡ statuses.Workload 1) ↔ ¬ (IsJson bytes))
  begun_no_json = begun status _ kind (λ writing. (λ told. absurd (subst HasBegunWriting told writing), λ none. absurd (none read.0)))

  pub begun_refused : (number : ℕ) → ¬ (IsNumberOf bytes number) → IfRead status ((status ≡ statuses.Workload number) ↔ IsNumberOf bytes number)
  begun_refused number not = begun status _ kind (λ writing. (λ told. absurd (subst HasBegunWriting told writing), λ refused. absurd (not refused)))

  pub begun_accepted : IfRead status (HasBegunWriting status ↔ (IsJson bytes × IsSome (accepted_in bytes)))
  begun_accepted = begun status _ kind (λ writing. (λ _. read, λ _. writing))

-- The answer of a reading that is refused with this number.
abbrev pub refused_with : ℕ → Result Workload WorkFault
refused_with number = Err (faults.Refused number)

-- A status has the number of the refusal that it tells.
pub refused_as : (bytes : List ℕ) (number other : ℕ) → (IsErrOf (refused_with number) (faults.Refused other) ↔ IsNumberOf bytes other) → (statuses.Workload number ≡ statuses.Workload other) ↔ IsNumberOf bytes other
refused_as bytes number other told = (
  λ e. told.0 (let same : number ≡ other = cc in ap refused_with same),
  λ refused. ap statuses.Workload (same_number number other (told.1 refused)),
)
  where
    same_number : (number other : ℕ) → refused_with number ≡ refused_with other → number ≡ other
    same_number number other e = cc
