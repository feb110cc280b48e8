-- From what is said of the bytes that were read to what is said of those that the source had.
use Rattle.std.proofs.Common.{◌≡◌, ℕ, Bool, List, Option, None, Some, IfSome, subst, ◌↔◌}
use Rattle.pc_base.specs.declared.actor.ActorId.{ActorId}
use Rattle.pc_io.specs.Reading.{IsAllOf}
use Rattle.pc_program.specs.declared.status.Status.{Status}
use Rattle.pc_program.specs.declared.status.Status.TheVariants as statuses
use Rattle.pc_program.specs.Causes.{HasWritten, HasWrittenOf, IfDone, IfRead, IfWriteFault, IsFront, IsWhole}
use Rattle.pc_work.specs.declared.workload.Workload.{Workload}
use Rattle.pc_work.specs.Workload.{accepted_in}

of_all : (left : Option (List ℕ)) (bytes : List ℕ) (P : List ℕ → Type 0) → IsAllOf left bytes → P bytes → IfSome left P
of_all None bytes P all p = tt
of_all (Some there) bytes P all p = subst P all p

-- A fact about the bytes that were read, where they were read.
pub carried : (status : Status) (left : Option (List ℕ)) (bytes : List ℕ) (P : List ℕ → Type 0) → IsAllOf left bytes → IfRead status (P bytes) → IfRead status (IfSome left P)
carried statuses.Done left bytes P all p = of_all left bytes P all p
carried (statuses.NotRun line rule) left bytes P all p = of_all left bytes P all p
carried statuses.Usage left bytes P all p = tt
carried statuses.ReadFault left bytes P all p = tt
carried (statuses.WriteFault written) left bytes P all p = of_all left bytes P all p
carried (statuses.Workload number) left bytes P all p = of_all left bytes P all p
carried (statuses.Journal line) left bytes P all p = of_all left bytes P all p
carried (statuses.TooLong count) left bytes P all p = tt
carried statuses.NoMemory left bytes P all p = tt

-- Where neither of two says that the input was too long, what is known of the one holds of the other.
pub neither_long : (left : Option (List ℕ)) (Takes : List ℕ → Type 0) (Long Told : Type 0) → IfSome left (λ there. Long ↔ Takes there) → ¬ Long → ¬ Told → IfSome left (λ there. Told ↔ Takes there)
neither_long None Takes Long Told cause short untold = tt
neither_long (Some there) Takes Long Told cause short untold = (λ told. absurd (untold told), λ taken. absurd (short (cause.1 taken)))

module _ (rules : ActorId → ℕ → ℕ → Bool) (old new : Option (List ℕ)) where
  -- What was written of this workload was written of the one that the bytes state.
  module _ (bytes : List ℕ) (work : Workload) (stated : accepted_in bytes ≡ Some work) where
    of_bytes : (Is : List ℕ → List ℕ → Type 0) → HasWrittenOf work rules old new Is → HasWritten rules (Some bytes) old new Is
    of_bytes Is h = record { work = work; stated = stated; appended = h }

    pub done_of : (status : Status) → IfDone status (HasWrittenOf work rules old new IsWhole) → IfDone status (HasWritten rules (Some bytes) old new IsWhole)
    done_of statuses.Done h = of_bytes IsWhole h
    done_of (statuses.NotRun line rule) h = tt
    done_of statuses.Usage h = tt
    done_of statuses.ReadFault h = tt
    done_of (statuses.WriteFault written) h = tt
    done_of (statuses.Workload number) h = tt
    done_of (statuses.Journal line) h = tt
    done_of (statuses.TooLong count) h = tt
    done_of statuses.NoMemory h = tt

    pub part_of : (status : Status) → IfWriteFault status (λ written. HasWrittenOf work rules old new (IsFront written)) → IfWriteFault status (λ written. HasWritten rules (Some bytes) old new (IsFront written))
    part_of statuses.Done h = tt
    part_of (statuses.NotRun line rule) h = tt
    part_of statuses.Usage h = tt
    part_of statuses.ReadFault h = tt
    part_of (statuses.WriteFault written) h = of_bytes (IsFront written) h
    part_of (statuses.Workload number) h = tt
    part_of (statuses.Journal line) h = tt
    part_of (statuses.TooLong count) h = tt
    part_of statuses.NoMemory h = tt

  -- And so it was of the one that the source's bytes state, where the bytes are all of them.
  module _ (left : Option (List ℕ)) (bytes : List ℕ) (all : IsAllOf left bytes) where
    of_left : (Is : List ℕ → List ℕ → Type 0) → HasWritten rules (Some bytes) old new Is → HasWritten rules left old new Is
    of_left Is h = record { work = h.work; stated = of_all left bytes (λ there. accepted_in there ≡ Some h.work) all h.stated; appended = h.appended }

    pub done_carried : (status : Status) → IfDone status (HasWritten rules (Some bytes) old new IsWhole) → IfDone status (HasWritten rules left old new IsWhole)
    done_carried statuses.Done h = of_left IsWhole h
    done_carried (statuses.NotRun line rule) h = tt
    done_carried statuses.Usage h = tt
    done_carried statuses.ReadFault h = tt
    done_carried (statuses.WriteFault written) h = tt
    done_carried (statuses.Workload number) h = tt
    done_carried (statuses.Journal line) h = tt
    done_carried (statuses.TooLong count) h = tt
    done_carried statuses.NoMemory h = tt

    pub part_carried : (status : Status) → IfWriteFault status (λ written. HasWritten rules (Some bytes) old new (IsFront written)) → IfWriteFault status (λ written. HasWritten rules left old new (IsFront written))
    part_carried statuses.Done h = tt
    part_carried (statuses.NotRun line rule) h = tt
    part_carried statuses.Usage h = tt
    part_carried statuses.ReadFault h = tt
    part_carried (statuses.WriteFault written) h = of_left (IsFront written) h
    part_carried (statuses.Workload number) h = tt
    part_carried (statuses.Journal line) h = tt
    part_carried (statuses.TooLong count) h = tt
    part_carried statuses.NoMemory h = tt
