-- When the program ends in which way. Own profile.
use Rattle.std.specs.Prelude.{◌≡◌, ℕ, ◌<◌, Bool, List, length, take, Option, Some, IfSome, ⊤}
use Rattle.std.specs.Io.KnownBytes.{Appends}
use Rattle.pc_base.specs.declared.actor.ActorId.{ActorId}
use Rattle.pc_program.specs.declared.status.Status.{Status}
use Rattle.pc_program.specs.declared.status.Status.TheVariants as statuses
use Rattle.pc_program.specs.Output.{IsOutput}
use Rattle.pc_work.specs.declared.workload.Workload.{Workload}
use Rattle.pc_work.specs.Workload.{accepted_in}

-- The fact holds where the source was read to its end, and where the answer comes from what it gave.
abbrev pub IfRead : Status → Type 0 → Type 0
IfRead statuses.Done fact = fact
IfRead (statuses.NotRun line rule) fact = fact
IfRead statuses.Usage fact = ⊤
IfRead statuses.ReadFault fact = ⊤
IfRead (statuses.WriteFault written) fact = fact
IfRead (statuses.Workload number) fact = fact
IfRead (statuses.Journal line) fact = fact
IfRead (statuses.TooLong bytes) fact = ⊤
IfRead statuses.NoMemory fact = ⊤

-- Where the sink was not called, the fact holds.
abbrev pub UnlessWriting : Status → Type 0 → Type 0
UnlessWriting statuses.Done fact = ⊤
UnlessWriting (statuses.NotRun line rule) fact = fact
UnlessWriting statuses.Usage fact = fact
UnlessWriting statuses.ReadFault fact = fact
UnlessWriting (statuses.WriteFault written) fact = ⊤
UnlessWriting (statuses.Workload number) fact = fact
UnlessWriting (statuses.Journal line) fact = fact
UnlessWriting (statuses.TooLong bytes) fact = fact
UnlessWriting statuses.NoMemory fact = fact

-- The whole output was made, and its writing began.
abbrev pub HasBegunWriting : Status → Type 0
HasBegunWriting statuses.Done = ⊤
HasBegunWriting (statuses.NotRun line rule) = ⊥
HasBegunWriting statuses.Usage = ⊥
HasBegunWriting statuses.ReadFault = ⊥
HasBegunWriting (statuses.WriteFault written) = ⊤
HasBegunWriting (statuses.Workload number) = ⊥
HasBegunWriting (statuses.Journal line) = ⊥
HasBegunWriting (statuses.TooLong bytes) = ⊥
HasBegunWriting statuses.NoMemory = ⊥

-- What the fact says of the number of bytes that a failed write left behind.
abbrev pub IfWriteFault : Status → (ℕ → Type 0) → Type 0
IfWriteFault statuses.Done fact = ⊤
IfWriteFault (statuses.NotRun line rule) fact = ⊤
IfWriteFault statuses.Usage fact = ⊤
IfWriteFault statuses.ReadFault fact = ⊤
IfWriteFault (statuses.WriteFault written) fact = fact written
IfWriteFault (statuses.Workload number) fact = ⊤
IfWriteFault (statuses.Journal line) fact = ⊤
IfWriteFault (statuses.TooLong bytes) fact = ⊤
IfWriteFault statuses.NoMemory fact = ⊤

-- Unless a write failed, the fact.
abbrev pub UnlessWriteFault : Status → Type 0 → Type 0
UnlessWriteFault (statuses.WriteFault written) fact = ⊤
UnlessWriteFault statuses.Done fact = fact
UnlessWriteFault (statuses.NotRun line rule) fact = fact
UnlessWriteFault statuses.Usage fact = fact
UnlessWriteFault statuses.ReadFault fact = fact
UnlessWriteFault (statuses.Workload number) fact = fact
UnlessWriteFault (statuses.Journal line) fact = fact
UnlessWriteFault (statuses.TooLong bytes) fact = fact
UnlessWriteFault statuses.NoMemory fact = fact

-- What the fact says of the number of a workload that was refused.
abbrev pub IfRefused : Status → (ℕ → Type 0) → Type 0
IfRefused (statuses.Workload number) fact = fact number
IfRefused statuses.Done fact = ⊤
IfRefused (statuses.NotRun line rule) fact = ⊤
IfRefused statuses.Usage fact = ⊤
IfRefused statuses.ReadFault fact = ⊤
IfRefused (statuses.WriteFault written) fact = ⊤
IfRefused (statuses.Journal line) fact = ⊤
IfRefused (statuses.TooLong bytes) fact = ⊤
IfRefused statuses.NoMemory fact = ⊤

-- Done, and then the fact.
abbrev pub IfDone : Status → Type 0 → Type 0
IfDone statuses.Done fact = fact
IfDone (statuses.NotRun line rule) fact = ⊤
IfDone statuses.Usage fact = ⊤
IfDone statuses.ReadFault fact = ⊤
IfDone (statuses.WriteFault written) fact = ⊤
IfDone (statuses.Workload number) fact = ⊤
IfDone (statuses.Journal line) fact = ⊤
IfDone (statuses.TooLong bytes) fact = ⊤
IfDone statuses.NoMemory fact = ⊤

-- The status is one that a run of a workload ends with: it judges no journal.
abbrev pub IsOfRun : Status → Type 0
IsOfRun (statuses.NotRun line rule) = ⊥
IsOfRun statuses.Usage = ⊥
IsOfRun (statuses.Journal line) = ⊥
IsOfRun statuses.Done = ⊤
IsOfRun statuses.ReadFault = ⊤
IsOfRun (statuses.WriteFault written) = ⊤
IsOfRun (statuses.Workload number) = ⊤
IsOfRun (statuses.TooLong bytes) = ⊤
IsOfRun statuses.NoMemory = ⊤

-- The status is one that the check of a journal ends with: it reads no workload.
abbrev pub IsOfCheck : Status → Type 0
IsOfCheck statuses.Usage = ⊥
IsOfCheck (statuses.Workload number) = ⊥
IsOfCheck statuses.Done = ⊤
IsOfCheck (statuses.NotRun line rule) = ⊤
IsOfCheck statuses.ReadFault = ⊤
IsOfCheck (statuses.WriteFault written) = ⊤
IsOfCheck (statuses.Journal line) = ⊤
IsOfCheck (statuses.TooLong bytes) = ⊤
IsOfCheck statuses.NoMemory = ⊤

-- These bytes are the whole text.
abbrev pub IsWhole : List ℕ → List ℕ → Type 0
IsWhole text bytes = bytes ≡ text

-- These bytes are the first so many of the text, and not all of it.
pub record IsFront (written : ℕ) (text bytes : List ℕ) : Type 0 where
  pub front : bytes ≡ take written text
  pub short : written < length text

-- Bytes that stand so to an output of a workload, by these rules of the clocks, were appended to what the sink had taken.
pub record HasWrittenOf (work : Workload) (rules : ActorId → ℕ → ℕ → Bool) (old new : Option (List ℕ)) (Is : List ℕ → List ℕ → Type 0) : Type 0 where
  pub text : List ℕ
  pub output : IsOutput work rules text
  pub bytes : List ℕ
  pub is : Is text bytes
  pub written : Appends old new bytes

-- Bytes that stand so to an output were appended to what the sink had taken: one of the workload that the source's bytes state, where it
-- tells them.
pub record HasWritten (rules : ActorId → ℕ → ℕ → Bool) (left old new : Option (List ℕ)) (Is : List ℕ → List ℕ → Type 0) : Type 0 where
  pub work : Workload
  pub stated : IfSome left (λ bytes. accepted_in bytes ≡ Some work)
  pub appended : HasWrittenOf work rules old new Is

-- The status is one that comes once the source was read to its end.
abbrev pub IsAfterReading : Status → Type 0
IsAfterReading statuses.Done = ⊤
IsAfterReading (statuses.WriteFault written) = ⊤
IsAfterReading (statuses.Workload number) = ⊤
IsAfterReading statuses.NoMemory = ⊤
IsAfterReading (statuses.NotRun line rule) = ⊥
IsAfterReading statuses.Usage = ⊥
IsAfterReading statuses.ReadFault = ⊥
IsAfterReading (statuses.Journal line) = ⊥
IsAfterReading (statuses.TooLong bytes) = ⊥
