-- Reading a part of a workload out of the value of a JSON text: a definition gives the part or nothing, and a reader of the
-- program gives what the definition gives.
use Rattle.std.specs.Prelude.{◌≡◌, Option, Some, None, Result, Ok, Err}
use Rattle.pc_work.specs.declared.fault.Misfit.{Misfit}
use Rattle.pc_work.specs.declared.fault.Misfit.TheVariants as misfits

infixl 10 ◌>>=◌
-- Goes on with what was found.
abbrev pub ◌>>=◌ : {A B : Type 0} → Option A → (A → Option B) → Option B
(Some x) >>= next = next x
None >>= next = None

-- What a reader answers, seen by a view, is what is found; where memory ran out nothing is said.
abbrev pub GivesBy : {X Y : Type 0} → (X → Y) → Result X Misfit → Option Y → Type 0
GivesBy view (Ok x) found = found ≡ Some (view x)
GivesBy view (Err misfits.OtherForm) found = found ≡ None
GivesBy view (Err misfits.NoMemory) found = Unit {0}

-- What a reader answers is what is found.
abbrev pub Gives : {X : Type 0} → Result X Misfit → Option X → Type 0
Gives result found = GivesBy (λ x. x) result found
