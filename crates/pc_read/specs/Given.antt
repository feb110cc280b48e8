-- A borrowed value stands for the value that its slices spell. Own profile.
use Rattle.std.specs.Prelude.{◌≡◌, Option, None, Some, IsSome}

-- What was returned is what reading gives: nothing where it gives nothing, else what stands for the value that it gives.
abbrev pub StandsFor : {A B : Type 0} → (A → Option B) → Option A → Option B → Type 0
StandsFor own None read = read ≡ None
StandsFor own (Some x) read = (own x ≡ read) × IsSome read
