-- Of lists and of truth values.
use Rattle.std.proofs.Common.{◌≡◌, Bool, true, false, ◌&&◌, List, [], ◌∷◌, refl, All}
use Rattle.std.proofs.lemmas.List.Elements.{All-cons, All-nil}

-- what is true of all is true of each
pub every : {X : Type 0} (P : X → Type 0) → ((x : X) → P x) → (xs : List X) → All P xs
every P each [] = All-nil P
every P each (x ∷ xs) = All-cons P x xs (each x) (every P each xs)

pub and_once : (b : Bool) → (b && true) ≡ false → b ≡ false
and_once true e = absurd cc
and_once false e = refl
