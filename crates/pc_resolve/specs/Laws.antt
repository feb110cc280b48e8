-- What a machine stands by is not lost.
use Rattle.pc_resolve.specs.ResolveKnows.{IsLaterWithoutPuts, ResolveKnows}
use Rattle.pc_resolve.specs.Resolving.{Resolving}
use Rattle.pc_world.specs.Known.{Known}

-- A machine stands by what its actor knows while that only sends and hears, and sends no put of the transaction.
abbrev pub ResolvingGoesOn : Type 0
ResolvingGoesOn =
    (start k later : Known) (m : Resolving) → ResolveKnows start k m → IsLaterWithoutPuts m.id k later → ResolveKnows start later m
