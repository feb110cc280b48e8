-- What a machine stands by is not lost.
use Rattle.pc_base.specs.declared.actor.ActorId.{ActorId}
use Rattle.pc_recover.specs.RecoverKnows.{RecoverKnows}
use Rattle.pc_recover.specs.Recovering.{Recovering}
use Rattle.pc_world.specs.Exchange.{IsLater}
use Rattle.pc_world.specs.Known.{Known}

-- A machine stands by what its actor knows while that only sends and hears, whatever it sends.
abbrev pub RecoveringGoesOn : Type 0
RecoveringGoesOn =
    (actor : ActorId) (start k later : Known) (m : Recovering) → RecoverKnows actor start k m → IsLater k later → RecoverKnows actor start later m
