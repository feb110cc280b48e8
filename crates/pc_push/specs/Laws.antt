-- What a machine stands by is not lost.
use Rattle.pc_base.specs.declared.actor.ActorId.{ActorId}
use Rattle.pc_push.specs.PushKnows.{PushKnows}
use Rattle.pc_push.specs.Pushing.{Pushing}
use Rattle.pc_world.specs.Exchange.{IsLater}
use Rattle.pc_world.specs.Known.{Known}

-- A machine stands by what its actor knows while that only sends and hears, whatever it sends.
abbrev pub PushingGoesOn : Type 0
PushingGoesOn =
    (actor : ActorId) (start k later : Known) (m : Pushing) → PushKnows actor start k m → IsLater k later → PushKnows actor start later m
