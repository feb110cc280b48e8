-- What a coordinator knows is not lost beside it, and what its session may make of what is due.
use Rattle.std.specs.Prelude.{◌≡◌, ℕ, Bool, true, false, None, Some}
use Rattle.pc_coord.specs.Beside.{IsLaterBeside}
use Rattle.pc_coord.specs.Coordination.{Coordination, awaits_number, with_clock}
use Rattle.pc_coord.specs.declared.due.Due.TheVariants as dues
use Rattle.pc_coord.specs.Knows.{Knows}
use Rattle.pc_follows.specs.CallMessages.{IsForCall}
use Rattle.pc_proto.specs.declared.request.Request.{Request}
use Rattle.pc_world.specs.Known.{Known}
use Rattle.pc_world.specs.Known.Traffic.{request_sent}

-- Between calls, once what the last transaction left was handed out, a coordinator knows what its session knows after it sent and heard
-- messages beside it, once its clock has heard of it.
abbrev pub CoordinatingGoesOn : Type 0
CoordinatingGoesOn =
    (loses : Bool) (c : Coordination) (start k : Known) → Knows loses c start → c.due ≡ dues.Nothing → c.job ≡ None → IsLaterBeside loses c start k
    → Knows loses (with_clock k.high c) k

-- Each message whose reply is waited for is of a kind that is sent for the open call, also where it joined from the outbox.
abbrev pub AwaitsItsPuts : Type 0
AwaitsItsPuts =
    (c : Coordination) (k : Known) (number : ℕ) (request : Request) → Knows false c k → awaits_number number c.due ≡ true → request_sent number k.sent ≡ Some request
    → IsForCall c.pipelining k request
