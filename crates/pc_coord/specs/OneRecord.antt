-- Of the messages of an open call that are waited for, at most one speaks of a record.
use Rattle.std.specs.Prelude.{◌≡◌, ◌≢◌, ℕ, true, Option, None, Some}
use Rattle.pc_coord.specs.Coordination.{Coordination, awaits_number}
use Rattle.pc_proto.specs.declared.request.Request.{Request}
use Rattle.pc_proto.specs.Requests.{subject}
use Rattle.pc_world.specs.Known.{Known}
use Rattle.pc_world.specs.Known.Traffic.{request_sent}

-- Two messages that are waited for, and speak of records, are one.
abbrev pub AwaitsOneRecord : Coordination → Known → Type 0
AwaitsOneRecord c k =
    (one other : ℕ) (asked too : Request) → awaits_number one c.due ≡ true → awaits_number other c.due ≡ true → request_sent one k.sent ≡ Some asked → request_sent other k.sent ≡ Some too
    → subject asked ≢ None → subject too ≢ None → one ≡ other
