-- A scan is one wave: no reply to a piece of it is heard before all its pieces went out. Own profile.
use Rattle.std.specs.Prelude.{◌≡◌, ℕ, false, Option, None, Some, List, ⊤}
use Rattle.pc_proto.specs.Requests.{is_put, round_of}
use Rattle.pc_follows.specs.Heartbeats.{is_heartbeat}
use Rattle.pc_follows.specs.ScanPieces.{SentAllPieces}
use Rattle.pc_world.specs.Known.{Known}
use Rattle.pc_world.specs.Known.Traffic.{Heard}

-- Where the reply that is heard is to no message of a conflict's round, and to no heartbeat and no put in flight, which are heard before the pieces
-- go out, and the open call scans, all its pieces were sent in it.
abbrev pub HearsAllPieces : List (List ℕ) → Known → Option Heard → Type 0
HearsAllPieces splits k None = ⊤
HearsAllPieces splits k (Some h) = round_of h.request ≡ None → is_heartbeat h.request ≡ false → is_put h.request ≡ false → SentAllPieces splits k
