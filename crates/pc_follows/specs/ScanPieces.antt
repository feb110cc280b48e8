-- A scan of several ranges is sent in pieces, one to each range. Own profile.
use Rattle.std.specs.Prelude.{◌≡◌, ℕ, Some, List, All, Any}
use Rattle.pc_base.specs.declared.span.Span.{Span}
use Rattle.pc_proto.specs.declared.call.Call.TheVariants as calls
use Rattle.pc_proto.specs.declared.request.Request.{Request}
use Rattle.pc_proto.specs.declared.request.Request.TheVariants as requests
use Rattle.pc_world.specs.Known.{Known, call_of}
use Rattle.pc_world.specs.RangeOf.{pieces}

-- The request asks for this piece of a scan.
abbrev pub IsScanOf : Span → Request → Type 0
IsScanOf span (requests.Scan id epoch seq ts piece) = piece ≡ span
IsScanOf span _ = ⊥

-- In a scan all pieces were sent.
abbrev pub SentAllPieces : List (List ℕ) → Known → Type 0
SentAllPieces splits k =
    (span : Span) → call_of k ≡ Some (calls.Scan span) → All (λ p. Any (λ m. IsScanOf p.1 m.request) k.sent_now) (pieces splits span)
