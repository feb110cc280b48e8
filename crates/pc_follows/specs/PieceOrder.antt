-- Order in a wave: the pieces of a scan go out in key order, also those that are sent again after they met intents; writes are put
-- again by sequence, a stage goes out behind them, refreshes beside refreshes, and all else alone. Own profile.
use Rattle.std.specs.Prelude.{◌≡◌, ℕ, ◌<◌, ◌⊎◌, Some, All, IsTrue, ⊤}
use Rattle.std.specs.Ordering.{is_lt}
use Rattle.pc_base.specs.declared.span.Span.{Span}
use Rattle.pc_base.specs.SpanOrder.{span_cmp}
use Rattle.pc_proto.specs.declared.event.Event.{Event}
use Rattle.pc_proto.specs.declared.event.Event.TheVariants as events
use Rattle.pc_proto.specs.declared.request.Request.{Request}
use Rattle.pc_proto.specs.declared.request.Request.TheVariants as requests
use Rattle.pc_proto.specs.Requests.{is_put, is_refresh}
use Rattle.pc_world.specs.Known.{Known}
use Rattle.pc_world.specs.Known.Statements.{Statement}
use Rattle.pc_world.specs.Tell.Refusal.{is_heard}

-- The request is a scan of a piece that lies before this span in key order.
abbrev pub IsPieceBefore : Span → Request → Type 0
IsPieceBefore span (requests.Scan id epoch seq ts earlier) = IsTrue (is_lt (span_cmp earlier span))
IsPieceBefore span _ = ⊥

-- The request puts a write of a lower sequence.
abbrev pub IsEarlierPut : ℕ → Request → Type 0
IsEarlierPut seq (requests.Put meta earlier ts key value) = earlier < seq
IsEarlierPut seq _ = ⊥

-- Each message of the call was heard, or is of such a request.
abbrev pub AreHeardOr : (Request → Type 0) → Known → Type 0
AreHeardOr P k = All (λ m. IsTrue (is_heard k.heard_now m) ⊎ P m.request) k.sent_now

-- Each message of the call was heard, or is on its way in the same wave, before the request.
abbrev pub IsNextInWave : Known → Request → Type 0
IsNextInWave k (requests.Scan id epoch seq ts span) = AreHeardOr (IsPieceBefore span) k
IsNextInWave k (requests.Put meta seq ts key value) = AreHeardOr (IsEarlierPut seq) k
IsNextInWave k (requests.Stage meta ts now writes locks) = AreHeardOr (λ r. IsTrue (is_put r)) k
IsNextInWave k (requests.Refresh id from to span) = AreHeardOr (λ r. IsTrue (is_refresh r)) k
IsNextInWave k _ = AreHeardOr (λ r. ⊥) k

-- In an open call the messages of a wave are sent in order.
abbrev pub SendsPiecesInOrder : Known → Event → Type 0
SendsPiecesInOrder k (events.Send number range request) = (s : Statement) → k.statement ≡ Some s → IsNextInWave k request
SendsPiecesInOrder k _ = ⊤
