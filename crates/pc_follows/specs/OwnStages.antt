-- Stages of the open call: the writes that they list, and a reply by which the record went another way. RFC 20180324.
use Rattle.std.specs.Prelude.{◌≡◌, ℕ, Bool, true, false, not, ◌⊎◌, Some, List, All, Any, IsTrue, ⊤}
use Rattle.pc_proto.specs.declared.event.Event.{Event}
use Rattle.pc_proto.specs.declared.event.Event.TheVariants as events
use Rattle.pc_proto.specs.declared.reply.Reply.{Reply}
use Rattle.pc_proto.specs.declared.request.Request.{Request}
use Rattle.pc_proto.specs.declared.request.Request.TheVariants as requests
use Rattle.pc_proto.specs.Requests.{is_put_of}
use Rattle.pc_world.specs.Known.{Known, open_txn}
use Rattle.pc_world.specs.Known.Transactions.{Txn, lists_write}
use Rattle.pc_world.specs.Known.Writes.{Write, is_proved}
use Rattle.pc_world.specs.StageFate.{IsLateByRecord, IsStageWith, SentStage, shows_past}
use Rattle.pc_world.specs.Tell.Refusal.{is_heard}

-- The reply to the request refuses a stage: its record is not final, and does not stage so.
abbrev pub refuses_stage : Request → Reply → Bool
refuses_stage (requests.Stage meta ts now writes locks) reply =
    shows_past (record { meta = meta; ts = ts; now = now; writes = writes; locks = locks }) reply
refuses_stage _ reply = false

-- The stage lists this write, and was not refused.
pub record ListsUnrefused (k : Known) (key : List ℕ) (seq : ℕ) (s : SentStage) : Type 0 where
  pub listed : IsTrue (lists_write key seq s.writes)
  pub not_refused : IsLateByRecord k.heard s → ⊥

-- If the request puts a write, a stage of the open call lists it, and was not refused.
abbrev pub IsPutStaged : Known → Request → Type 0
IsPutStaged k (requests.Put meta seq ts key value) = Any (λ m. IsStageWith meta.id (ListsUnrefused k key seq) m.request) k.sent_now
IsPutStaged k _ = ⊤

-- A message of the write is on its way: it was not heard.
abbrev pub IsStillOut : Known → Txn → Write → Type 0
IsStillOut k t w = Any (λ m. IsTrue (is_put_of t.id t.epoch w.seq m.request) × IsTrue (not (is_heard k.heard m))) k.sent

-- Each write of the open transaction is proved, or a message of it is on its way.
abbrev pub AreAllOnWay : Known → Type 0
AreAllOnWay k = (t : Txn) → open_txn k ≡ Some t → All (λ w. IsTrue (is_proved w) ⊎ IsStillOut k t w) t.writes

-- If the request is a stage that was not sent before, it goes out in the wave of the writes that it lists.
abbrev pub IsBesidePuts : Known → Request → Type 0
IsBesidePuts k (requests.Stage meta ts now writes locks) =
    (Any (λ m. m.request ≡ requests.Stage meta ts now writes locks) k.sent → ⊥) → AreAllOnWay k
IsBesidePuts k _ = ⊤

-- A stage goes out beside the writes that it lists.
abbrev pub StagesBesidePuts : Known → Event → Type 0
StagesBesidePuts k (events.Send number range request) = IsBesidePuts k request
StagesBesidePuts k _ = ⊤
