-- One write for one call: a session sends puts of its open transaction alone, and a call that writes sends one new write, however often it
-- sends that one again; a write of an earlier call is sent again under its own sequence while it is in flight; that it is not once it was heard to
-- be written is what may be sent at all. Own profile.
use Rattle.std.specs.Prelude.{◌≡◌, not, ◌⊎◌, Some, All, Any, IsTrue, ⊤}
use Rattle.pc_proto.specs.declared.event.Event.{Event}
use Rattle.pc_proto.specs.declared.event.Event.TheVariants as events
use Rattle.pc_proto.specs.declared.meta.TxnMeta.{TxnMeta}
use Rattle.pc_proto.specs.declared.request.Request.{Request}
use Rattle.pc_proto.specs.declared.request.Request.TheVariants as requests
use Rattle.pc_proto.specs.Replies.{is_written}
use Rattle.pc_world.specs.Known.{Known, open_txn}
use Rattle.pc_world.specs.Known.Statements.{Statement}
use Rattle.pc_world.specs.Known.Transactions.{Txn}
use Rattle.pc_world.specs.SameRequest.{IsSameRequest}
use Rattle.pc_world.specs.Tell.Data.{IsFirstPut}

-- The put is of the open transaction, in its present epoch.
pub record IsOfOpen (k : Known) (meta : TxnMeta) : Type 0 where
  pub t : Txn
  pub opened : open_txn k ≡ Some t
  pub whose : meta.id ≡ t.id
  pub epoch_now : meta.epoch ≡ t.epoch

-- The write was sent before and nothing heard says that it is written, or no new write was sent in the open call.
abbrev pub IsOnlyWrite : Known → Request → Type 0
IsOnlyWrite k request =
    (Any (λ m. IsSameRequest request m.request) k.sent × All (λ h. IsSameRequest request h.request → IsTrue (not (is_written h.reply))) k.heard)
    ⊎ ((s : Statement) (t : Txn) → k.statement ≡ Some s → open_txn k ≡ Some t → All (λ m. IsFirstPut k s t m → ⊥) k.sent_now)

-- What a call asks of a put that it sends; it asks nothing here of another request.
abbrev pub IsItsPut : Known → Request → Type 0
IsItsPut k (requests.Put meta seq ts key value) = IsOfOpen k meta × IsOnlyWrite k (requests.Put meta seq ts key value)
IsItsPut k request = ⊤

-- In an open call the puts are of the open transaction, and at most one write is new.
abbrev pub WritesOnce : Known → Event → Type 0
WritesOnce k (events.Send number range request) = (s : Statement) → k.statement ≡ Some s → IsItsPut k request
WritesOnce k _ = ⊤
