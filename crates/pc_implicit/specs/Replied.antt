-- What the replies of ranges say of a transaction's writes: that a put of it was written, that a query found it, that one missed it.
-- RFC 20180324, "QueryIntent".
use Rattle.std.specs.Prelude.{◌≡◌, ℕ, ◌⊎◌, Option, List, Contains}
use Rattle.pc_base.specs.declared.entry.Entry.{Entry}
use Rattle.pc_base.specs.declared.transaction.TxnId.{TxnId}
use Rattle.pc_base.specs.declared.transaction.Who.{Who}
use Rattle.pc_proto.specs.declared.event.Event.{Event}
use Rattle.pc_proto.specs.declared.event.Event.TheVariants as events
use Rattle.pc_proto.specs.declared.meta.TxnMeta.{TxnMeta}
use Rattle.pc_proto.specs.declared.reply.Reply.{Reply}
use Rattle.pc_proto.specs.declared.reply.Reply.TheVariants as replies
use Rattle.pc_proto.specs.declared.request.Request.{Request}
use Rattle.pc_proto.specs.declared.request.Request.TheVariants as requests

-- A message with this request was sent, and was evaluated with this reply.
pub record WasReplied (history : List (Entry Event)) (request : Request) (reply : Reply) : Type 0 where
  pub send : Entry Event
  pub listed : Contains history send
  pub number : ℕ
  pub range : ℕ
  pub sends : send.event ≡ events.Send number range request
  pub eval : Entry Event
  pub evaluated : Contains history eval
  pub told : eval.event ≡ events.Eval send.actor number reply

-- A put of the transaction's epoch, of this key and sequence, was evaluated, and answered that it is written at this timestamp.
pub record WasWritten (history : List (Entry Event)) (id : TxnId) (epoch : ℕ) (key : List ℕ) (seq ts : ℕ) : Type 0 where
  pub meta : TxnMeta
  pub asked : ℕ
  pub value : Option (List ℕ)
  pub whose : meta.id ≡ id
  pub epoch_is : meta.epoch ≡ epoch
  pub replied : WasReplied history (requests.Put meta seq asked key value) (replies.Written ts)

-- A query of this write of the transaction's epoch, at this timestamp, was evaluated, and answered that it was found.
pub record QueryFound (history : List (Entry Event)) (id : TxnId) (epoch : ℕ) (key : List ℕ) (seq ts : ℕ) : Type 0 where
  pub by : Who
  pub replied : WasReplied history (requests.Query id epoch seq ts key by) replies.Found

-- A query of this write of the transaction's epoch, at this timestamp, was evaluated, and answered that it is missing.
pub record QueryMissed (history : List (Entry Event)) (id : TxnId) (epoch : ℕ) (key : List ℕ) (seq ts : ℕ) : Type 0 where
  pub by : Who
  pub replied : WasReplied history (requests.Query id epoch seq ts key by) replies.Missing

-- The write is proven at this timestamp: a put of it was written there, or a query found it there.
abbrev pub WasProven : List (Entry Event) → TxnId → ℕ → List ℕ → ℕ → ℕ → Type 0
WasProven history id epoch key seq ts = WasWritten history id epoch key seq ts ⊎ QueryFound history id epoch key seq ts
