-- Where what a transaction read comes from: the evaluations to which its session was answered, and what it had done by then.
use Rattle.std.proofs.Common.{◌≡◌, ℕ, max, fold, List, [], ◌∷◌, ◌++◌, map, Option, Some, Contains, IsTrue}
use Rattle.std.specs.Prelude.{⊤}
use Rattle.pc_base.specs.declared.actor.ActorId.{ActorId}
use Rattle.pc_base.specs.declared.actor.ActorId.TheVariants as actors
use Rattle.pc_base.specs.declared.entry.Entry.{Entry}
use Rattle.pc_base.specs.declared.span.Span.{Span}
use Rattle.pc_base.specs.declared.span.Span.TheVariants.{One}
use Rattle.pc_base.specs.declared.transaction.TxnId.{TxnId}
use Rattle.pc_base.specs.declared.transaction.Who.{Who}
use Rattle.pc_base.specs.Span.{contains}
use Rattle.pc_history.specs.Own.{named_in}
use Rattle.pc_implicit.proofs.Fronts.{IsFront}
use Rattle.pc_proto.specs.declared.event.Event.{Event}
use Rattle.pc_proto.specs.declared.event.Event.TheVariants as events
use Rattle.pc_proto.specs.declared.meta.TxnMeta.{TxnMeta}
use Rattle.pc_proto.specs.declared.reply.Origin.{Origin}
use Rattle.pc_proto.specs.declared.reply.Reply.{Reply}
use Rattle.pc_proto.specs.declared.reply.Reply.TheVariants as replies
use Rattle.pc_proto.specs.declared.request.Request.{Request}
use Rattle.pc_proto.specs.declared.request.Request.TheVariants as requests
use Rattle.pc_world.specs.After.{known_at, state_at}
use Rattle.pc_world.specs.Evaluation.{state_after}
use Rattle.pc_world.specs.Evaluation.{reply as reply_of}
use Rattle.pc_world.specs.Known.Reads.{Read as ReadMade}
use Rattle.pc_world.specs.Known.Transactions.{Txn}
use Rattle.pc_world.specs.Local.{Head}
use Rattle.pc_world.specs.Operations.{Operation, Read, ReadAll, Write, operations_of}
use Rattle.pc_world.specs.RangeOf.{GoesTo, pieces, range_of}
use Rattle.pc_world.specs.Run.{protocol}

-- After this history the entry evaluates this request on this range, and answers this.
pub record EvaluatesAt (head : Head) (before : List (Entry Event)) (e : Entry Event) (range : ℕ) (request : Request) (told : Reply) : Type 0 where
  pub actor : ActorId
  pub number : ℕ
  pub there : e.actor ≡ actors.Range range
  pub goes : GoesTo head.splits request range
  pub evaluates : e.event ≡ events.Eval actor number told
  pub send : Entry Event
  pub listed : Contains before send
  pub whose : send.actor ≡ actor
  pub sends : send.event ≡ events.Send number range request
  pub named : named_in (protocol head) before e.event ≡ Some send
  pub answers : told ≡ reply_of request (state_at head range before)
  pub after : state_at head range (before ++ e ∷ []) ≡ state_after request (state_at head range before)

-- In this history the request was evaluated on this range, and answered so.
pub record WasEvaluated (head : Head) (history : List (Entry Event)) (range : ℕ) (request : Request) (told : Reply) : Type 0 where
  pub before : List (Entry Event)
  pub e : Entry Event
  pub later : List (Entry Event)
  pub whole : history ≡ before ++ e ∷ later
  pub at : EvaluatesAt head before e range request told

-- A write was proved at this timestamp: a put of it was written there, or a query of it found it there.
pub data WasProved (head : Head) (history : List (Entry Event)) (id : TxnId) (epoch seq : ℕ) (key : List ℕ) (at : ℕ) : Type 0 where
  ByPut : (meta : TxnMeta) (ts : ℕ) (value : Option (List ℕ)) → meta.id ≡ id → meta.epoch ≡ epoch
      → WasEvaluated head history (range_of head.splits key) (requests.Put meta seq ts key value) (replies.Written at) → WasProved head history id epoch seq key at
  ByQuery : (by : Who) → WasEvaluated head history (range_of head.splits key) (requests.Query id epoch seq at key by) replies.Found
      → WasProved head history id epoch seq key at

-- The sequence of a write, 0 of a read.
abbrev pub seq_of : Operation → ℕ
seq_of (Write key seq value) = seq
seq_of (Read key value) = 0
seq_of (ReadAll span rows) = 0

-- The greatest sequence of the writes among these operations, 0 where there is none.
abbrev pub last_seq_done : List Operation → ℕ
last_seq_done done = fold (λ most o. max most (seq_of o)) 0 done

-- After this history the transaction, in this epoch, had done a front part of these operations.
pub record HadDone (head : Head) (history : List (Entry Event)) (id : TxnId) (epoch : ℕ) (done : List Operation) : Type 0 where
  pub t : Txn
  pub mine : Contains (known_at head (actors.Session id.session) history).txns t
  pub named : t.id ≡ id
  pub same_epoch : t.epoch ≡ epoch
  pub part : IsFront (operations_of history id) done

-- The message is a put of the transaction in this epoch, and its write is among these operations.
abbrev pub IsAmong : TxnId → ℕ → List Operation → Event → Type 0
IsAmong id epoch done (events.Send number range (requests.Put meta seq ts key value)) =
    meta.id ≡ id → meta.epoch ≡ epoch → Contains done (Write key seq value)
IsAmong id epoch done event = ⊤

-- The transaction, which had done these operations in its present epoch, read this span by one evaluation, of this request and
-- with this reply.
pub record IsReadAt (head : Head) (history : List (Entry Event)) (id : TxnId) (epoch : ℕ) (reads : List ReadMade) (done : List Operation) (span : Span) (range : ℕ) (asks : ℕ → ℕ → Request) (told : Reply) : Type 0 where
  pub before : List (Entry Event)
  pub e : Entry Event
  pub later : List (Entry Event)
  pub whole : history ≡ before ++ e ∷ later
  pub seq : ℕ
  pub ts : ℕ
  pub evaluates : EvaluatesAt head before e range (asks seq ts) told
  -- It sees the writes that were done.
  pub last : seq ≡ last_seq_done done
  -- Those in the span were proved before.
  pub proved : (key : List ℕ) (own : ℕ) (value : Option (List ℕ)) → Contains done (Write key own value) → IsTrue (contains span key) → (at : ℕ) × WasProved head before id epoch own key at
  -- It is one of the reads that are refreshed.
  pub kept : Contains reads (record { span = span; ts = ts })
  -- No other put of the epoch was sent before.
  pub only : (a : Entry Event) → Contains before a → IsAmong id epoch done a.event
  -- No more was done before.
  pub earlier : HadDone head before id epoch done

-- A key's value that was read comes from one evaluation of a get.
pub record ReadsFrom (head : Head) (history : List (Entry Event)) (id : TxnId) (epoch : ℕ) (reads : List ReadMade) (done : List Operation) (key : List ℕ) (value : Option (List ℕ)) : Type 0 where
  pub origin : Origin
  pub at : IsReadAt head history id epoch reads done (One key) (range_of head.splits key) (λ seq ts. requests.Get id epoch seq ts key) (replies.Value origin value)

-- A row without where its value comes from.
abbrev pub plain : List ℕ × Origin × List ℕ → List ℕ × List ℕ
plain row = (row.0, row.2)

-- Rows that were read come from one evaluation of a scan of each piece.
abbrev pub ReadsPieces : Head → List (Entry Event) → TxnId → ℕ → List ReadMade → List Operation → List (ℕ × Span) → List (List ℕ × List ℕ) → Type 0
ReadsPieces head history id epoch reads done [] rows = rows ≡ []
ReadsPieces head history id epoch reads done (p ∷ ps) rows =
    (found : List (List ℕ × Origin × List ℕ)) × (others : List (List ℕ × List ℕ))
    × IsReadAt head history id epoch reads done p.1 p.0 (λ seq ts. requests.Scan id epoch seq ts p.1) (replies.Rows found)
    × (rows ≡ map plain found ++ others)
    × ReadsPieces head history id epoch reads done ps others

-- An operation that was done after these comes from where it should: a value from a get, and rows from the scans of the pieces of
-- their span.
abbrev pub ComesFrom : Head → List (Entry Event) → TxnId → ℕ → List ReadMade → List Operation → Operation → Type 0
ComesFrom head history id epoch reads done (Read key value) = ReadsFrom head history id epoch reads done key value
ComesFrom head history id epoch reads done (ReadAll span rows) = ReadsPieces head history id epoch reads done (pieces head.splits span) rows
ComesFrom head history id epoch reads done (Write key seq value) = ⊤
