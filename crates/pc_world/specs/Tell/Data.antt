-- Value, Rows and Written: what was heard in the open call to its get or to the pieces of its scan; and a write, once it was sent.
-- SIGMOD 2020 paper, sections 3.1 and 3.3.
use Rattle.std.specs.Prelude.{◌≡◌, ℕ, ◌-◌, Bool, not, Option, Some, List, [], ◌∷◌, ◌++◌, length, take, map, Any, IsTrue}
use Rattle.std.specs.List.{list_any}
use Rattle.pc_base.specs.declared.span.Span.{Span}
use Rattle.pc_proto.specs.declared.call.Call.TheVariants as calls
use Rattle.pc_proto.specs.declared.reply.Origin.{Origin}
use Rattle.pc_proto.specs.declared.reply.Origin.TheVariants as origins
use Rattle.pc_proto.specs.declared.reply.Reply.{Reply}
use Rattle.pc_proto.specs.declared.reply.Reply.TheVariants as replies
use Rattle.pc_proto.specs.declared.request.Request.{Request}
use Rattle.pc_proto.specs.declared.request.Request.TheVariants as requests
use Rattle.pc_proto.specs.Requests.{is_put_of}
use Rattle.pc_world.specs.Known.{Known, open_txn}
use Rattle.pc_world.specs.Known.Statements.{Statement}
use Rattle.pc_world.specs.Known.Traffic.{Heard, Sent, is_reply_to_one}
use Rattle.pc_world.specs.Known.Transactions.{Txn}
use Rattle.pc_world.specs.RangeOf.{pieces}
use Rattle.pc_world.specs.Send.Put.{AsksFor}

-- The reply is to a message sent in the open call.
abbrev pub was_sent_now : Known → Heard → Bool
was_sent_now k h = is_reply_to_one k.sent_now h

-- The reply to a get has this value.
abbrev pub IsValueOf : Option (List ℕ) → Request → Reply → Type 0
IsValueOf value (requests.Get id epoch seq ts key) (replies.Value origin found) = found ≡ value
IsValueOf value _ _ = ⊥

-- The call may be told this value.
pub record MayTellValue (k : Known) (s : Statement) (value : Option (List ℕ)) : Type 0 where
  pub key : List ℕ
  pub asked : s.call ≡ calls.Get key
  pub heard : Any (λ h. IsTrue (was_sent_now k h) × IsValueOf value h.request h.reply) k.heard_now

-- A row as it is told: without its origin.
abbrev pub told_row : List ℕ × Origin × List ℕ → List ℕ × Origin × List ℕ
told_row row = (row.0, origins.Nothing, row.2)

-- The reply to this piece of a scan has these rows.
abbrev pub AreRowsOf : Span → List (List ℕ × Origin × List ℕ) → Request → Reply → Type 0
AreRowsOf span rows (requests.Scan id epoch seq ts piece) (replies.Rows found) = (piece ≡ span) × (found ≡ rows)
AreRowsOf span rows _ _ = ⊥

-- The rows are those heard to each piece in turn.
abbrev pub AreRowsOfAll : Known → List (ℕ × Span) → List (List ℕ × Origin × List ℕ) → Type 0
AreRowsOfAll k [] rows = rows ≡ []
AreRowsOfAll k (p ∷ ps) rows =
    (found later : List (List ℕ × Origin × List ℕ))
    × Any (λ h. IsTrue (was_sent_now k h) × AreRowsOf p.1 found h.request h.reply) k.heard_now
    × (rows ≡ map told_row found ++ later)
    × AreRowsOfAll k ps later

-- The call may be told these rows.
pub record MayTellRows (splits : List (List ℕ)) (k : Known) (s : Statement) (rows : List (List ℕ × Origin × List ℕ)) : Type 0 where
  pub span : Span
  pub asked : s.call ≡ calls.Scan span
  pub heard : AreRowsOfAll k (pieces splits span) rows

-- The messages that were sent before the open call.
abbrev pub sent_before : Known → List Sent
sent_before k = take (length k.sent - length k.sent_now) k.sent

-- The request is the transaction's put of this key and value under this sequence.
abbrev pub IsPutFor : Txn → List ℕ → Option (List ℕ) → ℕ → Request → Type 0
IsPutFor t key value seq (requests.Put meta at_seq ts at_key at_value) =
    (meta.id ≡ t.id) × (meta.epoch ≡ t.epoch) × (at_seq ≡ seq) × (at_key ≡ key) × (at_value ≡ value)
IsPutFor t key value seq _ = ⊥

-- A put of the call's write, under a sequence that was not sent before the call.
pub record IsFirstPut (k : Known) (s : Statement) (t : Txn) (m : Sent) : Type 0 where
  pub seq : ℕ
  pub key : List ℕ
  pub value : Option (List ℕ)
  pub asked : AsksFor (Some s.call) key value
  pub put : IsPutFor t key value seq m.request
  pub first : IsTrue (not (list_any (λ other. is_put_of t.id t.epoch seq other.request) (sent_before k)))

-- The call may be told that it has written.
pub record MayTellWritten (k : Known) (s : Statement) : Type 0 where
  pub t : Txn
  pub opened : open_txn k ≡ Some t
  pub sent : Any (IsFirstPut k s t) k.sent_now
