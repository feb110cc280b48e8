-- What an actor knows: what it asked, sent, heard and was told, read from its own entries, each with the entry that it names.
-- Own profile: what a transaction coordinator keeps in memory in CockroachDB SIGMOD 2020, said as a function of its list.
use Rattle.std.specs.Prelude.{ℕ, ◌+◌, Bool, false, cond, Option, None, Some, List, [], ◌∷◌, length, fold, map}
use Rattle.pc_base.specs.declared.transaction.Priority.{Priority}
use Rattle.pc_base.specs.declared.transaction.Priority.TheVariants.{Normal}
use Rattle.pc_base.specs.declared.transaction.TxnId.{TxnId}
use Rattle.pc_history.specs.declared.pair.Pair.{Pair}
use Rattle.pc_proto.specs.declared.answer.Answer.{Answer}
use Rattle.pc_proto.specs.declared.answer.Answer.TheVariants as answers
use Rattle.pc_proto.specs.declared.call.Call.{Call}
use Rattle.pc_proto.specs.declared.call.Call.TheVariants as calls
use Rattle.pc_proto.specs.declared.event.Event.{Event}
use Rattle.pc_proto.specs.declared.event.Event.TheVariants as events
use Rattle.pc_world.specs.Known.Clock.{high_after, top_after}
use Rattle.pc_world.specs.Known.Statements.{Statement, begun_after, is_open_after, met_now_after, statement_after}
use Rattle.pc_world.specs.Known.Traffic.{Heard, Sent, heard_after, heard_by, heard_now_after, replies_to, sent_after, sent_now_after}
use Rattle.pc_world.specs.Known.Transactions.{Txn, begun, txn_heard, txn_sent, txn_told}
pub mod Clock
pub mod Reads
pub mod Statements
pub mod Traffic
pub mod Transactions
pub mod Writes

-- What an actor knows by its own entries.
pub record Known : Type 0 where
  -- The open call, if there is one.
  pub statement : Option Statement
  -- All messages that it sent.
  pub sent : List Sent
  -- Those that it sent since its last call was asked, which may be over.
  pub sent_now : List Sent
  -- All replies that it heard.
  pub heard : List Heard
  -- Those that it heard since its last call was asked, which may be over.
  pub heard_now : List Heard
  -- The commits that it met since its last call was asked, which may be over.
  pub met_now : List TxnId
  -- The greatest timestamp in its entries and in those that they name.
  pub top : ℕ
  -- The greatest timestamp in what it heard, met and was told at a begin.
  pub high : ℕ
  -- How many transactions it began.
  pub begun : ℕ
  -- Whether its last transaction is open.
  pub is_open : Bool
  -- Its transactions, the last one begun standing first.
  pub txns : List Txn

-- An actor that has no entry yet.
abbrev pub nothing_known : Known
nothing_known = record {
  statement = None;
  sent = [];
  sent_now = [];
  heard = [];
  heard_now = [];
  met_now = [];
  top = 0;
  high = 0;
  begun = 0;
  is_open = false;
  txns = [];
}

-- The priority that a begin asks for.
abbrev pub priority_asked : Call → Priority
priority_asked (calls.Begin priority) = priority
priority_asked _ = Normal

-- The transaction that a begin opens.
abbrev pub txn_begun : Option Statement → TxnId → ℕ → Txn
txn_begun None id ts = begun id Normal 0 ts
txn_begun (Some s) id ts = begun id (priority_asked s.call) s.reading ts

-- An answer is told to the open transaction, after these replies to what was sent in the open call.
abbrev pub told_first : Answer → List Heard → List Txn → List Txn
told_first answer replied [] = []
told_first answer replied (t ∷ ts) = txn_told answer replied t ∷ ts

-- The transactions after an answer was told.
abbrev pub txns_told : Answer → Known → List Txn
txns_told (answers.Begun id ts) k = txn_begun k.statement id ts ∷ k.txns
txns_told answer k = cond k.is_open (told_first answer (replies_to k.sent_now k.heard_now) k.txns) k.txns

-- The transactions after an event.
abbrev pub txns_after : Event → Option Heard → Known → List Txn
txns_after (events.Send number range request) h k = map (txn_sent request) k.txns
txns_after (events.Hear number step) h k = map (txn_heard k.sent h) k.txns
txns_after (events.Tell answer) h k = txns_told answer k
txns_after _ h k = k.txns

-- What the actor knows after this event, which leaves it these greatest timestamps.
abbrev pub known_after : Event → Option Heard → ℕ → ℕ → Known → Known
known_after event h top high k = record {
  statement = statement_after event k.statement;
  sent = sent_after event k.sent;
  sent_now = sent_now_after event k.sent_now;
  heard = heard_after h k.heard;
  heard_now = heard_now_after event h k.heard_now;
  met_now = met_now_after event k.met_now;
  top = top;
  high = high;
  begun = begun_after event k.begun;
  is_open = is_open_after event k.is_open;
  txns = txns_after event h k;
}

-- What the actor knows after one more entry.
abbrev pub learn : Pair Event → Known → Known
learn p k =
    known_after p.entry.event (heard_by p.entry.event p.named k.sent) (top_after p.entry.event p.named k.top)
    (high_after p.entry.event p.named k.high) k

-- What the actor of these entries knows.
abbrev pub known_of : List (Pair Event) → Known
known_of own = fold (λ k p. learn p k) nothing_known own

-- The last transaction begun, where it is open.
abbrev pub first_if : Bool → List Txn → Option Txn
first_if is_open [] = None
first_if is_open (t ∷ ts) = cond is_open (Some t) None

-- The transaction that is open.
abbrev pub open_txn : Known → Option Txn
open_txn k = first_if k.is_open k.txns

-- The number of the actor's next message.
abbrev pub next_number : Known → ℕ
next_number k = length k.sent + 1

-- The call of a statement, where there is one.
abbrev pub call_in : Option Statement → Option Call
call_in None = None
call_in (Some s) = Some s.call

-- The reading of a statement, where there is one.
abbrev pub reading_in : Option Statement → Option ℕ
reading_in None = None
reading_in (Some s) = Some s.reading

-- The open call.
abbrev pub call_of : Known → Option Call
call_of k = call_in k.statement

-- The reading at which the open call was asked.
abbrev pub reading_of : Known → Option ℕ
reading_of k = reading_in k.statement
