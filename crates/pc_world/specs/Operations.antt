-- What a transaction did, as its session was told: the reads and writes of its present epoch, in the order of its calls.
use Rattle.std.specs.Prelude.{ℕ, Bool, false, ◌&&◌, ◌==◌, not, if◌then◌else◌, Option, None, Some, List, [], ◌∷◌, ◌++◌, filter, fold, map}
use Rattle.std.specs.List.{list_any}
use Rattle.pc_base.specs.declared.actor.ActorId.TheVariants as actors
use Rattle.pc_base.specs.declared.entry.Entry.{Entry}
use Rattle.pc_base.specs.declared.span.Span.{Span}
use Rattle.pc_base.specs.declared.transaction.TxnId.{TxnId}
use Rattle.pc_base.specs.Transaction.{same_txn}
use Rattle.pc_history.specs.Own.{same_id}
use Rattle.pc_proto.specs.declared.answer.Answer.{Answer}
use Rattle.pc_proto.specs.declared.answer.Answer.TheVariants as answers
use Rattle.pc_proto.specs.declared.call.Call.{Call}
use Rattle.pc_proto.specs.declared.call.Call.TheVariants as calls
use Rattle.pc_proto.specs.declared.event.Event.{Event}
use Rattle.pc_proto.specs.declared.event.Event.TheVariants as events
use Rattle.pc_proto.specs.declared.request.Request.{Request}
use Rattle.pc_proto.specs.declared.request.Request.TheVariants as requests

-- A key was read, with this value or none; all rows of a span were read; or a value, or a deletion, was written under a sequence.
pub data Operation : Type 0 where
  Read : (key : List ℕ) (value : Option (List ℕ)) → Operation
  ReadAll : (span : Span) (rows : List (List ℕ × List ℕ)) → Operation
  Write : (key : List ℕ) (seq : ℕ) (value : Option (List ℕ)) → Operation

-- How far the transaction is: whether it is the last one that its session began, the call that was asked last, and what it did.
pub record Doing : Type 0 where
  pub is_last : Bool
  pub call : Option Call
  pub done : List Operation

-- Nothing was asked yet.
abbrev pub doing_nothing : Doing
doing_nothing = record { is_last = false; call = None; done = [] }

-- The transaction is the last one after its own begin, and until the next.
abbrev pub is_last_told : TxnId → Answer → Bool → Bool
is_last_told id (answers.Begun other ts) was = same_txn other id
is_last_told id _ was = was

abbrev pub is_last_after : TxnId → Event → Bool → Bool
is_last_after id (events.Tell answer) was = is_last_told id answer was
is_last_after id _ was = was

-- The call that was asked last.
abbrev pub call_after : Event → Option Call → Option Call
call_after (events.Ask call reading) was = Some call
call_after _ was = was

-- The operation writes under this sequence.
abbrev pub is_write : ℕ → Operation → Bool
is_write seq (Write key own value) = own == seq
is_write seq _ = false

-- A put is a write of its transaction where it is sent for the first time.
abbrev pub done_sent : TxnId → Request → List Operation → List Operation
done_sent id (requests.Put meta seq ts key value) done =
    if same_txn meta.id id && not (list_any (is_write seq) done) then done ++ Write key seq value ∷ [] else done
done_sent id _ done = done

-- A value that a get is told, or rows that a scan is told, are read. A restart begins anew.
abbrev pub done_told : Answer → Option Call → List Operation → List Operation
done_told (answers.Value value) (Some (calls.Get key)) done = done ++ Read key value ∷ []
done_told (answers.Rows rows) (Some (calls.Scan span)) done = done ++ ReadAll span (map (λ row. (row.0, row.2)) rows) ∷ []
done_told (answers.Restart key ts) call done = []
done_told _ call done = done

abbrev pub done_after : TxnId → Event → Doing → List Operation
done_after id (events.Send number range request) d = done_sent id request d.done
done_after id (events.Tell answer) d = if d.is_last then done_told answer d.call d.done else d.done
done_after id _ d = d.done

-- How far the transaction is after one more event of its session.
abbrev pub doing_after : TxnId → Doing → Event → Doing
doing_after id d event = record {
  is_last = is_last_after id event d.is_last;
  call = call_after event d.call;
  done = done_after id event d;
}

-- What the session of the transaction did in a history.
abbrev pub session_events : TxnId → List (Entry Event) → List Event
session_events id history = map (λ e. e.event) (filter (λ e. same_id (actors.Session id.session) e.actor) history)

-- What the transaction did in its present epoch.
abbrev pub operations_of : List (Entry Event) → TxnId → List Operation
operations_of history id = (fold (doing_after id) doing_nothing (session_events id history)).done
