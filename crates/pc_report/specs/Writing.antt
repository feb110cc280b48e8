-- What each transaction wrote, kept while a history is replayed.
use Rattle.std.specs.Prelude.{◌≡◌, ℕ, Bool, false, ◌==◌, if◌then◌else◌, Option, None, Some, List, [], fold}
use Rattle.std.specs.BTreeMap.{get}
use Rattle.std.specs.List.{filter_map}
use Rattle.std.specs.Ordering.{nat_cmp}
use Rattle.pc_base.specs.declared.actor.ActorId.{ActorId}
use Rattle.pc_base.specs.declared.actor.ActorId.TheVariants as actors
use Rattle.pc_base.specs.declared.entry.Entry.{Entry}
use Rattle.pc_base.specs.declared.transaction.TxnId.{TxnId}
use Rattle.pc_base.specs.Transaction.{same_txn}
use Rattle.pc_history.specs.Own.{same_id}
use Rattle.pc_proto.specs.declared.answer.Answer.{Answer}
use Rattle.pc_proto.specs.declared.answer.Answer.TheVariants as answers
use Rattle.pc_proto.specs.declared.event.Event.{Event}
use Rattle.pc_proto.specs.declared.event.Event.TheVariants as events
use Rattle.pc_proto.specs.declared.request.Request.{Request}
use Rattle.pc_proto.specs.declared.request.Request.TheVariants as requests
use Rattle.pc_puts.specs.declared.puts.Put.{Put}
use Rattle.pc_report.specs.declared.writes.Writes.{Writes}
use Rattle.pc_puts.specs.Puts.{with_new_put}
use Rattle.pc_report.specs.Replaying.{held}
use Rattle.pc_world.specs.Operations.{Doing, Operation, Read, ReadAll, Write, doing_after, doing_nothing, is_last_after, is_last_told, session_events}

-- The puts in a list, if there is a list.
abbrev pub puts_of : Option (List Put) → List Put
puts_of None = []
puts_of (Some puts) = puts

-- What was kept of a transaction's puts.
abbrev pub puts_held : Writes → TxnId → List Put
puts_held w id = puts_of (held w.puts id)

-- The transaction is the last one that its session began, by what was kept.
abbrev pub is_last_of : TxnId → Option TxnId → Bool
is_last_of id None = false
is_last_of id (Some other) = same_txn other id

abbrev pub is_last_in : Writes → TxnId → Bool
is_last_in w id = is_last_of id (get nat_cmp w.last id.session)

-- The transaction's puts after a request of its session.
abbrev pub puts_sent : TxnId → Request → List Put → List Put
puts_sent id (requests.Put meta seq ts key value) puts =
    if same_txn meta.id id then with_new_put (record { seq = seq; key = key; value = value }) puts else puts
puts_sent id _ puts = puts

-- The transaction's puts after an answer to its session: a restart of the last transaction begins anew.
abbrev pub puts_told : Bool → Answer → List Put → List Put
puts_told last (answers.Restart key ts) puts = if last then [] else puts
puts_told last _ puts = puts

-- The transaction's puts after an event of its session.
abbrev pub puts_after : TxnId → Bool → Event → List Put → List Put
puts_after id last (events.Send number range request) puts = puts_sent id request puts
puts_after id last (events.Tell answer) puts = puts_told last answer puts
puts_after id last _ puts = puts

-- The event is one of the transaction's session.
abbrev pub is_of_session : TxnId → ActorId → Bool
is_of_session id actor = same_id (actors.Session id.session) actor

-- What was kept of each transaction's puts after an entry.
abbrev pub PutsFollow : Writes → Entry Event → Writes → Type 0
PutsFollow old e new =
    (id : TxnId) → puts_held new id ≡ if is_of_session id e.actor then puts_after id (is_last_in old id) e.event (puts_held old id) else puts_held old id

-- Which transactions are the last of their sessions after an entry.
abbrev pub LastFollows : Writes → Entry Event → Writes → Type 0
LastFollows old e new =
    (id : TxnId) → is_last_in new id ≡ if is_of_session id e.actor then is_last_after id e.event (is_last_in old id) else is_last_in old id

-- What was kept of the puts of a session's transactions changed so, and no others.
abbrev pub PutsChange : ℕ → (TxnId → List Put → List Put) → Writes → Writes → Type 0
PutsChange session change old new =
    (id : TxnId) → puts_held new id ≡ if id.session == session then change id (puts_held old id) else puts_held old id

-- Which transaction is the last of a session after an answer to it.
abbrev pub LastChanges : ℕ → Answer → Writes → Writes → Type 0
LastChanges session answer old new =
    (id : TxnId) → is_last_in new id ≡ if id.session == session then is_last_told id answer (is_last_in old id) else is_last_in old id

-- How far a transaction is after a history.
abbrev pub doing_of : List (Entry Event) → TxnId → Doing
doing_of history id = fold (doing_after id) doing_nothing (session_events id history)

-- An operation as a put, if it writes.
abbrev pub put_in : Operation → Option Put
put_in (Write key seq value) = Some (record { seq = seq; key = key; value = value })
put_in (Read key value) = None
put_in (ReadAll span rows) = None

-- What was kept is what the transactions wrote in the history.
pub record AreWritesOf (history : List (Entry Event)) (w : Writes) : Type 0 where
  pub puts : (id : TxnId) → puts_held w id ≡ filter_map put_in (doing_of history id).done
  pub last : (id : TxnId) → is_last_in w id ≡ (doing_of history id).is_last
