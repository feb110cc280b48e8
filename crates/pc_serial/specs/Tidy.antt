-- What a session alone owes beside the protocol: in a call it sends nothing but what the call is for, it puts for its open transaction alone, it
-- tells a commit once it knows of it, it aborts before it tells that it rolled back, and it finishes what is over before it asks again.
use Rattle.std.specs.Prelude.{◌≡◌, ◌⊎◌, false, None, Some, List, [], Contains, IsTrue, ⊤}
use Rattle.pc_proto.specs.declared.call.Call.TheVariants as calls
use Rattle.pc_proto.specs.declared.event.Event.{Event}
use Rattle.pc_proto.specs.declared.event.Event.TheVariants as events
use Rattle.pc_proto.specs.declared.meta.TxnMeta.{TxnMeta}
use Rattle.pc_proto.specs.declared.request.Request.{Request}
use Rattle.pc_proto.specs.declared.request.Request.TheVariants as requests
use Rattle.pc_follows.specs.CallMessages.{SendsForCall}
use Rattle.pc_follows.specs.EarlyTell.{TellsEarly}
use Rattle.pc_follows.specs.FinishingJobs.{first_message}
use Rattle.pc_follows.specs.Rollbacks.{AbortsFirst}
use Rattle.pc_world.specs.Known.{Known, call_of, open_txn}
use Rattle.pc_world.specs.Known.Traffic.{Sent}
use Rattle.pc_world.specs.Known.Transactions.{Txn}
use Rattle.pc_world.specs.Tell.Refusal.{is_heard}

-- The request is of the open transaction.
pub record IsOfOpenTxn (k : Known) (meta : TxnMeta) : Type 0 where
  pub t : Txn
  pub opened : open_txn k ≡ Some t
  pub whose : meta.id ≡ t.id

-- The request speaks of the open transaction's record: it is a heartbeat, or in a commit the stage.
abbrev pub IsForRecord : Known → Request → Type 0
IsForRecord k (requests.Beat meta ts now) = ⊤
IsForRecord k (requests.Stage meta ts now writes locks) = (call_of k ≡ Some calls.Commit) × IsOfOpenTxn k meta
IsForRecord k _ = ⊥

-- A message that goes out in an open call is for the call, each of whose puts is heard before it is told, or for the record of its transaction.
abbrev pub SendsForCallOrRecord : Known → Event → Type 0
SendsForCallOrRecord k (events.Send number range request) = SendsForCall false k (events.Send number range request) ⊎ IsForRecord k request
SendsForCallOrRecord k _ = ⊤

-- Each message that was sent before the open call was heard.
abbrev pub HasHeardBefore : Known → Type 0
HasHeardBefore k = (m : Sent) → Contains k.sent m → IsTrue (is_heard k.heard m) ⊎ Contains k.sent_now m

-- As long as a message of an earlier call is not heard, a put is of the open transaction. (Once all are heard, the protocol has nothing to put
-- again for one that is over.)
abbrev pub PutsForOpenTxn : Known → Event → Type 0
PutsForOpenTxn k (events.Send number range (requests.Put meta seq ts key value)) = IsOfOpenTxn k meta ⊎ HasHeardBefore k
PutsForOpenTxn k _ = ⊤

-- A message that goes out between calls is the next one of the oldest job that waits.
abbrev pub SendsJobs : Known → List (List Request) → Event → Type 0
SendsJobs k jobs (events.Send number range request) = k.statement ≡ None → first_message jobs ≡ Some request
SendsJobs k jobs _ = ⊤

-- A call is asked only once all finishing jobs are done.
abbrev pub AsksWhenDone : List (List Request) → Event → Type 0
AsksWhenDone jobs (events.Ask call reading) = jobs ≡ []
AsksWhenDone jobs _ = ⊤

-- What the session owes when it does this next, with these jobs that wait.
pub record IsTidy (k : Known) (jobs : List (List Request)) (event : Event) : Type 0 where
  pub calls : SendsForCallOrRecord k event
  pub puts : PutsForOpenTxn k event
  pub early : TellsEarly k event
  pub aborts : AbortsFirst k event
  pub finishes : SendsJobs k jobs event
  pub asks : AsksWhenDone jobs event
