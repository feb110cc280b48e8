-- What an actor may do begins the next transaction and sends the next message, if any.
use Rattle.std.proofs.Common.{◌≡◌, ◌+◌, ℕ, Bool, true, false, not, ◌&&◌, List, Result, Ok, Err}
use Rattle.std.specs.Bool.{MatchBool}
use Rattle.std.specs.Result.{IfOk}
use Rattle.pc_base.specs.declared.memory.NoMemory.{NoMemory}
use Rattle.pc_base.specs.declared.actor.ActorId.{ActorId}
use Rattle.pc_base.specs.declared.actor.ActorId.TheVariants as actors
use Rattle.pc_base.specs.declared.transaction.TxnId.{TxnId}
use Rattle.pc_known.specs.Calls.{BeginsNext, TellsNext}
use Rattle.pc_known.specs.Sends.{SendsNext}
use Rattle.pc_proto.specs.declared.answer.Answer.{Answer}
use Rattle.pc_proto.specs.declared.answer.Answer.TheVariants as answers
use Rattle.pc_proto.specs.declared.event.Event.{Event}
use Rattle.pc_proto.specs.declared.event.Event.TheVariants as events
use Rattle.pc_world.specs.Known.{Known, next_number}
use Rattle.pc_world.specs.Known.Statements.{Statement}
use Rattle.pc_world.specs.Local.{Head, MayDo}
use Rattle.pc_world.specs.MayTell.{MayTellIn, is_past_range, needs_txn}
use Rattle.pc_world.specs.Tell.Begin.{IsNextOf, MayTellBegun}

next-of : (actor : ActorId) (begun : ℕ) (id : TxnId) → IsNextOf actor begun id → id.number ≡ begun + 1
next-of (actors.Session session) begun id h = h.1
next-of (actors.Range number) begun id h = absurd h
next-of (actors.Recoverer number) begun id h = absurd h

begun-in : (actor : ActorId) (k : Known) (s : Statement) (id : TxnId) (ts : ℕ) (one other : Bool)
    → MatchBool one (answers.Begun id ts ≡ answers.NoTxn) (MatchBool other (answers.Begun id ts ≡ answers.Clock s.reading) (MayTellBegun actor k s id ts)) → id.number ≡ k.begun + 1
begun-in actor k s id ts true other h = absurd (cc h)
begun-in actor k s id ts false true h = absurd (cc h)
begun-in actor k s id ts false false h = next-of actor k.begun id h.next

tells-next : (splits : List (List ℕ)) (actor : ActorId) (k : Known) (s : Statement) (answer : Answer) → MayTellIn splits actor k s answer → TellsNext k.begun answer
tells-next splits actor k s (answers.Begun id ts) h = begun-in actor k s id ts (needs_txn s.call && not k.is_open) (is_past_range s) h
tells-next splits actor k s answer h = tt

pub begins_next : (head : Head) (actor : ActorId) (k : Known) (event : Event) → MayDo head actor k event → BeginsNext k.begun event
begins_next head actor k (events.Tell answer) h = tells-next head.splits actor k h.s answer h.told
begins_next head actor k event h = tt

pub sends_next : (head : Head) (actor : ActorId) (k : Known) (event : Event) → MayDo head actor k event → SendsNext (next_number k) event
sends_next head actor k (events.Send number range request) h = h.next
sends_next head actor k event h = tt

-- what is so of the answer for each actor is so for all of them
pub for_each : (r : Result Bool NoMemory) (P : Head → ActorId → Known → Type 0) (Q : Bool → Head → ActorId → Known → Type 0)
    → ((head : Head) (actor : ActorId) (k : Known) → P head actor k → IfOk r (λ may. Q may head actor k))
    → IfOk r (λ may. (head : Head) (actor : ActorId) (k : Known) → P head actor k → Q may head actor k)
for_each (Ok may) P Q h = h
for_each (Err e) P Q h = tt
