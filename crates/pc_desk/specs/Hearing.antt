-- What is heard when a call is told its answer: the replies to all messages sent in it, but with pipelining that to its own put. And replies
-- are heard in the order of their messages. Own profile.
use Rattle.std.specs.Prelude.{◌≡◌, Bool, true, false, ◌⊎◌, Option, None, Some, All, IsTrue, ⊤}
use Rattle.pc_proto.specs.declared.event.Event.{Event}
use Rattle.pc_proto.specs.declared.event.Event.TheVariants as events
use Rattle.pc_follows.specs.OldestUnheard.{IsOldestUnheard}
use Rattle.pc_world.specs.Known.{Known, open_txn}
use Rattle.pc_world.specs.Known.Statements.{Statement}
use Rattle.pc_world.specs.Known.Traffic.{Heard, Sent}
use Rattle.pc_world.specs.Known.Transactions.{Txn}
use Rattle.pc_world.specs.Tell.Data.{IsFirstPut}
use Rattle.pc_world.specs.Tell.Refusal.{is_heard}

-- With pipelining, the message is the put that the open call itself asked for.
pub record IsOwnPut (k : Known) (m : Sent) : Type 0 where
  pub s : Statement
  pub t : Txn
  pub asked : k.statement ≡ Some s
  pub opened : open_txn k ≡ Some t
  pub put : IsFirstPut k s t m

-- The message may go on unheard when its call is told: with pipelining the call's own put may.
abbrev pub MayStayUnheard : Bool → Known → Sent → Type 0
MayStayUnheard true k m = IsOwnPut k m
MayStayUnheard false k m = ⊥

-- By the telling of a call each message sent in it was heard, but for one that may stay unheard.
abbrev pub HearsAll : Bool → Known → Event → Type 0
HearsAll pipelining k (events.Tell answer) =
    All (λ m. IsTrue (is_heard k.heard_now m) ⊎ MayStayUnheard pipelining k m) k.sent_now
HearsAll pipelining k _ = ⊤

-- A reply that is heard is to the oldest message that was not heard, a put in flight aside.
abbrev pub HearsOldest : Known → Option Heard → Type 0
HearsOldest k None = ⊤
HearsOldest k (Some h) = IsOldestUnheard k h.number
