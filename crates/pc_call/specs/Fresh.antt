-- A call of the open transaction begins: nothing was sent or heard in it, or a heartbeat alone.
use Rattle.std.specs.Prelude.{◌≡◌, ◌+◌, ◌≤◌, Bool, true, None, Some, [], All, IsTrue}
use Rattle.pc_call.specs.Beaten.{HasBeatenIn}
use Rattle.pc_call.specs.Serving.{IsOpenIn, IsSplit}
use Rattle.pc_proto.specs.declared.why.Why.{Why}
use Rattle.pc_proto.specs.declared.why.Why.TheVariants as whys
use Rattle.pc_proto.specs.Replies.{is_undecided_status}
use Rattle.pc_proto.specs.Stamps.{why_stamps}
use Rattle.pc_txn.specs.declared.txn.OpenTxn.{OpenTxn}
use Rattle.pc_txn.specs.Standing.{TxnStands}
use Rattle.pc_follows.specs.Heartbeats.{is_heartbeat}
use Rattle.pc_world.specs.Known.{Known}
use Rattle.pc_world.specs.Known.Statements.{Statement}
use Rattle.pc_world.specs.Known.Traffic.{Heard}
use Rattle.pc_world.specs.Known.Transactions.{Txn}
use Rattle.pc_world.specs.Send.Abort.{own_cause}

-- The reply is to a heartbeat, and shows a record that is not final.
pub record ShowsAlive (h : Heard) : Type 0 where
  pub beat : is_heartbeat h.request ≡ true
  pub undecided : IsTrue (is_undecided_status h.reply)

-- The open transaction stands, its call was just asked, and this is why a rollback would abort it.
pub record IsJustAsked (k : Known) (x : OpenTxn) (s : Statement) (why : Why) : Type 0 where
  pub t : Txn
  pub open_in : IsOpenIn k t
  pub stands : TxnStands k [] None t x
  pub client : x.cause ≡ whys.Client
  pub cause : why ≡ own_cause t.restart
  pub low : All (λ ts. ts ≤ k.top + 1) (why_stamps why)
  pub opened : k.statement ≡ Some s
  pub none_sent : k.sent_now ≡ []
  pub none_heard : k.heard_now ≡ []

-- So it does where the call begins: a heartbeat that was heard in it found the transaction alive; and where nothing is lost none is due, and one that was sent
-- was heard.
pub record IsFresh (loses : Bool) (k : Known) (x : OpenTxn) (s : Statement) (why : Why) : Type 0 where
  pub t : Txn
  pub open_in : IsOpenIn k t
  pub stands : TxnStands k [] None t x
  pub client : x.cause ≡ whys.Client
  pub cause : why ≡ own_cause t.restart
  pub low : All (λ ts. ts ≤ k.top + 1) (why_stamps why)
  pub opened : k.statement ≡ Some s
  pub split : IsSplit k
  pub sent : All (λ m. is_heartbeat m.request ≡ true) k.sent_now
  pub heard : All ShowsAlive k.heard_now
  pub beaten : HasBeatenIn loses k t
