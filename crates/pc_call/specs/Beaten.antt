-- Heartbeats of an open call, where messages may be lost: what a session keeps of them is claimed where nothing is, as a heartbeat that was lost is not heard.
use Rattle.std.specs.Prelude.{◌≡◌, Bool, false, All, Any, drop}
use Rattle.pc_follows.specs.Heartbeats.{AreBeatsHeard, FindsAborted, IsBeatDue, is_heartbeat}
use Rattle.pc_proto.specs.declared.why.Why.{Why}
use Rattle.pc_world.specs.Known.{Known}
use Rattle.pc_world.specs.Known.Transactions.{Txn}

-- No heartbeat went out in the open call behind another message of it.
abbrev pub BeatsOnlyFirst : Known → Type 0
BeatsOnlyFirst k = All (λ m. is_heartbeat m.request ≡ false) (drop 1 k.sent_now)

-- The open call may go on, as far as heartbeats say, and none went out behind another message of it.
pub record HasBeatenFirst (k : Known) (t : Txn) : Type 0 where
  pub none_due : IsBeatDue k t → ⊥
  pub heard : AreBeatsHeard k
  pub alive : (why : Why) → Any (FindsAborted t why) k.heard_now → ⊥
  pub first : BeatsOnlyFirst k

-- So it may where nothing is lost.
abbrev pub HasBeatenIn : Bool → Known → Txn → Type 0
HasBeatenIn loses k t = loses ≡ false → HasBeatenFirst k t
