-- What was heard and sent in the open call, as is kept.
use Rattle.std.specs.Prelude.{◌≡◌, ℕ, Bool, ◌&&◌, not, Option, Some, List, IsTrue}
use Rattle.std.specs.List.{list_any}
use Rattle.pc_base.specs.declared.transaction.TxnId.{TxnId}
use Rattle.pc_known.specs.declared.sends.Sends.{Sends}
use Rattle.pc_known.specs.Sends.{is_number_now}
use Rattle.pc_proto.specs.declared.call.Call.{Call}
use Rattle.pc_proto.specs.declared.call.Call.TheVariants as calls
use Rattle.pc_world.specs.Known.Statements.{Statement}
use Rattle.pc_proto.specs.Requests.{is_put_of}
use Rattle.pc_world.specs.Known.Traffic.{Heard, Sent}
use Rattle.pc_world.specs.Known.Transactions.{Txn}
use Rattle.pc_world.specs.Send.Put.{AsksFor}
use Rattle.pc_world.specs.Tell.Data.{IsPutFor, IsValueOf}

-- The reply is to a get that was sent in the open call, and has this value.
abbrev pub HasValueNow : Sends → Option (List ℕ) → Heard → Type 0
HasValueNow x value h = IsTrue (is_number_now x h.number) × IsValueOf value h.request h.reply

-- A put of the call's write, under a sequence that was not sent before, among these messages.
pub record IsFirstAfter (before : List Sent) (call : Call) (t : Txn) (m : Sent) : Type 0 where
  pub seq : ℕ
  pub key : List ℕ
  pub value : Option (List ℕ)
  pub asked : AsksFor (Some call) key value
  pub put : IsPutFor t key value seq m.request
  pub first : IsTrue (not (list_any (λ other. is_put_of t.id t.epoch seq other.request) before))

-- The call is a get.
abbrev pub IsGetCall : Statement → Type 0
IsGetCall s = (key : List ℕ) × (s.call ≡ calls.Get key)
