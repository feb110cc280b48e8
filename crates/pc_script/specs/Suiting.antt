-- How a session's script stands beside its open transaction: the call that comes next suits it.
use Rattle.std.specs.Prelude.{◌≡◌, Bool, Option, None, Some, List, [], ◌∷◌, All, ⊤, drop, slice_get}
use Rattle.pc_call.specs.Suiting.{SuitsFlightIn}
use Rattle.pc_proto.specs.declared.call.Call.{Call}
use Rattle.pc_proto.specs.declared.call.Call.TheVariants as calls
use Rattle.pc_script.specs.declared.planned.Planned.{Planned}
use Rattle.pc_script.specs.declared.planned.Planned.TheVariants as plans
use Rattle.pc_script.specs.Script.{Position, coming}
use Rattle.pc_txn.specs.declared.txn.OpenTxn.{OpenTxn}

-- A call of a transaction that was begun: a statement, or its end.
abbrev pub IsCallIn : Call → Type 0
IsCallIn (calls.Get key) = ⊤
IsCallIn (calls.Scan span) = ⊤
IsCallIn (calls.Put key value) = ⊤
IsCallIn (calls.Delete key) = ⊤
IsCallIn calls.Commit = ⊤
IsCallIn calls.Rollback = ⊤
IsCallIn _ = ⊥

-- The calls are those of one transaction that was begun.
abbrev pub AreOfOne : List Call → Type 0
AreOfOne ahead = All IsCallIn ahead

-- The planned call is one of a transaction that was begun.
abbrev pub IsPlannedIn : Planned → Type 0
IsPlannedIn (plans.Ask call) = IsCallIn call
IsPlannedIn (plans.PutSum key amount) = ⊤

-- The calls are those of one transaction, from its begin or from a later one on; or a learn alone.
abbrev pub IsCourse : List Call → Type 0
IsCourse (calls.Begin priority ∷ later) = AreOfOne later
IsCourse (calls.Learn id ∷ later) = later ≡ []
IsCourse ahead = AreOfOne ahead

-- The open transaction goes on by these calls, and the first of them suits it, where writes are pipelined, or not.
pub record GoesOnWith (pipelining : Bool) (ahead : List Call) (x : OpenTxn) : Type 0 where
  pub inside : AreOfOne ahead
  pub first : (call : Call) → slice_get ahead 0 ≡ Some call → SuitsFlightIn pipelining call x.in_flight

abbrev pub FitsTxn : Bool → List Call → Option OpenTxn → Type 0
FitsTxn pipelining ahead None = IsCourse ahead
FitsTxn pipelining ahead (Some x) = GoesOnWith pipelining ahead x

-- The calls ahead go on with the open transaction, or begin one or learn where none is open; and those behind the running item's begin are
-- of one transaction.
pub record FitsCalls (pipelining : Bool) (at : Position) (txn : Option OpenTxn) : Type 0 where
  pub calls : All IsPlannedIn (drop 1 at.calls)
  pub now : FitsTxn pipelining (coming at) txn
