-- A session's script as its code keeps it.
use Rattle.std.specs.Prelude.{ℕ, Bool, List, [], ◌∷◌, drop, cond}
use Rattle.pc_proto.specs.declared.call.Call.TheVariants as calls
use Rattle.pc_script.specs.declared.planned.Planned.{Planned}
use Rattle.pc_script.specs.declared.planned.Planned.TheVariants as plans
use Rattle.pc_script.specs.Script.{Position}

-- The calls that are ahead after so many: those behind them, or a rollback where the transaction is given up.
abbrev pub ahead_of : Bool → ℕ → List Planned → List Planned
ahead_of gives_up over listed = cond gives_up (plans.Ask calls.Rollback ∷ []) (drop over listed)

-- The position with these calls ahead.
abbrev pub with_ahead : List Planned → Position → Position
with_ahead ahead at = record at { ahead = ahead }
