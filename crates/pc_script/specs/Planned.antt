-- The calls that a script has planned.
use Rattle.std.specs.Prelude.{ℕ, List, Option}
use Rattle.pc_proto.specs.declared.call.Call.{Call}
use Rattle.pc_proto.specs.declared.call.Call.TheVariants as calls
use Rattle.pc_script.specs.declared.planned.Planned.{Planned}
use Rattle.pc_script.specs.declared.planned.Planned.TheVariants as plans
use Rattle.pc_script.specs.Sum.{sum_told}

-- The call that a planned one comes to, where the last get was told this: that call, or the put of the sum.
abbrev pub planned_call : Option (List ℕ) → Planned → Call
planned_call told (plans.Ask call) = call
planned_call told (plans.PutSum key amount) = calls.Put key (sum_told told amount)
