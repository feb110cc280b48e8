use Rattle.std.proofs.Common.{◌≡◌, ◌++◌, take}
use Rattle.std.specs.List.{flat_map}
use Rattle.pc_script.specs.Script.{statement_calls}
use Rattle.pc_script.proofs.script.add_statements.Given as goal

abbrev pub invariant-loop-statement : goal.invariant-loop-statement
invariant-loop-statement l = l.calls ≡ l.initial.calls ++ flat_map statement_calls (take l.statement-index l.statements)
