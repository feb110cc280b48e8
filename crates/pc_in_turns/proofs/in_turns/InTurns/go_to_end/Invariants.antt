use Rattle.pc_in_turns.proofs.Acting.{HasGoneAt}
use Rattle.pc_scripted.specs.Taking.{is_script_over}
use Rattle.pc_in_turns.proofs.in_turns.InTurns.go_to_end.Given as goal

abbrev pub invariant-loop : goal.invariant-loop
invariant-loop g l = HasGoneAt g.C.Clock.rule is_script_over l.index l.fn.self l.self
