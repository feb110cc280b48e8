use Rattle.pc_in_turns.proofs.Acting.{HasGoneAt}
use Rattle.pc_scripted.specs.Taking.{are_items_over}
use Rattle.pc_in_turns.proofs.in_turns.InTurns.go_until.Given as goal

abbrev pub invariant-loop : goal.invariant-loop
invariant-loop g l = HasGoneAt g.C.Clock.rule (are_items_over l.items) l.index l.fn.self l.self
