use Rattle.std.proofs.Common.{All, take}
use Rattle.pc_may_tell.specs.Moving.{MetEightOf}
use Rattle.pc_may_tell.proofs.refusal.some_met_eight.Given as goal

abbrev pub invariant-loop-hearing : goal.invariant-loop-hearing
invariant-loop-hearing l = All (λ h. MetEightOf l.holder l.heard_now h.request → ⊥) (take l.hearing-index l.replies)
