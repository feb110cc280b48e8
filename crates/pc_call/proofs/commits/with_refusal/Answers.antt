use Rattle.pc_call.proofs.Refused.{used_otherwise, used_up}
use Rattle.pc_call.proofs.commits.with_refusal.Goals as goal

pub returns-then-are_used_up : goal.returns-then-are_used_up
returns-then-are_used_up c = λ k now h counts few shows more.
    let counted = c.hear.ensures.counts k now h counts few shows more in
    used_up k now h c.args.ts c.args.recorded c.args.refusals c.hear.new.self c.hear.ensures.made few counted (λ above. c.hear.ensures.last k now h above shows more)
    ((c.are_used_up.ensures.exactly now counted).0 c.if-are_used_up.true)

pub returns-else-are_used_up : goal.returns-else-are_used_up
returns-else-are_used_up c = λ k now h counts few shows more.
    let counted = c.hear.ensures.counts k now h counts few shows more in
    (counted, λ eight. used_otherwise _ c.if-are_used_up.false ((c.are_used_up.ensures.exactly now counted).1 eight))
