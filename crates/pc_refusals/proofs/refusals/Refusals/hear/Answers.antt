use Rattle.std.proofs.Common.{sym, subst, ap, ◌∙◌}
use Rattle.pc_refusals.proofs.Counted.{counts_heard, last_heard, lt_true}
use Rattle.pc_refusals.specs.Moves.{CountsMoves, moves_with}
use Rattle.pc_refusals.proofs.refusals.Refusals.hear.Goals as goal

pub returns-clause-counts : goal.returns-clause-counts
returns-clause-counts c k now h counts few shows more =
    subst (λ n. CountsMoves now n) (sym (c.with_move-self-inside.ensures ∙ ap (moves_with c.args.ts c.args.recorded) c.self.view_is))
    (counts_heard k now c.args.ts c.args.recorded h shows more c.args.self.now counts few)

pub returns-clause-last : goal.returns-clause-last
returns-clause-last c k now h low shows more = last_heard k now c.args.ts c.args.recorded h shows more (lt_true c.args.ts c.args.recorded low)
