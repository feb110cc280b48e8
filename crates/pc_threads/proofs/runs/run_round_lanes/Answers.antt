use Rattle.std.proofs.Common.{All, slice_index_or, sym, subst, rules}
use Rattle.pc_rounds.specs.Counted.{GoesInRounds}
use Rattle.pc_threads.proofs.Places.{ran_back}
use Rattle.pc_threads.specs.RoundLanes.{HasRunRounds}
use Rattle.pc_threads.proofs.runs.run_round_lanes.Goals as goal

pub for_each_mut-requires-clause-accepts : goal.for_each_mut-requires-clause-accepts
for_each_mut-requires-clause-accepts g c κs within = λ i p lt same.
    let counted = subst (λ ls. All (λ l. GoesInRounds l.recoverer) ls) (sym c.as_mut_slice.ensures.value) c.requires in
    subst (λ l. GoesInRounds l.recoverer) (sym same) (counted i p.now lt)

pub returns : goal.returns
returns g c =
    let gone = c.for_each_mut.new.s in
    ran_back (HasRunRounds g.C.Clock.rule) c.as_mut_slice.result.now gone _ c.args.lanes.items c.args.lanes.len c.as_mut_slice.ensures.value c.args.lanes.ok.0 (search rules) (λ i d lt.
    let at = (c.for_each_mut.ensures i d lt).1 in
    subst (λ x. HasRunRounds g.C.Clock.rule x (slice_index_or gone i d)) at.argument_is (subst (λ y. HasRunRounds g.C.Clock.rule at.argument.now y) at.left at.call))
