use Rattle.pc_work.proofs.Judging.{goes_on, is_done}
use Rattle.pc_work.proofs.judge.in_items.Goals as goal

pub loop-value-preserved : goal.loop-value-preserved
loop-value-preserved g c =
    rw (c.least-found.ensures, c.refusal.ensures) (goes_on g.T.Judged.refusal_in c.loop-value.found c.args.values.now c.loop-value.value-index c.value-item.result _ c.loop-value-test.true c.value-item.is c.loop-value.invariant)

pub returns : goal.returns
returns g c = is_done g.T.Judged.refusal_in c.loop-value.found c.args.values.now c.loop-value.value-index _ c.loop-value-test.false c.loop-value.invariant
