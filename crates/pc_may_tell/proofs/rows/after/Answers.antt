use Rattle.std.proofs.Common.{refl}
use Rattle.pc_may_tell.proofs.Telling.{all_told, next_told, none_told}
use Rattle.pc_may_tell.proofs.rows.after.Goals as goal

pub returns-in-None : goal.returns-in-None
returns-in-None c later =
    none_told c.args.rows.now c.loop-row.rest.now c.args.found.now c.loop-row.row-index c.row-item.result c.loop-row-test.true c.row-item.is c.loop-row.invariant _ c.in-None.ensures refl later

pub loop-row-preserved : goal.loop-row-preserved
loop-row-preserved c later =
    next_told c.args.rows.now c.loop-row.rest.now c.args.found.now c.loop-row.row-index c.row-item.result c.loop-row-test.true c.row-item.is c.loop-row.invariant _ c.in-Some.ensures c.in-Some.later.now refl later

pub returns : goal.returns
returns c later = all_told c.args.rows.now c.loop-row.rest.now c.args.found.now c.loop-row.row-index c.loop-row-test.false c.loop-row.invariant later
