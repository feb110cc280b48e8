use Rattle.std.proofs.lemmas.Result.{err_from_is_err_and}
use Rattle.pc_work.proofs.Loop.{goes_on, ends, is_done}
use Rattle.pc_work.proofs.json.all_of.Goals as goal

pub returns-in_err-from_json : goal.returns-in_err-from_json
returns-in_err-from_json g c =
    let refused = err_from_is_err_and c.from_residual.result c.from_residual.ensures.1 in
    rw (refused.1, refused.2) (ends c.in_err-from_json.field-0.0 g.T.FromJson.found_in c.loop-value.items.items c.args.values.now c.loop-value.value-index c.value-item.result _ c.loop-value-test.true c.value-item.is c.in_err-from_json.ensures c.loop-value.invariant)

pub loop-value-preserved : goal.loop-value-preserved
loop-value-preserved g c =
    rw c.in_ok-push.ensures.items (goes_on g.T.FromJson.found_in c.loop-value.items.items c.args.values.now c.loop-value.value-index c.value-item.result c.in_ok-from_json.field-0 _ c.loop-value-test.true c.value-item.is c.in_ok-from_json.ensures c.loop-value.invariant)

pub returns : goal.returns
returns g c = is_done g.T.FromJson.found_in c.loop-value.items.items c.args.values.now c.loop-value.value-index _ c.loop-value-test.false c.loop-value.invariant
