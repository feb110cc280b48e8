use Rattle.std.proofs.Common.{◌↔◌, Bool, false, IsTrue, sym, ◌∙◌}
use Rattle.std.proofs.lemmas.Result.{IfOk-weaker}
use Rattle.pc_known.proofs.Exact.{both, past_gates}
use Rattle.pc_may_tell.proofs.tell.may_tell_in.Goals as goal
use Rattle.pc_world.specs.MayTell.{MayTellIn, MayTellRow}

pub returns-else-is_past_range : goal.returns-else-is_past_range
returns-else-is_past_range c k keeps =
    let P : Bool → Type 0 = λ may. IsTrue may ↔ MayTellRow c.args.splits.now c.args.actor k c.args.call.now c.args.answer.now in
    let Q : Bool → Type 0 = λ may. IsTrue may ↔ MayTellIn c.args.splits.now c.args.actor k c.args.call.now c.args.answer.now in
    IfOk-weaker c.may_tell_row.result P Q
    (λ may is. both is (past_gates _ _ _ _ _ (sym (c.finds_none.ensures k (c.calls.ensures k keeps)) ∙ c.if-finds_none.false) (sym c.is_past_range.ensures ∙ c.if-is_past_range.false)))
    (c.may_tell_row.ensures k keeps)
