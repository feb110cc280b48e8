use Rattle.std.proofs.Common.{sym, ◌∙◌}
use Rattle.pc_known.proofs.Exact.{both, past_gates}
use Rattle.pc_known.proofs.calls.Calls.may_tell_in.Goals as goal

pub returns-else-is_past_range : goal.returns-else-is_past_range
returns-else-is_past_range c splits k keeps =
    both (c.may_tell_row.ensures splits k keeps)
    (past_gates _ _ _ _ _ (sym (c.finds_none.ensures k keeps) ∙ c.if-finds_none.false) (sym c.is_past_range.ensures ∙ c.if-is_past_range.false))
