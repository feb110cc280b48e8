use Rattle.std.proofs.Common.{sym, ap, ◌∙◌}
use Rattle.pc_base.specs.Transaction.{txn_cmp}
use Rattle.pc_report.proofs.RowLists.{others_more}
use Rattle.pc_report.specs.Ordering.{with_entry_if}
use Rattle.pc_report.proofs.outcome.others.Goals as goal

pub loop-id-preserved : goal.loop-id-preserved
loop-id-preserved c =
    c.in_ok-insert.ensures
    ∙ (ap (λ entry. with_entry_if txn_cmp entry c.loop-id.others.entries) c.in_ok-other.ensures
    ∙ (ap (with_entry_if txn_cmp _) c.loop-id.invariant
    ∙ sym (others_more c.args.splits.now c.args.replay.now c.args.begun.now c.loop-id.id-index _ c.loop-id-test.true)))
