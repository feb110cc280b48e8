use Rattle.std.proofs.Common.{sym, ap, ◌∙◌}
use Rattle.pc_report.proofs.RowLists.{order_more}
use Rattle.pc_report.specs.Ordering.{place_cmp, with_entry_if}
use Rattle.pc_report.proofs.outcome.commit_order.Goals as goal

pub loop-id-preserved : goal.loop-id-preserved
loop-id-preserved c =
    c.in_ok-insert.ensures
    ∙ (ap (λ entry. with_entry_if place_cmp entry c.loop-id.order.entries) c.placed.ensures
    ∙ (ap (with_entry_if place_cmp _) c.loop-id.invariant
    ∙ sym (order_more c.args.splits.now c.args.replay.now c.args.begun.now c.loop-id.id-index _ c.loop-id-test.true)))
