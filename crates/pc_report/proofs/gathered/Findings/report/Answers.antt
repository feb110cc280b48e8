use Rattle.std.proofs.Common.{◌≡◌, [], fold, map, ap, ◌∙◌}
use Rattle.pc_report.proofs.Ordering.{report_means}
use Rattle.pc_report.specs.Ordering.{order_in, order_among, others_among}
use Rattle.pc_report.specs.ReportOf.{other_row}
use Rattle.pc_report.specs.Rows.{commit_row, map_with_puts}
use Rattle.pc_report.proofs.gathered.Findings.report.Goals as goal

pub returns : goal.returns
returns c = λ entries found.
    let splits = c.args.splits.now in
    let findings = c.args.self.now in
    let order : c.in_ok-order.order.items ≡ order_in splits findings.replay entries =
    c.in_ok-order.ensures ∙ ap (order_among splits findings.replay) (c.deref.ensures.value ∙ found.begun) in
    report_means splits entries findings.replay found.replay findings.writes found.writes
    (record { committed = c.in_ok-committed.committed; others = c.in_ok-others.others; map = c.in_ok-map.map })
    (c.in_ok-committed.ensures ∙ ap (map (commit_row findings.writes)) (c.deref-2.ensures.value ∙ order))
    (c.in_ok-others.ensures ∙ ap (λ ids. map other_row (others_among splits findings.replay ids)) (c.deref-3.ensures.value ∙ found.begun))
    (c.in_ok-map.ensures ∙ ap (fold (map_with_puts findings.writes) []) (c.deref-4.ensures.value ∙ order))
