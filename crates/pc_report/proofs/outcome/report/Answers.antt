use Rattle.pc_report.proofs.outcome.report.Goals as goal

pub returns : goal.returns
returns c = c.report.ensures c.args.entries.now c.in_ok-findings.ensures
