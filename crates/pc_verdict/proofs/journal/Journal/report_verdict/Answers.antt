use Rattle.std.proofs.Common.{rules}
use Rattle.pc_verdict.proofs.Found.{IsPrintedOf, differing_found, few_splits, run_found}
use Rattle.pc_verdict.proofs.journal.Journal.report_verdict.Goals as goal

pub report-requires-clause-few : goal.report-requires-clause-few
report-requires-clause-few c = few_splits c.args.self.now c.requires.read.bytes c.requires.read.from

pub returns-in-Some : goal.returns-in-Some
returns-in-Some c bytes from =
    let printed : IsPrintedOf c.args.self.now c.as_slice-entries.result.now c.in_ok-report.report c.deref.result.now c.as_slice.result.now = record {
      same = c.as_slice-entries.ensures;
      reported = c.in_ok-report.ensures;
      fits = c.in_ok-print_report.ensures.spelled;
      printed = search rules;
      given = c.as_slice.ensures;
    } in
    differing_found c.args.self.now c.as_slice-entries.result.now c.in_ok-report.report c.deref.result.now c.as_slice.result.now printed c.requires.run bytes from c.in-Some.place c.in-Some.ensures.place

pub returns : goal.returns
returns c bytes from =
    let printed : IsPrintedOf c.args.self.now c.as_slice-entries.result.now c.in_ok-report.report c.deref.result.now c.as_slice.result.now = record {
      same = c.as_slice-entries.ensures;
      reported = c.in_ok-report.ensures;
      fits = c.in_ok-print_report.ensures.spelled;
      printed = search rules;
      given = c.as_slice.ensures;
    } in
    run_found c.args.self.now c.as_slice-entries.result.now c.in_ok-report.report c.deref.result.now c.as_slice.result.now printed c.requires.run bytes from c.in-None.ensures.place
