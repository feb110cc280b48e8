use Rattle.pc_program.proofs.Headline.{few_over, output_of, run_over}
use Rattle.pc_program.proofs.output.output.Goals as goal

pub of-requires-clause-few : goal.of-requires-clause-few
of-requires-clause-few g c = few_over c.args.work.now c.requires

pub of-requires-clause-run : goal.of-requires-clause-run
of-requires-clause-run g c = run_over c.args.work.now c.in_ok-entries.entries.items c.deref.result.now c.in_ok-entries.ensures.run c.deref.ensures.value

pub returns : goal.returns
returns g c =
    output_of c.print_output-out.result (λ out. out.items) c.args.work.now _ c.in_ok-entries.entries.items c.deref.result.now c.deref-2.result.now c.in_ok-report.report
    c.requires c.in_ok-entries.ensures.run c.in_ok-entries.ensures.follows c.deref.ensures.value c.deref-2.ensures.value (c.in_ok-report.ensures c.deref.result.now c.in_ok-findings.ensures)
    c.print_output-out.ensures.text c.print_output-out.ensures.keys c.print_output-out.ensures.spelled c.print_output-out.ensures.reported

pub report-requires : goal.report-requires
report-requires g c = few_over c.args.work.now c.requires
