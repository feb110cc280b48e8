use Rattle.pc_threads_tests.proofs.Reporting.{few_over, run_over}
use Rattle.pc_threads_tests.proofs.outputs.printed.Goals as goal

pub report-requires-clause-few : goal.report-requires-clause-few
report-requires-clause-few g = few_over g.args.work.now g.requires.accepted

pub report-requires-clause-run : goal.report-requires-clause-run
report-requires-clause-run g = run_over g.args.work.now g.args.entries.now g.requires.run
