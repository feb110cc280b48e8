use Rattle.std.proofs.Common.{◌≡◌, subst, sym}
use Rattle.pc_program.proofs.ExactVerdicts.{malformed_exactly, no_run_exactly, run_exactly}
use Rattle.pc_program.specs.Limits.{KeepsLimit, input_limit}
use Rattle.pc_words.specs.declared.Mode.TheVariants as modes
use Rattle.pc_program.proofs.top.pcommit.Goals as goal

pub returns-in-Ok-Some-Run-clause-limit : goal.returns-in-Ok-Some-Run-clause-limit
returns-in-Ok-Some-Run-clause-limit g c mode asked =
    let same : mode ≡ modes.Run = cc (c.in-Ok-Some-Run.ensures, asked) in
    subst (λ m. KeepsLimit (input_limit m) c.run_workload.result (g.S.Source.left c.args.source.now) (g.S.Source.left c.run_workload.new.source)) (sym same) (record {
      too_long = c.run_workload.ensures.too_long;
      too_long_by_one = c.run_workload.ensures.too_long_by_one;
      read_most = c.run_workload.ensures.read_most;
    })

pub returns-in-Ok-Some-Check-clause-limit : goal.returns-in-Ok-Some-Check-clause-limit
returns-in-Ok-Some-Check-clause-limit g c mode asked =
    let same : mode ≡ modes.Check = cc (c.in-Ok-Some-Check.ensures, asked) in
    subst (λ m. KeepsLimit (input_limit m) c.check_journal.result (g.S.Source.left c.args.source.now) (g.S.Source.left c.check_journal.new.source)) (sym same) (record {
      too_long = c.check_journal.ensures.too_long;
      too_long_by_one = c.check_journal.ensures.too_long_by_one;
      read_most = c.check_journal.ensures.read_most;
    })

pub returns-in-Ok-Some-Check-clause-check : goal.returns-in-Ok-Some-Check-clause-check
returns-in-Ok-Some-Check-clause-check g c asked = record {
  run = run_exactly c.check_journal.result (g.S.Source.left c.args.source.now) c.check_journal.ensures.kind c.check_journal.ensures.verdict;
  not_run = no_run_exactly c.check_journal.result (g.S.Source.left c.args.source.now) c.check_journal.ensures.kind c.check_journal.ensures.verdict;
  malformed = malformed_exactly c.check_journal.result (g.S.Source.left c.args.source.now) c.check_journal.ensures.kind c.check_journal.ensures.verdict;
  done = c.check_journal.ensures.done;
  part = c.check_journal.ensures.part;
  short = c.check_journal.ensures.short;
  kind = c.check_journal.ensures.kind;
}
