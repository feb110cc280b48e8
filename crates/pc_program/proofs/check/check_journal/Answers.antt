use Rattle.std.proofs.Common.{◌≡◌}
use Rattle.pc_io.specs.Reading.{TakesExactly}
use Rattle.pc_program.specs.declared.status.Status.TheVariants as statuses
use Rattle.pc_program.proofs.Ends.{neither_long}
use Rattle.pc_program.proofs.check.check_journal.Goals as goal

pub returns-in-Run-clause-too_long : goal.returns-in-Run-clause-too_long
returns-in-Run-clause-too_long g c =
    neither_long (g.S.Source.left c.args.source.now) (λ left. TakesExactly 268435457 left (g.S.Source.left c.check.new.source)) _ (statuses.Done ≡ statuses.TooLong 268435457)
    c.check.ensures.too_long (λ e. cc) (λ e. cc)

pub returns-in-WriteFault-clause-too_long : goal.returns-in-WriteFault-clause-too_long
returns-in-WriteFault-clause-too_long g c =
    neither_long (g.S.Source.left c.args.source.now) (λ left. TakesExactly 268435457 left (g.S.Source.left c.check.new.source)) _ (statuses.WriteFault c.in-WriteFault.written ≡ statuses.TooLong 268435457)
    c.check.ensures.too_long (λ e. cc) (λ e. cc)
