use Rattle.std.proofs.Common.{◌≡◌, rules, sym, ◌∙◌}
use Rattle.pc_staging.proofs.Deciding.{implicit}
use Rattle.pc_staging.specs.Kept.{is_staged_and_proved}
use Rattle.pc_staging.proofs.staging.Staging.is_committed.Goals as goal

pub returns-then-is_empty-clause-implicit : goal.returns-then-is_empty-clause-implicit
returns-then-is_empty-clause-implicit c = λ k stages commit t st f at is.
    let made : c.is_some_and.result ≡ is_staged_and_proved c.args.flight.now c.args.write_ts c.args.self.now = search rules in
    implicit k stages commit t c.args.self.now st c.args.flight.now c.args.write_ts f at (sym made ∙ is)
