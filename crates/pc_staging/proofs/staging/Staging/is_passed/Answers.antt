use Rattle.std.proofs.Common.{◌≡◌, rules, sym, ◌∙◌}
use Rattle.pc_staging.proofs.Deciding.{passed_all, passed_yes}
use Rattle.pc_staging.specs.Kept.{is_passed_by}
use Rattle.pc_staging.proofs.staging.Staging.is_passed.Goals as goal

pub returns-then-is_none-clause-exactly : goal.returns-then-is_none-clause-exactly
returns-then-is_none-clause-exactly c = λ k stages commit t st.
    let made : c.are_late.result ≡ is_passed_by c.args.self.now = search rules in (
      (λ is. passed_yes k stages commit t c.args.self.now st (sym made ∙ is)),
      (λ p. made ∙ passed_all k stages commit t c.args.self.now st p),
    )
