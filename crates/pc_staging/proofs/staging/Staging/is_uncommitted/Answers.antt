use Rattle.std.proofs.Common.{◌≡◌, rules, sym, ◌∙◌}
use Rattle.pc_staging.proofs.Deciding.{in_doubt, over_all, over_yes}
use Rattle.pc_staging.specs.Kept.{is_over}
use Rattle.pc_staging.proofs.staging.Staging.is_uncommitted.Goals as goal

pub returns-then-is_none-clause-exactly : goal.returns-then-is_none-clause-exactly
returns-then-is_none-clause-exactly c = λ k stages commit t st.
    let made : c.are_dead.result ≡ is_over c.args.self.now = search rules in (
      (λ is. over_yes k stages commit t c.args.self.now st (sym made ∙ is)),
      (λ u. made ∙ over_all k stages commit t c.args.self.now st u),
    )

pub returns-then-is_none-clause-doubt : goal.returns-then-is_none-clause-doubt
returns-then-is_none-clause-doubt c = λ k stages commit t st is.
    let made : c.are_dead.result ≡ is_over c.args.self.now = search rules in
    in_doubt k stages commit t c.args.self.now st (sym made ∙ is)
