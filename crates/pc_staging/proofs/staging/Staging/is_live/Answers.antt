use Rattle.std.proofs.Common.{sym, ◌∙◌}
use Rattle.pc_staging.proofs.Deciding.{live_kept, live_stage}
use Rattle.pc_staging.proofs.staging.Staging.is_live.Goals as goal

pub returns-clause-exactly : goal.returns-clause-exactly
returns-clause-exactly c = λ k stages commit t s st there at. (
  (λ is late. live_stage k stages commit t c.args.self.now st c.args.ts (sym c.has_live.ensures ∙ is) s there at late),
  (λ unlate. c.has_live.ensures ∙ live_kept k stages commit t c.args.self.now st c.args.ts s there at unlate),
)
