use Rattle.std.proofs.Common.{◌≡◌, sym, ◌∙◌}
use Rattle.pc_call.proofs.QueryBegins.{late_gives_up}
use Rattle.pc_call.proofs.call.OpenCall.is_live.Goals as goal

pub returns-clause-late : goal.returns-clause-late
returns-clause-late c = λ n set k holder blocked late. late_gives_up set k c.args.txn.now n c.args.self.now.wave holder blocked (sym c.is_live.ensures.made ∙ late)
