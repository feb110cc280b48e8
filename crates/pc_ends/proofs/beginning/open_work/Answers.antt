use Rattle.std.proofs.Common.{◌≡◌, IfOk, subst}
use Rattle.pc_closing.specs.Opening.{opener_of}
use Rattle.pc_ends.proofs.beginning.open_work.Goals as goal

pub returns-clause-opener : goal.returns-clause-opener
returns-clause-opener g c = subst (λ w. IfOk c.open.result (λ o. o.opener ≡ opener_of w)) c.requires.world c.open.ensures.opener
