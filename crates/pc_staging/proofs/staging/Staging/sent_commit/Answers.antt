use Rattle.std.proofs.Common.{ap, subst, sym, ◌∙◌}
use Rattle.pc_staging.proofs.Sending.{commit_stands}
use Rattle.pc_staging.specs.Kept.{Evidence}
use Rattle.pc_staging.specs.Standing.{StagingStands}
use Rattle.std.proofs.Common.{Some}
use Rattle.pc_world.specs.Known.Transactions.{txn_sent}
use Rattle.pc_world.specs.StageFate.{commit_request}
use Rattle.pc_staging.proofs.staging.Staging.sent_commit.Goals as goal

pub returns-clause-stands : goal.returns-clause-stands
returns-clause-stands c = λ k now stages commit t d st passed sends at.
    subst (λ (e : Evidence). StagingStands now stages (Some d) (txn_sent (commit_request d) t) e)
    (ap (λ n. record c.args.self.now { commit = Some n }) at ∙ sym (ap (λ (e : Evidence). record e { commit = Some c.args.ts }) c.self.view_is))
    (commit_stands k now stages commit t c.args.self.now d st passed sends)
