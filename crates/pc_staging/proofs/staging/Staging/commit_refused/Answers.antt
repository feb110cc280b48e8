use Rattle.std.proofs.Common.{◌≡◌, None, Some, rules, subst, sym}
use Rattle.pc_staging.proofs.Hears.{commit_refused}
use Rattle.pc_staging.specs.Kept.{Evidence, seen_undecided}
use Rattle.pc_staging.specs.Standing.{StagingStands}
use Rattle.pc_world.specs.Known.Transactions.{txn_heard}
use Rattle.pc_staging.proofs.staging.Staging.commit_refused.Goals as goal

pub returns-clause-stands : goal.returns-clause-stands
returns-clause-stands c = λ k now stages t d view h st hears unfinal at.
    let left : Evidence = record { stages = c.self.inside.stages.items; staged = c.self.inside.staged; undecided = c.self.inside.undecided; commit = None } in
    let made : left ≡ record (seen_undecided c.args.step c.args.self.now) { commit = None } = search rules in
    subst (λ (e : Evidence). StagingStands now stages None (txn_heard k.sent (Some h) t) e) (sym made)
    (commit_refused k now stages t c.args.self.now d st h view hears unfinal c.args.step at)
