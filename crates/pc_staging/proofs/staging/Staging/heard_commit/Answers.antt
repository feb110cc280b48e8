use Rattle.std.proofs.Common.{◌≡◌, rules}
use Rattle.pc_staging.proofs.Hears.{commit_heard}
use Rattle.pc_staging.specs.Kept.{after_commit}
use Rattle.pc_staging.proofs.staging.Staging.heard_commit.Goals as goal

pub returns-then-not-is_final-clause-stands : goal.returns-then-not-is_final-clause-stands
returns-then-not-is_final-clause-stands c = λ k now stages t d h st hears at.
    let made : c.commit_refused.new.self ≡ after_commit c.args.step c.args.view.now c.args.self.now = search rules in
    commit_heard k now stages t c.args.self.now d st h c.args.view.now hears c.args.step c.commit_refused.new.self at made

pub returns-else-not-is_final-clause-stands : goal.returns-else-not-is_final-clause-stands
returns-else-not-is_final-clause-stands c = λ k now stages t d h st hears at.
    let made : c.args.self.now ≡ after_commit c.args.step c.args.view.now c.args.self.now = search rules in
    commit_heard k now stages t c.args.self.now d st h c.args.view.now hears c.args.step c.args.self.now at made
