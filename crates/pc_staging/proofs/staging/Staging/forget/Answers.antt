use Rattle.std.proofs.Common.{◌≡◌, [], None, rules, subst, sym}
use Rattle.pc_staging.proofs.Sending.{forgets}
use Rattle.pc_staging.specs.Kept.{Evidence, without_stages}
use Rattle.pc_staging.specs.Standing.{StagingStands}
use Rattle.pc_staging.proofs.staging.Staging.forget.Goals as goal

pub returns-clause-stands : goal.returns-clause-stands
returns-clause-stands c = λ k stages commit t st over.
    let left : Evidence = record { stages = c.clear.new.self.items; staged = None; undecided = c.self.inside.undecided; commit = c.self.inside.commit } in
    let made : left ≡ without_stages c.args.self.now = search rules in
    subst (λ (e : Evidence). StagingStands k [] None t e) (sym made) (forgets k stages commit t c.args.self.now st over)
