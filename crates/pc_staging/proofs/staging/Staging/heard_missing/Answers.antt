use Rattle.std.proofs.Common.{map, ap, subst, sym, ◌∙◌, Some}
use Rattle.pc_staging.proofs.Hears.{missing_heard}
use Rattle.pc_staging.specs.Kept.{Evidence, refuted_at, with_stages}
use Rattle.pc_staging.specs.Standing.{StagingStands}
use Rattle.pc_world.specs.Known.Transactions.{txn_heard}
use Rattle.pc_staging.proofs.staging.Staging.heard_missing.Goals as goal

pub returns-clause-stands : goal.returns-clause-stands
returns-clause-stands c = λ k now stages commit t h st hears at.
    subst (λ (e : Evidence). StagingStands now stages commit (txn_heard k.sent (Some h) t) e)
    (ap (λ n. with_stages (map (refuted_at c.args.ts n) c.args.self.now.stages) c.args.self.now) at ∙ sym c.refute_at.ensures)
    (missing_heard k now stages commit t c.args.self.now st h c.args.ts hears)
