use Rattle.std.proofs.Common.{map, ap, subst, sym, ◌∙◌, Some}
use Rattle.pc_staging.proofs.Hears.{written_heard}
use Rattle.pc_staging.specs.Kept.{Evidence, refuted_above, with_stages}
use Rattle.pc_staging.specs.Standing.{StagingStands}
use Rattle.pc_world.specs.Known.Transactions.{txn_heard}
use Rattle.pc_staging.proofs.staging.Staging.heard_written.Goals as goal

pub returns-clause-stands : goal.returns-clause-stands
returns-clause-stands c = λ k now stages commit t h st hears at.
    subst (λ (e : Evidence). StagingStands now stages commit (txn_heard k.sent (Some h) t) e)
    (ap (λ n. with_stages (map (refuted_above c.args.ts n) c.args.self.now.stages) c.args.self.now) at ∙ sym c.refute_below.ensures)
    (written_heard k now stages commit t c.args.self.now st h c.args.ts hears)
