use Rattle.std.proofs.Common.{◌≡◌, ◌++◌, ◌∷◌, [], ap, subst, sym, ◌∙◌, List, None, rules}
use Rattle.pc_staging.proofs.Sending.{stage_stands}
use Rattle.pc_staging.specs.declared.stage_out.StageOut.{StageOut}
use Rattle.pc_staging.specs.Kept.{Evidence, with_stages}
use Rattle.pc_staging.specs.Standing.{StagingStands}
use Rattle.pc_world.specs.Known.Transactions.{txn_sent}
use Rattle.pc_world.specs.StageFate.{stage_request}
use Rattle.pc_staging.proofs.staging.Staging.sent_stage.Goals as goal

pub returns-clause-stands : goal.returns-clause-stands
returns-clause-stands c = λ k now stages commit t s st passed sends at.
    let old = c.args.self.now in
    let items : c.push.new.self.items ≡ c.self.inside.stages.items ++ record { ts = c.args.ts; refuted = None } ∷ [] = search rules in
    subst (λ (e : Evidence). StagingStands now (stages ++ s ∷ []) commit (txn_sent (stage_request s) t) e)
    (ap (λ n. with_stages (old.stages ++ record { ts = n; refuted = None } ∷ []) old) at
    ∙ sym (ap (λ (e : Evidence). with_stages (e.stages ++ record { ts = c.args.ts; refuted = None } ∷ []) e) c.self.view_is)
    ∙ sym (ap (λ (ss : List StageOut). record { stages = ss; staged = c.self.inside.staged; undecided = c.self.inside.undecided; commit = c.self.inside.commit }) items))
    (stage_stands k now stages commit t old s st passed sends)
