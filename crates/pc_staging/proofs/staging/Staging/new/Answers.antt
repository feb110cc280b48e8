use Rattle.std.proofs.Common.{◌≡◌, [], ap, subst, sym, List, None, rules}
use Rattle.pc_staging.proofs.Sending.{nothing_stands}
use Rattle.pc_staging.specs.declared.stage_out.StageOut.{StageOut}
use Rattle.pc_staging.specs.Kept.{Evidence}
use Rattle.pc_staging.specs.Standing.{StagingStands}
use Rattle.pc_staging.proofs.staging.Staging.new.Goals as goal

pub returns-clause-stands : goal.returns-clause-stands
returns-clause-stands c = λ k t none.
    let items : c.new.result.items ≡ [] = search rules in
    subst (λ (e : Evidence). StagingStands k [] None t e) (sym (ap (λ (ss : List StageOut). record { stages = ss; staged = None; undecided = None; commit = None }) items)) (nothing_stands k t none)
