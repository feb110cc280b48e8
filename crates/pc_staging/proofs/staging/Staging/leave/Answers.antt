use Rattle.std.proofs.Common.{◌≡◌, ◌==◌, Bool, not, List, None, filter, rules, ap, ◌∙◌}
use Rattle.std.proofs.lemmas.Fn.{filter_same}
use Rattle.pc_staging.specs.declared.stage_out.StageOut.{StageOut}
use Rattle.pc_staging.specs.Kept.{Evidence, without_stage}
use Rattle.pc_staging.proofs.staging.Staging.leave.Goals as goal

pub returns : goal.returns
returns c =
    let test : StageOut → Bool = λ o. not (o.ts == c.args.ts) in
    let kept : c.retain.new.self.items ≡ filter test c.self.inside.stages.items = filter_same _ test _ (λ x b f' k. search rules) _ _ c.retain.ensures.filtered in
    ap (λ (ss : List StageOut). record { stages = ss; staged = None; undecided = c.self.inside.undecided; commit = c.self.inside.commit }) kept
    ∙ ap (λ (e : Evidence). without_stage c.args.ts e) c.self.view_is
