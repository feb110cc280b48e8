use Rattle.std.proofs.Common.{rules}
use Rattle.std.proofs.lemmas.Fn.{filter_same}
use Rattle.pc_own.proofs.flying.land.Goals as goal
use Rattle.pc_own.specs.Flying.{is_other_write}

pub returns : goal.returns
returns c =
    let test = is_other_write c.args.key.now c.args.seq in
    filter_same _ test _ (λ x b f' k. search rules) _ _ c.retain.ensures.filtered
