use Rattle.std.proofs.Common.{false, not, ap, ◌∙◌}
use Rattle.std.specs.Option.{option_map_or}
use Rattle.pc_known.specs.Sends.{is_number_now}
use Rattle.pc_may_tell.proofs.PutBefore.{put_before}
use Rattle.pc_may_tell.proofs.data.was_put.Goals as goal

pub returns : goal.returns
returns c k keeps =
    let x = c.sends.result.now in
    c.is_before.ensures
    ∙ ap (λ o. option_map_or (λ number. not (is_number_now x number)) o false) (c.first_put.ensures k keeps)
    ∙ put_before k x (c.sends.ensures k keeps) c.args.id c.args.epoch c.args.seq
