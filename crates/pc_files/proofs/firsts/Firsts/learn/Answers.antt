use Rattle.std.proofs.Common.{ap, ◌∙◌}
use Rattle.std.proofs.lemmas.Result.{on_ok_weaker}
use Rattle.std.specs.Option.{option_or}
use Rattle.pc_files.proofs.Noting.{first_after}
use Rattle.pc_files.proofs.firsts.Firsts.learn.Goals as goal
use Rattle.pc_files.specs.FirstPuts.{number_if}
use Rattle.pc_proto.specs.Requests.{is_put_of}

pub returns-in-Send : goal.returns-in-Send
returns-in-Send c sent are =
    rw c.in-Send.is
    (on_ok_weaker c.send.result
    (λ kept id epoch seq. kept id epoch seq
    ∙ ap (λ o. option_or o (number_if (is_put_of id epoch seq c.in-Send.request) c.in-Send.number)) (are id epoch seq)
    ∙ first_after id epoch seq sent (record { number = c.in-Send.number; range = c.in-Send.range; request = c.in-Send.request }))
    c.send.ensures)
