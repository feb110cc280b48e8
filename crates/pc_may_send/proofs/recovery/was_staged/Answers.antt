use Rattle.std.proofs.Common.{ap, ◌∙◌}
use Rattle.pc_files.proofs.Views.{has_staged_of}
use Rattle.pc_may_send.proofs.recovery.was_staged.Goals as goal
use Rattle.pc_world.specs.Known.Transactions.{has_staged}

pub returns : goal.returns
returns c k keeps =
    c.has_staged.ensures
    ∙ ap (λ ms. has_staged ms c.args.id c.args.epoch c.args.ts c.args.key.now c.args.seq) (c.deciding.ensures k keeps)
    ∙ has_staged_of c.args.id k.sent c.args.epoch c.args.ts c.args.key.now c.args.seq
