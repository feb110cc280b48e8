use Rattle.std.proofs.Common.{refl}
use Rattle.pc_files.proofs.uncommitted.Uncommitted.learn.Goals as goal

pub returns-in-Send : goal.returns-in-Send
returns-in-Send c sent heard filed replies are =
    rw c.in-Send.is (c.send.ensures sent heard (record { number = c.in-Send.number; range = c.in-Send.range; request = c.in-Send.request }) filed replies are refl)
