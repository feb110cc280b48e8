use Rattle.std.proofs.Common.{◌<◌, ◌^◌, rules}
use Rattle.pc_work.proofs.Opening.{opening_fits}
use Rattle.pc_work.proofs.workload.work_of.Goals as goal

pub overflow_cast-result : goal.overflow_cast-result
overflow_cast-result c =
    let fits : c.args.stated.opening < 2 ^ 32 = opening_fits c.args.stated c.requires in
    search rules
