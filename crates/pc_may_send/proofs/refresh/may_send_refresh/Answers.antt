use Rattle.std.proofs.Common.{sym}
use Rattle.pc_known.proofs.Exact.{both}
use Rattle.pc_may_send.proofs.Existing.{refresh_in}
use Rattle.pc_may_send.proofs.refresh.may_send_refresh.Goals as goal

pub returns-in-Some : goal.returns-in-Some
returns-in-Some c k keeps =
    let opened = sym (c.in-Some.ensures k keeps) in
    both (c.is_refresh_in.ensures k keeps opened) (refresh_in k c.in-Some.t.now opened c.args.id c.args.from c.args.to c.args.span.now)
