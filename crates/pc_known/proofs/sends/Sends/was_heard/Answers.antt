use Rattle.std.proofs.Common.{arith}
use Rattle.pc_known.proofs.Marked.{heard_at, none_heard}
use Rattle.pc_known.proofs.sends.Sends.was_heard.Goals as goal

pub returns-in-None : goal.returns-in-None
returns-in-None c k keeps = none_heard k c.args.self.now c.args.number keeps (omega (arith, c.in-None.ensures))

pub returns-in-Some : goal.returns-in-Some
returns-in-Some c k keeps =
    heard_at k c.args.self.now c.args.number c.in-Some.place c.is_marked.result keeps (omega (arith, c.in-Some.ensures)) c.is_marked.ensures
