use Rattle.std.proofs.Common.{◌↔◌, IsTrue, sym, subst}
use Rattle.std.specs.Result.{IfOk}
use Rattle.pc_allow.proofs.allow.Allow.may_next.Goals as goal
use Rattle.pc_world.specs.MaySend.{MaySend}
use Rattle.pc_world.specs.MayTell.{MayTell}

pub returns-in-Ask : goal.returns-in-Ask
returns-in-Ask c head k cut keeps = rw c.in-Ask.is (c.may_ask.ensures k (c.calls.ensures k keeps))

pub returns-in-Send : goal.returns-in-Send
returns-in-Send c head k cut keeps =
    rw c.in-Send.is
    (subst (λ ss. IfOk c.may_send.result (λ may. IsTrue may ↔ MaySend ss c.args.self.now.actor k c.in-Send.number c.in-Send.range c.in-Send.request)) (sym cut) (c.may_send.ensures k keeps))

pub returns-in-Hear : goal.returns-in-Hear
returns-in-Hear c head k cut keeps = rw c.in-Hear.is (c.may_hear.ensures k (c.sends.ensures k keeps))

pub returns-in-Tell : goal.returns-in-Tell
returns-in-Tell c head k cut keeps =
    rw c.in-Tell.is (subst (λ ss. IfOk c.may_tell.result (λ may. IsTrue may ↔ MayTell ss c.args.self.now.actor k c.in-Tell.answer)) (sym cut) (c.may_tell.ensures k keeps))
