use Rattle.std.proofs.Common.{sym, subst}
use Rattle.pc_call.proofs.Joined.{call_heard}
use Rattle.pc_call.proofs.Waves.{in_one_wave}
use Rattle.pc_call.specs.Learned.{known_heard}
use Rattle.pc_call.specs.Serving.{InCall}
use Rattle.pc_call.proofs.call.OpenCall.heard.Goals as goal

pub returns-clause-stands : goal.returns-clause-stands
returns-clause-stands c = λ session clock begun set k x h counted w waited is on sent.
    subst (λ now. InCall set (known_heard h k) x c.args.self.now.purpose now) (sym c.heard.ensures.made)
    (call_heard session clock begun set k x c.args.self.now.purpose c.args.self.now.wave counted w c.args.number c.args.reply h waited is on sent)

pub returns-clause-awaited : goal.returns-clause-awaited
returns-clause-awaited c = λ set k x other w waited. c.heard.ensures.awaited set.course k other w.wave waited

pub returns-clause-one_wave : goal.returns-clause-one_wave
returns-clause-one_wave c = λ session clock begun set k x later h counted w outbox out waited is.
    in_one_wave session clock begun set k x c.args.self.now.purpose c.args.self.now.wave counted w out later outbox c.args.number c.args.reply h waited is
