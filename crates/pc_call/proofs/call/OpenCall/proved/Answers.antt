use Rattle.std.proofs.Common.{◌≡◌, ap, sym, ◌∙◌, subst}
use Rattle.pc_call.proofs.Joined.{write_proved}
use Rattle.pc_call.specs.Ended.{landed_awaited}
use Rattle.pc_call.specs.Learned.{known_heard}
use Rattle.pc_call.specs.Serving.{InCall}
use Rattle.pc_wave.specs.Messages.{awaits_at, back_with, first_changed}
use Rattle.pc_call.proofs.call.OpenCall.proved.Goals as goal

pub returns-clause-stands : goal.returns-clause-stands
returns-clause-stands c = λ session clock begun set k h counted w may waited is written above at whole.
    let x = c.args.txn.now in
    let ms = c.args.self.now.wave in
    let p = c.args.self.now.purpose in
    let made = c.land_awaited.ensures ∙ ap (λ ms. landed_awaited c.args.number ms c.args.ts c.args.step x) c.messages.ensures ∙ ap (λ step. landed_awaited c.args.number ms c.args.ts step x) (sym at) in
    subst (λ ms. InCall set (known_heard h k) c.land_awaited.new.txn p ms) (sym c.heard.ensures.made)
    (subst (λ y. InCall set (known_heard h k) y p (first_changed (awaits_at c.args.number) (back_with c.args.number c.args.reply) ms)) (sym made)
    (write_proved session clock begun set k x p ms counted w c.args.number c.args.reply h waited is c.args.ts may written above whole))

pub returns-clause-awaited : goal.returns-clause-awaited
returns-clause-awaited c = λ set k x other w waited. c.heard.ensures.awaited set.course k other w.wave waited
