use Rattle.std.proofs.Common.{◌≡◌, ◌&&◌, true, length, sym, ◌∙◌, ap}
use Rattle.std.proofs.lemmas.Bool.{le-ltb, lt-ltb}
use lib.Dec.{leb, ltb}
use Rattle.pc_known.proofs.Marked.{number_now, sent_now_out}
use Rattle.pc_known.proofs.sends.Sends.was_sent_now.Goals as goal

pub returns-then-self-number-clause-now : goal.returns-then-self-number-clause-now
returns-then-self-number-clause-now c =
    let low : ltb c.args.self.now.before c.args.number ≡ true = lt-ltb c.args.self.now.before c.args.number c.if-self-number.true in
    ap (λ ms. leb c.args.number (length ms)) c.as_slice.ensures.value ∙ sym (ap (λ b. b && leb c.args.number (length c.args.self.now.messages.items)) low)

pub returns-then-self-number-clause-known : goal.returns-then-self-number-clause-known
returns-then-self-number-clause-known c k keeps =
    let low : ltb c.args.self.now.before c.args.number ≡ true = lt-ltb c.args.self.now.before c.args.number c.if-self-number.true in
    ap (λ ms. leb c.args.number (length ms)) c.as_slice.ensures.value ∙ sym (ap (λ b. b && leb c.args.number (length c.args.self.now.messages.items)) low)
    ∙ number_now k c.args.self.now c.args.number keeps

pub returns-else-self-number-clause-known : goal.returns-else-self-number-clause-known
returns-else-self-number-clause-known c k keeps =
    le-ltb c.args.self.now.before c.args.number c.if-self-number.false ∙ sym (sent_now_out k c.args.self.now c.args.number keeps c.if-self-number.false)
