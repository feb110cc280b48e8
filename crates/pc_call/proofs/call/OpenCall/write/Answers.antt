use Rattle.std.proofs.Common.{◌≡◌, [], ◌∷◌, sym, ap, ◌∙◌, subst}
use Rattle.pc_call.proofs.Beginning.{write_begins}
use Rattle.pc_call.specs.declared.purpose.Purpose.TheVariants as purposes
use Rattle.pc_call.specs.Serving.{InCall}
use Rattle.pc_txn.specs.Opened.{next_put}
use Rattle.pc_wave.specs.Messages.{message_to_send}
use Rattle.pc_call.proofs.call.OpenCall.write.Goals as goal

pub returns-clause-stands : goal.returns-clause-stands
returns-clause-stands c = λ set k later s why fresh outbox suits call waits.
    let x = c.args.txn.now in
    let e : c.in_ok-wave.wave ≡ message_to_send (next_put x c.args.key.now c.args.value.now) ∷ [] = c.in_ok-wave.ensures ∙ ap (λ r. message_to_send r ∷ []) c.in_ok-next_put.ensures in
    subst (λ now. InCall set k x purposes.Write now) (sym e)
    (write_begins set k x s why fresh c.args.key.now c.args.value.now call suits waits)
