use Rattle.std.proofs.Common.{◌≡◌, true, All, [], ◌∷◌, sym, ap, ◌∙◌, subst}
use Rattle.pc_call.proofs.ToSend.{all_to_send}
use Rattle.pc_call.proofs.Beginning.{abort_begins}
use Rattle.pc_call.specs.declared.purpose.Purpose.TheVariants as purposes
use Rattle.pc_call.specs.Serving.{InCall}
use Rattle.pc_txn.specs.Opened.{own_abort}
use Rattle.pc_wave.specs.Messages.{is_to_send, message_to_send}
use Rattle.pc_call.proofs.call.OpenCall.abort.Goals as goal

pub returns : goal.returns
returns c = record {
  made = c.in_ok-wave.ensures ∙ ap (λ r. message_to_send r ∷ []) c.in_ok-abort.ensures;
  unsent = subst (λ ms. All (λ m. is_to_send m ≡ true) ms) (sym (c.in_ok-wave.ensures ∙ ap (λ r. message_to_send r ∷ []) c.in_ok-abort.ensures)) (all_to_send (own_abort c.args.txn.now c.args.why c.args.anchor.now ∷ []));
  stands = λ set k later s fresh outbox suits call anchored.
      let x = c.args.txn.now in
      let e : c.in_ok-wave.wave ≡ message_to_send (own_abort x c.args.why c.args.anchor.now) ∷ [] = c.in_ok-wave.ensures ∙ ap (λ r. message_to_send r ∷ []) c.in_ok-abort.ensures in
      subst (λ now. InCall set k x (purposes.Abort c.args.why) now) (sym e)
      (abort_begins set k x s c.args.why fresh later outbox c.args.anchor.now call suits anchored);
}
