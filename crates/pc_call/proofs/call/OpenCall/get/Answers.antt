use Rattle.std.proofs.Common.{◌≡◌, true, List, All, [], ◌∷◌, sym, ap, ◌∙◌, subst}
use Rattle.pc_call.proofs.ToSend.{all_to_send}
use Rattle.pc_call.proofs.Beginning.{get_begins}
use Rattle.pc_call.specs.declared.purpose.Purpose.TheVariants as purposes
use Rattle.pc_call.specs.declared.call.OpenCall.{OpenCall}
use Rattle.pc_call.specs.Serving.{InCall}
use Rattle.pc_wave.specs.declared.message.Message.{Message}
use Rattle.pc_txn.specs.Opened.{own_get}
use Rattle.pc_wave.specs.Messages.{is_to_send, message_to_send}
use Rattle.pc_call.proofs.call.OpenCall.get.Goals as goal

abbrev made_of : List Message → OpenCall
made_of ms = record { purpose = purposes.Read; wave = ms }

pub returns : goal.returns
returns c = record {
  made = ap (λ ms. made_of ms) (c.in_ok-wave.ensures ∙ ap (λ r. message_to_send r ∷ []) c.in_ok-get.ensures);
  unsent = subst (λ ms. All (λ m. is_to_send m ≡ true) ms) (sym (c.in_ok-wave.ensures ∙ ap (λ r. message_to_send r ∷ []) c.in_ok-get.ensures)) (all_to_send (own_get c.args.txn.now c.args.key.now ∷ []));
  stands = λ set k later s why fresh outbox suits call waits.
      let x = c.args.txn.now in
      let e : c.in_ok-wave.wave ≡ message_to_send (own_get x c.args.key.now) ∷ [] = c.in_ok-wave.ensures ∙ ap (λ r. message_to_send r ∷ []) c.in_ok-get.ensures in
      subst (λ now. InCall set k x purposes.Read now) (sym e)
      (get_begins set k x s why fresh later outbox c.args.key.now call suits waits);
}
