use Rattle.std.proofs.Common.{◌≡◌, ℕ, List, [], ◌∷◌}
use Rattle.std.proofs.lemmas.Result.{IfOk-weaker}
use Rattle.pc_call.specs.declared.call.OpenCall.{OpenCall}
use Rattle.pc_txn.specs.Opened.{own_abort}
use Rattle.pc_wave.specs.Messages.{message_to_send}
use Rattle.pc_coord.proofs.asking.abort_of.Goals as goal

pub returns-in-Some : goal.returns-in-Some
returns-in-Some c = record {
  unsent = c.abort.ensures.unsent;
  made =
      IfOk-weaker c.abort.result (λ (call : OpenCall). call.wave ≡ message_to_send (own_abort c.args.txn.now c.args.why c.in-Some.anchor) ∷ [])
      (λ call. (anchor : List ℕ) × (call.wave ≡ message_to_send (own_abort c.args.txn.now c.args.why anchor) ∷ [])) (λ call is. (c.in-Some.anchor, is)) c.abort.ensures.made;
  stands = λ set k later s outbox fresh suits is. c.abort.ensures.stands set k later s fresh outbox suits is c.in-Some.is;
}
