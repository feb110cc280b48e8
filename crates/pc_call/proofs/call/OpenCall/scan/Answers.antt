use Rattle.std.proofs.Common.{◌≡◌, true, List, All, sym, ap, ◌∙◌, subst}
use Rattle.pc_base.specs.Rising.{AreRising}
use Rattle.pc_call.proofs.ToSend.{scans_to_send}
use Rattle.pc_call.proofs.Beginning.{scan_begins}
use Rattle.pc_call.specs.declared.purpose.Purpose.TheVariants as purposes
use Rattle.pc_call.specs.declared.call.OpenCall.{OpenCall}
use Rattle.pc_call.specs.Serving.{InCall}
use Rattle.pc_wave.specs.declared.message.Message.{Message}
use Rattle.pc_call.specs.Pieces.{scan_messages, spans_in}
use Rattle.pc_wave.specs.Messages.{is_to_send}
use Rattle.pc_call.proofs.call.OpenCall.scan.Goals as goal

abbrev made_of : List Message → OpenCall
made_of ms = record { purpose = purposes.Read; wave = ms }

pub returns : goal.returns
returns c = record {
  made = ap (λ ms. made_of ms) c.in_ok-wave.ensures;
  unsent = subst (λ ms. All (λ m. is_to_send m ≡ true) ms) (sym (c.in_ok-wave.ensures)) (scans_to_send c.args.txn.now (spans_in c.args.splits.now c.args.span.now));
  stands = λ set k later s why is rising fresh outbox suits call waits.
      let x = c.args.txn.now in
      let e : c.in_ok-wave.wave ≡ scan_messages x (spans_in c.args.splits.now c.args.span.now) = c.in_ok-wave.ensures in
      subst (λ now. InCall set k x purposes.Read now) (sym (e ∙ ap (λ splits. scan_messages x (spans_in splits c.args.span.now)) (sym is)))
      (scan_begins set k x s why fresh later outbox c.args.span.now (subst AreRising (sym is) rising) call suits waits);
}
