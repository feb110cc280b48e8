use Rattle.std.proofs.Common.{◌≡◌, [], ◌∷◌, sym, ap, ◌∙◌, subst}
use Rattle.pc_call.proofs.Heartbeats.{beat_begins}
use Rattle.pc_call.specs.declared.purpose.Purpose.TheVariants as purposes
use Rattle.pc_call.specs.Serving.{InCall}
use Rattle.pc_txn.specs.Silence.{own_beat}
use Rattle.pc_wave.specs.Messages.{message_to_send}
use Rattle.pc_call.proofs.call.OpenCall.beat.Goals as goal

pub returns-clause-stands : goal.returns-clause-stands
returns-clause-stands c = λ set k later why o asked asks suits silent anchored.
    let x = c.args.txn.now in
    let e : c.in_ok-wave.wave ≡ message_to_send (own_beat x c.args.reading c.args.anchor.now) ∷ [] = c.in_ok-wave.ensures ∙ ap (λ r. message_to_send r ∷ []) c.in_ok-beat.ensures in
    subst (λ now. InCall set k x (purposes.Beat c.args.call c.args.reading) now) (sym e)
    (beat_begins k x c.args.call c.args.reading why asked set c.args.anchor.now later o asks suits silent anchored)
