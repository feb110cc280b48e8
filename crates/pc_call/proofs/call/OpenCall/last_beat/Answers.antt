use Rattle.std.proofs.Common.{◌≡◌, [], ◌∷◌, sym, ap, ◌∙◌, subst}
use Rattle.pc_call.proofs.LastBeats.{last_beat_begins}
use Rattle.pc_call.specs.declared.purpose.Purpose.TheVariants as purposes
use Rattle.pc_call.specs.Serving.{InCall}
use Rattle.pc_txn.specs.Silence.{own_beat}
use Rattle.pc_wave.specs.Messages.{message_to_send}
use Rattle.pc_call.proofs.call.OpenCall.last_beat.Goals as goal

pub returns-clause-stands : goal.returns-clause-stands
returns-clause-stands c = λ set k s gives_up opened read anchored not_over suits.
    let x = c.args.txn.now in
    let e : c.in_ok-wave.wave ≡ message_to_send (own_beat x c.args.reading c.args.anchor.now) ∷ [] = c.in_ok-wave.ensures ∙ ap (λ r. message_to_send r ∷ []) c.in_ok-beat.ensures in
    subst (λ now. InCall set k x (purposes.LastBeat c.args.then c.args.reading) now) (sym e)
    (last_beat_begins set k x c.args.then gives_up s c.args.reading c.args.anchor.now opened read anchored not_over suits)

pub returns-clause-made : goal.returns-clause-made
returns-clause-made c = c.in_ok-wave.ensures ∙ ap (λ r. message_to_send r ∷ []) c.in_ok-beat.ensures
