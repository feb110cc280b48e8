use Rattle.std.proofs.Common.{◌≡◌, [], ◌∷◌, sym, ap, ◌∙◌, subst}
use Rattle.pc_call.proofs.Committing.{commit_begins}
use Rattle.pc_call.proofs.Outboxes.{commit_keeps}
use Rattle.pc_call.specs.declared.purpose.Purpose.TheVariants as purposes
use Rattle.pc_call.specs.Serving.{InCall}
use Rattle.pc_call.specs.Stages.{KeepsOutbox}
use Rattle.pc_txn.specs.Opened.{own_commit}
use Rattle.pc_wave.specs.Messages.{message_to_send}
use Rattle.pc_call.proofs.call.OpenCall.commit.Goals as goal

pub returns-clause-stands : goal.returns-clause-stands
returns-clause-stands c = λ set k later s commits is none outbox.
    let x = c.args.txn.now in
    let e : c.in_ok-wave.wave ≡ message_to_send (own_commit x c.args.anchor.now) ∷ [] = c.in_ok-wave.ensures ∙ ap (λ r. message_to_send r ∷ []) c.in_ok-commit.ensures in
    let f : c.in_ok-wave.wave ≡ message_to_send (own_commit x commits.on.commits.anchor) ∷ [] = e ∙ ap (λ a. message_to_send (own_commit x a) ∷ []) (sym is) in
    subst (λ now. InCall set k x (purposes.Commit c.args.refusals) now) (sym f)
    (commit_begins set c.args.refusals k x s commits later outbox none)

pub returns-clause-outbox : goal.returns-clause-outbox
returns-clause-outbox c = λ loses k later o.
    let x = c.args.txn.now in
    let e : c.in_ok-wave.wave ≡ message_to_send (own_commit x c.args.anchor.now) ∷ [] = c.in_ok-wave.ensures ∙ ap (λ r. message_to_send r ∷ []) c.in_ok-commit.ensures in
    subst (λ ms. KeepsOutbox loses k x later ms) (sym e) (commit_keeps k x later o c.args.anchor.now)
