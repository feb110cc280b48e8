use Rattle.std.proofs.Common.{◌≡◌, true, map, All, sym, ap, ◌∙◌, subst}
use Rattle.pc_call.proofs.Committing.{refresh_begins}
use Rattle.pc_call.proofs.Outboxes.{refreshes_keep}
use Rattle.pc_call.proofs.ToSend.{all_to_send}
use Rattle.pc_call.specs.Stages.{KeepsOutbox}
use Rattle.pc_call.specs.declared.purpose.Purpose.TheVariants as purposes
use Rattle.pc_call.specs.Serving.{InCall}
use Rattle.pc_reads.specs.ReadsStanding.{refresh_to}
use Rattle.pc_wave.specs.Messages.{is_to_send, message_to_send}
use Rattle.pc_call.proofs.call.OpenCall.refresh.Goals as goal

pub returns-clause-stands : goal.returns-clause-stands
returns-clause-stands c = λ set k later t s goes_on behind suits outbox.
    let x = c.args.txn.now in
    let e : c.in_ok-wave.wave ≡ map message_to_send (map (refresh_to x.id x.reads.ts x.write_ts) x.reads.spans) = c.in_ok-wave.ensures ∙ ap (map message_to_send) c.in_ok-requests.ensures.made in
    subst (λ now. InCall set k x (purposes.Refresh c.args.refusals c.args.puts) now) (sym e)
    (refresh_begins set c.args.refusals k t x s c.args.puts goes_on behind later outbox suits)

pub returns-clause-made : goal.returns-clause-made
returns-clause-made c = c.in_ok-wave.ensures ∙ ap (map message_to_send) c.in_ok-requests.ensures.made

pub returns-clause-unsent : goal.returns-clause-unsent
returns-clause-unsent c = subst (λ ms. All (λ m. is_to_send m ≡ true) ms) (sym c.in_ok-wave.ensures) (all_to_send c.in_ok-requests.requests.items)

pub returns-clause-outbox : goal.returns-clause-outbox
returns-clause-outbox c = λ loses k later o.
    let x = c.args.txn.now in
    let e : c.in_ok-wave.wave ≡ map message_to_send (map (refresh_to x.id x.reads.ts x.write_ts) x.reads.spans) = c.in_ok-wave.ensures ∙ ap (map message_to_send) c.in_ok-requests.ensures.made in
    subst (λ ms. KeepsOutbox loses k x later ms) (sym e) (refreshes_keep k x later o)
