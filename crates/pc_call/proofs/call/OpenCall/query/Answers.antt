use Rattle.std.proofs.Common.{◌≡◌, [], ◌∷◌, Some, refl, sym, ap, ◌∙◌, subst}
use Rattle.pc_call.proofs.QueryBegins.{query_begins, same_refusals}
use Rattle.pc_call.proofs.Takes.{asked_query}
use Rattle.pc_call.specs.declared.purpose.Purpose.TheVariants as purposes
use Rattle.pc_call.specs.Queries.{query_of_blocked}
use Rattle.pc_call.specs.Serving.{InCall}
use Rattle.pc_wave.specs.Messages.{message_to_send}
use Rattle.pc_call.proofs.call.OpenCall.query.Goals as goal

pub returns-in-Stage-clause-stands : goal.returns-in-Stage-clause-stands
returns-in-Stage-clause-stands c = λ n set k later blocked outbox stages live.
    let x = c.args.txn.now in
    let ms = c.args.self.wave in
    let same : n ≡ c.in-Stage.refusals = same_refusals c.args.self.purpose n c.in-Stage.refusals stages c.in-Stage.is in
    let asked : Some c.in_ok-request.request ≡ query_of_blocked ms x = c.in_ok-request.ensures ∙ ap (λ messages. query_of_blocked messages x) c.messages.ensures in
    subst (λ now. InCall set k x (purposes.Query c.in-Stage.refusals c.args.holder ms) now) (sym c.in_ok-asking.ensures)
    (subst (λ refusals. InCall set k x (purposes.Query refusals c.args.holder ms) (message_to_send c.in_ok-request.request ∷ [])) same
    (query_begins set k x n ms c.args.holder blocked c.in_ok-request.request asked live later outbox))

pub returns-in-Stage-clause-purpose : goal.returns-in-Stage-clause-purpose
returns-in-Stage-clause-purpose c = (c.in-Stage.refusals, refl)

pub returns-in-Stage-clause-asks : goal.returns-in-Stage-clause-asks
returns-in-Stage-clause-asks c =
    let x = c.args.txn.now in
    let asked : Some c.in_ok-request.request ≡ query_of_blocked c.args.self.wave x = c.in_ok-request.ensures ∙ ap (λ messages. query_of_blocked messages x) c.messages.ensures in
    let a = asked_query c.args.self.wave x c.in_ok-request.request asked in
    (a.0, a.1, c.in_ok-asking.ensures ∙ ap (λ r. message_to_send r ∷ []) a.2)
