use Rattle.std.proofs.Common.{◌≡◌, [], IfNone, IfSome, subst, ◌∙◌}
use Rattle.std.proofs.lemmas.Result.{err_from_is_err_and}
use Rattle.pc_desk.proofs.InCall.{open_in_call}
use Rattle.pc_desk.specs.Desk.{HasHeardFirst}
use Rattle.pc_recoverer.proofs.Exchanging.{ends_delivered, ends_sent, has_reply, may_hear_it, was_exchanged}
use Rattle.pc_recoverer.proofs.message.hear_reply.Goals as goal

pub hear-requires-clause-may : goal.hear-requires-clause-may
hear-requires-clause-may g c =
    let r = c.requires in
    may_hear_it r.before c.args.desk.now c.deliver.new.self r.request r.number r.back r.sent c.in_ok-deliver.ensures.ok c.in_ok-deliver.ensures.all r.client

pub deliver-requires-clause-none_waits : goal.deliver-requires-clause-none_waits
deliver-requires-clause-none_waits g c = c.requires.sent.replies ∙ c.requires.back.replies

pub deliver-requires-clause-in_call : goal.deliver-requires-clause-in_call
deliver-requires-clause-in_call g c = open_in_call c.args.desk.now c.requires.opened

pub hear-requires-clause-none_waits : goal.hear-requires-clause-none_waits
hear-requires-clause-none_waits g c = c.in_ok-deliver.ensures.all

pub unreachable-requires : goal.unreachable-requires
unreachable-requires g c =
    let r = c.requires in
    has_reply r.before c.args.desk.now c.deliver.new.self r.request r.number r.back r.sent c.in_ok-deliver.ensures.ok c.in_ok-deliver.ensures.all
    (subst (λ heard. IfNone heard ((c.deliver.new.self.replies ≡ []) × (c.hear.new.self ≡ c.deliver.new.self))) c.in-None.is c.in_ok-heard.ensures.none).0

pub returns-clause-ok : goal.returns-clause-ok
returns-clause-ok g c = λ before request number sent back.
    was_exchanged before c.args.desk.now c.deliver.new.self request number back sent c.in_ok-deliver.ensures.ok c.in_ok-deliver.ensures.all c.hear.new.self c.in-Some.answered
    (subst (λ heard. IfSome heard (HasHeardFirst c.deliver.new.self c.hear.new.self)) c.in-Some.is c.in_ok-heard.ensures.ok)

pub returns-in_err-deliver-clause-ended : goal.returns-in_err-deliver-clause-ended
returns-in_err-deliver-clause-ended g c =
    let p = err_from_is_err_and c.from_residual.result c.from_residual.ensures.1 in
    λ before request number sent. rw (p.1, p.2) (ends_sent before c.args.desk.now c.deliver.new.self request number c.in_err-deliver.field-0.0 sent c.in_err-deliver.ensures.ended)

pub returns-in_err-heard-clause-ended : goal.returns-in_err-heard-clause-ended
returns-in_err-heard-clause-ended g c =
    let p = err_from_is_err_and c.from_residual-in_err-heard.result c.from_residual-in_err-heard.ensures.1 in
    λ before request number sent. rw (p.1, p.2) (ends_delivered before c.args.desk.now c.hear.new.self request number c.in_err-heard.field-0.0 sent c.deliver.new.self c.in_ok-deliver.ensures.ok c.in_err-heard.ensures.ended)
