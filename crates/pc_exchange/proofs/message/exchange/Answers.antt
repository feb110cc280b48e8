use Rattle.std.proofs.Common.{◌≡◌, ℕ, [], IfNone, IfSome, subst, ◌∙◌}
use Rattle.std.proofs.lemmas.Result.{err_from_is_err_and}
use Rattle.pc_desk.proofs.InCall.{one_in_call}
use Rattle.pc_desk.specs.Desk.{HasHeardFirst}
use Rattle.pc_exchange.proofs.Ending.{only_breaks, sends_within}
use Rattle.pc_exchange.proofs.Exchanging.{ends_delivered, ends_sent, has_reply, may_hear_it, was_exchanged}
use Rattle.pc_proto.specs.declared.event.Event.TheVariants as events
use Rattle.pc_exchange.proofs.message.exchange.Goals as goal

pub hear-requires-clause-may : goal.hear-requires-clause-may
hear-requires-clause-may g c = may_hear_it c.args.desk.now c.send.new.self c.deliver.new.self c.args.request _ c.requires c.in_ok-send.ensures.ok c.in_ok-deliver.ensures.ok c.in_ok-deliver.ensures.all

pub send-requires-clause-none_waits : goal.send-requires-clause-none_waits
send-requires-clause-none_waits g c = c.requires.back.replies

pub deliver-requires-clause-none_waits : goal.deliver-requires-clause-none_waits
deliver-requires-clause-none_waits g c = c.in_ok-send.ensures.ok.replies ∙ c.requires.back.replies

pub deliver-requires-clause-in_call : goal.deliver-requires-clause-in_call
deliver-requires-clause-in_call g c = one_in_call c.args.desk.now c.send.new.self _ c.args.request c.in_ok-send.ensures.ok c.requires.back.track c.requires.back.posted c.requires.back.replies c.requires.no_put

pub hear-requires-clause-none_waits : goal.hear-requires-clause-none_waits
hear-requires-clause-none_waits g c = c.in_ok-deliver.ensures.all

pub unreachable-requires : goal.unreachable-requires
unreachable-requires g c =
    has_reply c.args.desk.now c.send.new.self c.deliver.new.self c.args.request _ c.requires c.in_ok-send.ensures.ok c.in_ok-deliver.ensures.ok c.in_ok-deliver.ensures.all
    (subst (λ heard. IfNone heard ((c.deliver.new.self.replies ≡ []) × (c.hear.new.self ≡ c.deliver.new.self))) c.in-None.is c.in_ok-heard.ensures.none).0

pub returns-clause-ok : goal.returns-clause-ok
returns-clause-ok g c =
    was_exchanged c.args.desk.now c.send.new.self c.deliver.new.self c.args.request _ c.requires c.in_ok-send.ensures.ok c.in_ok-deliver.ensures.ok c.in_ok-deliver.ensures.all c.hear.new.self c.in-Some.answered
    (subst (λ heard. IfSome heard (HasHeardFirst c.deliver.new.self c.hear.new.self)) c.in-Some.is c.in_ok-heard.ensures.ok)

pub returns-in_err-send-clause-ended : goal.returns-in_err-send-clause-ended
returns-in_err-send-clause-ended g c =
    let p = err_from_is_err_and c.from_residual.result c.from_residual.ensures.1 in
    rw (p.1, p.2)
    (only_breaks (λ made. (number : ℕ) × (range : ℕ) × (made ≡ events.Send number range c.args.request)) c.args.desk.now c.send.new.self c.in_err-send.field-0.0 c.requires.back.track (sends_within c.args.request) c.in_err-send.ensures.ended)

pub returns-in_err-deliver-clause-ended : goal.returns-in_err-deliver-clause-ended
returns-in_err-deliver-clause-ended g c =
    let p = err_from_is_err_and c.from_residual-in_err-deliver.result c.from_residual-in_err-deliver.ensures.1 in
    rw (p.1, p.2) (ends_sent c.args.desk.now c.send.new.self c.args.request _ c.in_ok-send.ensures.ok c.deliver.new.self c.in_err-deliver.field-0.0 c.in_err-deliver.ensures.ended)

pub returns-in_err-heard-clause-ended : goal.returns-in_err-heard-clause-ended
returns-in_err-heard-clause-ended g c =
    let p = err_from_is_err_and c.from_residual-in_err-heard.result c.from_residual-in_err-heard.ensures.1 in
    rw (p.1, p.2)
    (ends_delivered c.args.desk.now c.send.new.self c.args.request _ c.in_ok-send.ensures.ok c.deliver.new.self c.hear.new.self c.in_err-heard.field-0.0 c.in_ok-deliver.ensures.ok c.in_err-heard.ensures.ended)
