use Rattle.std.proofs.Common.{is_some, ap, ◌∙◌}
use Rattle.std.proofs.lemmas.Result.{IfOk-weaker, err_from_is_err_and}
use Rattle.pc_desk.proofs.InCall.{statement_sent}
use Rattle.pc_recoverer.proofs.Breaking.{breaks_weaker_if}
use Rattle.pc_recoverer.proofs.Exchanging.{ends_unsent}
use Rattle.pc_recoverer.proofs.Fronts.{front_of_one}
use Rattle.pc_recoverer.specs.Broken.{AreFrontOfOne, AreFrontOfOneTo}
use Rattle.pc_recoverer.proofs.message.exchange.Goals as goal

pub hear_reply-requires : goal.hear_reply-requires
hear_reply-requires g c = record { before = c.args.desk.now; back = c.requires.back; client = c.requires.client.whose; request = c.args.request; number = _; sent = c.in_ok-send.ensures.ok; opened = ap is_some (statement_sent c.args.desk.now c.send.new.self _ c.args.request c.in_ok-send.ensures.ok) ∙ c.requires.client.opened }

pub returns-clause-ok : goal.returns-clause-ok
returns-clause-ok g c = IfOk-weaker c.hear_reply.result _ _ (λ reply was. was.exchanged) (c.hear_reply.ensures.ok c.args.desk.now c.args.request _ c.in_ok-send.ensures.ok c.requires.back)

pub returns-clause-ended : goal.returns-clause-ended
returns-clause-ended g c =
    let range = c.in_ok-send.ensures.ok.range in
    breaks_weaker_if c.hear_reply.result c.args.desk.now c.hear_reply.new.desk (AreFrontOfOneTo range c.args.request) (AreFrontOfOne c.args.request) (front_of_one range c.args.request) (c.hear_reply.ensures.ended c.args.desk.now c.args.request _ c.in_ok-send.ensures.ok)

pub returns-in_err-send-clause-ended : goal.returns-in_err-send-clause-ended
returns-in_err-send-clause-ended g c =
    let p = err_from_is_err_and c.from_residual.result c.from_residual.ensures.1 in
    rw (p.1, p.2) (ends_unsent c.args.desk.now c.send.new.self c.args.request c.in_err-send.field-0.0 c.requires.back.track c.in_err-send.ensures.ended)

pub send-requires-clause-none_waits : goal.send-requires-clause-none_waits
send-requires-clause-none_waits g c = c.requires.back.replies
