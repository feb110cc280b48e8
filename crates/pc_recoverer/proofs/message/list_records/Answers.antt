use Rattle.std.proofs.Common.{is_some, ap, subst, ◌∙◌}
use Rattle.std.proofs.lemmas.Result.{err_from_is_err_and}
use Rattle.pc_desk.proofs.InCall.{statement_sent}
use Rattle.pc_proto.specs.declared.reply.Reply.TheVariants as replies
use Rattle.pc_proto.specs.declared.request.Request.TheVariants as requests
use Rattle.pc_recoverer.proofs.Exchanging.{ends_at, ends_unsent_to, listing_answers}
use Rattle.pc_recoverer.specs.InRound.{WasExchangedWith}
use Rattle.pc_recoverer.proofs.message.list_records.Goals as goal

pub hear_reply-requires : goal.hear_reply-requires
hear_reply-requires g c = record { before = c.args.desk.now; back = c.requires.back; client = c.requires.client.whose; request = requests.Records; number = _; sent = c.in_ok-send_to.ensures.ok.sent; opened = ap is_some (statement_sent c.args.desk.now c.send_to.new.self _ requests.Records c.in_ok-send_to.ensures.ok.sent) ∙ c.requires.client.opened }

pub unreachable-requires : goal.unreachable-requires
unreachable-requires g c =
    let was = c.in_ok-reply.ensures.ok c.args.desk.now requests.Records _ c.in_ok-send_to.ensures.ok.sent c.requires.back in
    let lists = listing_answers c.in_ok-reply.reply was.exchanged.possible in
    c.in_default.not-Listed lists.metas lists.is

pub returns-clause-ok : goal.returns-clause-ok
returns-clause-ok g c =
    let to = c.in_ok-send_to.ensures.ok in
    let was = c.in_ok-reply.ensures.ok c.args.desk.now requests.Records _ to.sent c.requires.back in
    subst (λ range. WasExchangedWith range c.args.desk.now c.hear_reply.new.desk requests.Records (replies.Listed c.in-Listed.metas)) to.there
    (subst (λ told. WasExchangedWith to.sent.range c.args.desk.now c.hear_reply.new.desk requests.Records told) c.in-Listed.is was)

pub returns-in_err-send_to-clause-ended : goal.returns-in_err-send_to-clause-ended
returns-in_err-send_to-clause-ended g c =
    let p = err_from_is_err_and c.from_residual.result c.from_residual.ensures.1 in
    λ metas. rw (p.1, p.2) (ends_unsent_to c.args.desk.now c.send_to.new.self c.args.range requests.Records (replies.Listed metas) c.in_err-send_to.field-0.0 c.requires.back.track c.in_err-send_to.ensures.ended)

pub returns-in_err-reply-clause-ended : goal.returns-in_err-reply-clause-ended
returns-in_err-reply-clause-ended g c =
    let to = c.in_ok-send_to.ensures.ok in
    let p = err_from_is_err_and c.from_residual-in_err-reply.result c.from_residual-in_err-reply.ensures.1 in
    λ metas. rw (p.1, p.2) (ends_at c.args.desk.now c.hear_reply.new.desk to.sent.range c.args.range requests.Records (replies.Listed metas) c.in_err-reply.field-0.0 to.there (c.in_err-reply.ensures.ended c.args.desk.now requests.Records _ to.sent))

pub send_to-requires-clause-none_waits : goal.send_to-requires-clause-none_waits
send_to-requires-clause-none_waits g c = c.requires.back.replies
