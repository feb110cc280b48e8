use Rattle.std.proofs.Common.{◌≡◌, IfOk, ap, ◌∙◌, subst}
use Rattle.pc_call.proofs.Reading.{read_told, told_ok}
use Rattle.pc_call.specs.Reading.{answer_read, spans_read, with_spans}
use Rattle.pc_reads.specs.declared.reads.TxnReads.{TxnReads}
use Rattle.pc_call.proofs.call.OpenCall.read.Goals as goal

pub returns-clause-told : goal.returns-clause-told
returns-clause-told c = λ session clock begun set k later counted w outbox reads due.
    let x = c.args.txn.now in
    let ms = c.args.self.wave in
    told_ok set session k (record x { reads = record { spans = with_spans x.reads.spans (spans_read ms); ts = x.reads.ts } }) _ (answer_read ms) c.answer_of.result
    (subst (λ ms. IfOk c.answer_of.result (λ answer. answer ≡ answer_read ms)) c.messages-2.ensures c.answer_of.ensures)
    (ap (λ (reads : TxnReads). record x { reads = reads }) (c.in_ok-keep_spans.ensures ∙ ap (λ ms. record { spans = with_spans x.reads.spans (spans_read ms); ts = x.reads.ts }) c.messages.ensures))
    (read_told session clock begun set k x c.args.self.purpose ms counted w reads due later outbox)
