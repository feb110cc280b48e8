use Rattle.std.proofs.Common.{◌∷◌, Bool, List, cond, ap, sym, ◌∙◌}
use Rattle.std.proofs.lemmas.Result.{on_ok_weaker}
use Rattle.pc_knowledge.proofs.Begun.{told_other}
use Rattle.pc_world.specs.Known.{told_first, txn_begun}
use Rattle.pc_world.specs.Known.Traffic.{Heard, replies_to}
use Rattle.pc_world.specs.Known.Transactions.{Txn}
use Rattle.pc_knowledge.proofs.knowledge.tell.Goals as goal

pub returns-in-Begun : goal.returns-in-Begun
returns-in-Begun c k calls sends heards same =
    let t = c.txn_begun.ensures ∙ ap (λ s. txn_begun s c.in-Begun.id c.in-Begun.ts) (c.statement.ensures k calls) in
    rw c.in-Begun.is
    (on_ok_weaker c.begin.result (λ e. e ∙ ap (λ x. x ∷ c.args.txns.now) t ∙ ap (λ xs. txn_begun k.statement c.in-Begun.id c.in-Begun.ts ∷ xs) same) c.begin.ensures)

pub returns-in_default : goal.returns-in_default
returns-in_default c k calls sends heards same =
    let told : Bool → List Heard → List Txn → List Txn = λ b hs ts. cond b (told_first c.args.answer.now (replies_to k.sent_now hs) ts) ts in
    on_ok_weaker c.tell_open.result
    (λ e. e ∙ ap (λ b. told b c.now.result.now c.args.txns.now) (c.is_open.ensures k calls) ∙ ap (λ hs. told k.is_open hs c.args.txns.now) (c.now.ensures k heards)
    ∙ ap (told k.is_open k.heard_now) same ∙ sym (told_other c.args.answer.now k c.in_default.not-Begun))
    (c.tell_open.ensures k sends)
