use Rattle.std.proofs.Common.{◌↔◌, IsTrue, false, subst, sym}
use Rattle.pc_world.specs.Caused.{IsCaused}
use Rattle.pc_check.proofs.EarlierEntries.{eval_there, no_eval, no_send, none_told, send_there, told_there}
use Rattle.pc_check.proofs.causes.is_caused.Goals as goal

pub returns-in-Some : goal.returns-in-Some
returns-in-Some c head run sends =
    subst (λ event. IsTrue c.sends_to.result ↔ IsCaused c.args.before.now event c.args.actor) (sym c.in-Eval.is)
    (send_there head c.args.before.now run c.in-Eval.sender c.args.actor c.in-Eval.number c.in-Eval.reply c.in-Some.entry.now c.sends_to.result (c.in-Some.ensures sends) c.sends_to.ensures)

pub returns-in-None : goal.returns-in-None
returns-in-None c head run sends =
    subst (λ event. IsTrue false ↔ IsCaused c.args.before.now event c.args.actor) (sym c.in-Eval.is)
    (no_send head c.args.before.now run c.in-Eval.sender c.args.actor c.in-Eval.number c.in-Eval.reply (c.in-None.ensures sends))

pub returns-in-Some-at : goal.returns-in-Some-at
returns-in-Some-at c head run sends =
    subst (λ event. IsTrue c.evaluates.result ↔ IsCaused c.args.before.now event c.args.actor) (sym c.in-Hear.is)
    (eval_there head c.args.before.now run c.args.actor c.in-Hear.number c.in-Hear.step c.in-Some-at.entry.now c.evaluates.result c.in-Some-at.ensures c.evaluates.ensures)

pub returns-in-None-at : goal.returns-in-None-at
returns-in-None-at c head run sends =
    subst (λ event. IsTrue false ↔ IsCaused c.args.before.now event c.args.actor) (sym c.in-Hear.is)
    (no_eval head c.args.before.now run c.args.actor c.in-Hear.number c.in-Hear.step c.in-None-at.ensures)

pub returns-in-Some-at-2 : goal.returns-in-Some-at-2
returns-in-Some-at-2 c head run sends =
    subst (λ event. IsTrue c.tells_committed.result ↔ IsCaused c.args.before.now event c.args.actor) (sym c.in-Meet.is)
    (told_there head c.args.before.now run c.in-Meet.id c.in-Meet.step c.in-Some-at-2.entry.now c.tells_committed.result c.in-Some-at-2.ensures c.tells_committed.ensures)

pub returns-in-None-at-2 : goal.returns-in-None-at-2
returns-in-None-at-2 c head run sends =
    subst (λ event. IsTrue false ↔ IsCaused c.args.before.now event c.args.actor) (sym c.in-Meet.is)
    (none_told head c.args.before.now run c.in-Meet.id c.in-Meet.step c.in-None-at-2.ensures)
