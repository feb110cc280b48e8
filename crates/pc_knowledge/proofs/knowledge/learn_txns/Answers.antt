use Rattle.std.proofs.Common.{List, map, ap, sym, subst, ◌∙◌}
use Rattle.std.proofs.lemmas.Result.{on_ok_weaker}
use Rattle.std.specs.Option.{option_copied}
use Rattle.pc_knowledge.proofs.knowledge.learn_txns.Goals as goal
use Rattle.pc_own.specs.Numbered.{AreBegunInOrder}
use Rattle.pc_world.specs.Known.Transactions.{Txn, txn_heard}

pub returns-in-Hear : goal.returns-in-Hear
returns-in-Hear c k calls sends heards files same numbered =
    rw c.in-Hear.is
    (on_ok_weaker c.hear.result (λ e. e ∙ ap (λ (txns : List Txn). map (txn_heard k.sent (option_copied c.args.heard)) txns) same)
    (c.hear.ensures k files (subst AreBegunInOrder (sym same) numbered)))
