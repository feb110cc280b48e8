use Rattle.std.proofs.Common.{◌≡◌, ◌↔◌, Contains, List, Some, sym, subst}
use Rattle.std.specs.Option.{option_copied}
use Rattle.pc_own.specs.Numbered.{AreBegunInOrder}
use Rattle.pc_world.specs.Known.Transactions.{Txn}
use Rattle.pc_knowledge.proofs.knowledge.Knowledge.own_txn.Goals as goal

pub returns : goal.returns
returns c k keeps t =
    subst (λ (txns : List Txn). (option_copied c.own.result ≡ Some t) ↔ (Contains txns t × (t.id ≡ c.args.id))) keeps.txns
    (c.own.ensures (subst AreBegunInOrder (sym keeps.txns) keeps.numbered) t)
