use Rattle.std.proofs.Common.{true, List, ap, sym, ◌∙◌}
use Rattle.pc_knowledge.proofs.reads.good_from.Goals as goal
use Rattle.pc_world.specs.Known.{first_if}
use Rattle.pc_world.specs.Known.Transactions.{Txn}

pub returns-in-Some : goal.returns-in-Some
returns-in-Some c k files same are = c.good_of.ensures k files (sym (c.in-Some.ensures ∙ ap (λ (txns : List Txn). first_if true txns) same)) are
