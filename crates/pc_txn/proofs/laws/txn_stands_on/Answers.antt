use Rattle.pc_txn.proofs.Keeping.{txn_stands_on_ok}
use Rattle.pc_txn.proofs.laws.txn_stands_on.Goals as goal

pub returns : goal.returns
returns c = txn_stands_on_ok
