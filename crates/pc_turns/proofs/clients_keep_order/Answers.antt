use Rattle.pc_turns.proofs.Order.{clients_keep_order}
use Rattle.pc_turns.proofs.clients_keep_order.Goals as goal

pub returns : goal.returns
returns c = clients_keep_order
