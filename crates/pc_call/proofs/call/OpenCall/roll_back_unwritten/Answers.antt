use Rattle.pc_call.proofs.Unwritten.{rolled_back_unwritten}
use Rattle.pc_call.proofs.call.OpenCall.roll_back_unwritten.Goals as goal

pub returns-clause-over : goal.returns-clause-over
returns-clause-over c = λ session set k s fresh call none. rolled_back_unwritten set session k c.args.txn s c.args.why fresh none call
