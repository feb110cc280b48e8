use Rattle.pc_call.proofs.Unwritten.{committed_unwritten}
use Rattle.pc_call.proofs.call.OpenCall.commit_unwritten.Goals as goal

pub returns-clause-over : goal.returns-clause-over
returns-clause-over c = λ session set k s why fresh call none. committed_unwritten set session k c.args.txn s why fresh none call
