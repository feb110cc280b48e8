use Rattle.pc_call.proofs.Faults.{unknown_told}
use Rattle.pc_call.proofs.call.OpenCall.unknown.Goals as goal

pub returns-clause-over : goal.returns-clause-over
returns-clause-over c = λ session faults set start k loses may beside lost in_flight. unknown_told session set start c.args.txn.now may k beside in_flight loses faults lost
