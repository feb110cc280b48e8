use Rattle.pc_call.proofs.Faults.{unavailable_told}
use Rattle.pc_call.proofs.call.OpenCall.unavailable.Goals as goal

pub returns-clause-told : goal.returns-clause-told
returns-clause-told c = λ session set start k x loses may beside over lost. unavailable_told session set start x may k beside over loses c.args.faults lost
