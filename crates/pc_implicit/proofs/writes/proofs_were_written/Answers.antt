use Rattle.pc_implicit.proofs.PutsSent.{proofs_were_written}
use Rattle.pc_implicit.proofs.writes.proofs_were_written.Goals as goal

pub returns : goal.returns
returns c = proofs_were_written
