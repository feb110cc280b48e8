use Rattle.pc_implicit.proofs.Settled.{writes_of_committed}
use Rattle.pc_implicit.proofs.writes.writes_of_committed.Goals as goal

pub returns : goal.returns
returns c = λ head. writes_of_committed head
