use Rattle.pc_implicit.proofs.SettledVersions.{versions_are_committed}
use Rattle.pc_implicit.proofs.writes.versions_are_committed.Goals as goal

pub returns : goal.returns
returns c = λ head. versions_are_committed head
