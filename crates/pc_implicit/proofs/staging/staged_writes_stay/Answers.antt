use Rattle.pc_implicit.proofs.Presence.{staged_writes_stay}
use Rattle.pc_implicit.proofs.staging.staged_writes_stay.Goals as goal

pub returns : goal.returns
returns c = staged_writes_stay
