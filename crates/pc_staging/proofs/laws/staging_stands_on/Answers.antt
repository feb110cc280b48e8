use Rattle.pc_staging.proofs.Going.{staging_on}
use Rattle.pc_staging.proofs.laws.staging_stands_on.Goals as goal

pub returns : goal.returns
returns c = staging_on
