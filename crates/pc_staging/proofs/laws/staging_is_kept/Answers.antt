use Rattle.pc_staging.proofs.Going.{staging_kept}
use Rattle.pc_staging.proofs.laws.staging_is_kept.Goals as goal

pub returns : goal.returns
returns c = staging_kept
