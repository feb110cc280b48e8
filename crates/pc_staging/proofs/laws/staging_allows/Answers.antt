use Rattle.pc_staging.proofs.Allowing.{allows}
use Rattle.pc_staging.proofs.laws.staging_allows.Goals as goal

pub returns : goal.returns
returns c = allows
