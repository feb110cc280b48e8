use Rattle.pc_implicit.proofs.Missing.{missing_stays}
use Rattle.pc_implicit.proofs.staging.missing_stays.Goals as goal

pub returns : goal.returns
returns c = λ head range id epoch seq ts key. missing_stays id epoch seq ts key head range
