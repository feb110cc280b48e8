use Rattle.std.proofs.Common.{arith}
use Rattle.std.proofs.lemmas.Grind.{common_steps}
use Rattle.std.proofs.lemmas.List.Edits.{map_over_more}
use Rattle.pc_staging.specs.Kept.{refuted_at}
use Rattle.pc_staging.proofs.staging.Staging.refute_at.Goals as goal

pub loop-stage-preserved : goal.loop-stage-preserved
loop-stage-preserved c = grind (arith, common_steps, map_over_more (refuted_at c.args.ts c.args.step))
