use Rattle.std.proofs.Common.{◌≤◌, subst}
use Rattle.pc_world.specs.Known.Reads.{AtOnce, Read}
use Rattle.pc_knowledge.proofs.good.is_good_up_to.Goals as goal

pub returns-then-is_by : goal.returns-then-is_by
returns-then-is_by c =
    (λ ok. (c.args.read.now.ts, AtOnce, subst (λ (r : Read). c.args.ts ≤ r.ts) c.read.view_is (c.is_by.ensures.0 c.if-is_by.true)), λ m. c.if-is_by.true)
