use Rattle.std.proofs.Common.{◌≡◌, ◌≤◌, true, sym, subst}
use Rattle.pc_knowledge.proofs.reads.is_good_at.Goals as goal
use Rattle.pc_world.specs.Known.Reads.{Read}

pub returns-then-is_by : goal.returns-then-is_by
returns-then-is_by c k keeps =
    let low = subst (λ (r : Read). r.ts ≤ c.args.ts) c.read.view_is (c.is_by.ensures.0 c.if-is_by.true) in
    (λ ok. record { not_below = low; up_to = (c.is_good_by.ensures k keeps).0 ok }, λ g. (c.is_good_by.ensures k keeps).1 g.up_to)

pub returns-else-is_by : goal.returns-else-is_by
returns-else-is_by c k keeps = (
  λ h. absurd cc,
  λ g. let on : c.is_by.result ≡ true = c.is_by.ensures.1 (subst (λ (r : Read). r.ts ≤ c.args.ts) (sym c.read.view_is) g.not_below) in let off = c.if-is_by.false in absurd (cc (on, off)),
)
