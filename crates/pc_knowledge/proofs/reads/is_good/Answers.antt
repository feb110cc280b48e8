use Rattle.std.proofs.Common.{◌≡◌, ◌↔◌, ◌≤◌, true, All, IsTrue, sym, subst, ◌∙◌}
use Rattle.pc_knowledge.proofs.reads.is_good.Goals as goal
use Rattle.pc_world.specs.Known.Reads.{IsGoodAt}

pub returns-then-is_by : goal.returns-then-is_by
returns-then-is_by c k keeps =
    let of : c.as_slice.result.now ≡ c.args.t.now.reads = c.as_slice.ensures ∙ c.reads.ensures in
    let reads : IsTrue c.are_good_at.result ↔ All (IsGoodAt c.args.t.now.id k.heard c.args.ts) c.args.t.now.reads =
    subst (λ id. IsTrue c.are_good_at.result ↔ All (IsGoodAt id k.heard c.args.ts) c.args.t.now.reads) c.id.ensures
    (subst (λ rs. IsTrue c.are_good_at.result ↔ All (IsGoodAt c.id.result k.heard c.args.ts) rs) of (c.are_good_at.ensures k keeps)) in
    let low : c.args.t.now.begin ≤ c.args.ts = subst (λ b. b ≤ c.args.ts) c.begin.ensures (c.is_by.ensures.0 c.if-is_by.true) in
    (λ ok. record { begun = low; reads = reads.0 ok }, λ good. reads.1 good.reads)

pub returns-else-is_by : goal.returns-else-is_by
returns-else-is_by c k keeps = (
  λ h. absurd cc,
  λ g. let on : c.is_by.result ≡ true = c.is_by.ensures.1 (subst (λ b. b ≤ c.args.ts) (sym c.begin.ensures) g.begun) in let off = c.if-is_by.false in absurd (cc (on, off)),
)
