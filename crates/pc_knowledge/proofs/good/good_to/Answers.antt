use Rattle.std.proofs.Common.{◌≡◌, ◌<◌, ◌≤◌, true, count_by, sym, subst, inl, inr, arith}
use Rattle.std.proofs.lemmas.Bool.{cases_lt}
use Rattle.pc_known.specs.Parts.{part_span}
use Rattle.pc_knowledge.proofs.GoodReads.{beyond, just_good, leaves_fewer, round_good, way_in}
use Rattle.pc_world.specs.Known.Reads.{AtOnce, IsGoodTo}
use Rattle.pc_knowledge.proofs.good.good_to.Goals as goal

pub further-init : goal.further-init
further-init c = record { round = c.good_after_all-next.ensures; above = omega arith; good = AtOnce }

pub further-smaller : goal.further-smaller
further-smaller c =
    let round = c.further.invariant.round in
    let far : c.further.good < c.further.next = c.is_below.ensures.0 c.further-test.true in
    let ways = way_in c.args.id (part_span c.args.span) in
    subst (λ n. count_by (beyond ways n) c.args.heard.now < count_by (beyond ways c.further.good) c.args.heard.now) (sym round)
    (leaves_fewer ways c.args.heard.now c.further.good (subst (λ n. c.further.good < n) round far))

pub further-preserved : goal.further-preserved
further-preserved c =
    let round = c.further.invariant.round in
    let far : c.further.good < c.further.next = c.is_below.ensures.0 c.further-test.true in
    let above = c.further.invariant.above in
    record {
      round = c.good_after_all-next-in-further.ensures;
      above = omega (arith, far, above);
      good = subst (IsGoodTo c.args.id c.args.heard.now (part_span c.args.span) c.args.ts) (sym round) (round_good c.args.id c.args.heard.now (part_span c.args.span) c.args.ts c.further.good c.further.invariant.good);
    }

pub returns : goal.returns
returns c =
    let low : c.further.next ≤ c.further.good =
    elim (cases_lt c.further.good c.further.next) [
      | inl below ↦ let on : c.is_below.result ≡ true = c.is_below.ensures.1 below in let off = c.further-test.false in absurd (cc (on, off))
      | inr above ↦ above
    ] in
    just_good c.args.id c.args.heard.now (part_span c.args.span) c.args.ts c.further.good c.further.invariant.above c.further.invariant.good
    (subst (λ n. n ≤ c.further.good) c.further.invariant.round low)
