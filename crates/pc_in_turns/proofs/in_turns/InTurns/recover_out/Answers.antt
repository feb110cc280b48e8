use Rattle.std.proofs.Common.{◌≡◌, ◌<◌, length, refl, sym, ap, subst, ◌∙◌, arith}
use Rattle.pc_in_turns.proofs.Whole.{all_none_left, none_left_next, recovered_all, recovered_none, recovered_one}
use Rattle.pc_in_turns.proofs.in_turns.InTurns.recover_out.Goals as goal

pub loop-index-init : goal.loop-index-init
loop-index-init g c = (recovered_none g.C.Clock.rule c.args.self.now c.requires, refl, λ other r lt at. absurd (omega arith))

pub recover_all-requires-clause-in_turns : goal.recover_all-requires-clause-in_turns
recover_all-requires-clause-in_turns g c = c.loop-index.invariant.0.in_turns

pub loop-index-preserved : goal.loop-index-preserved
loop-index-preserved g c = (
  recovered_one g.C.Clock.rule c.args.self.now c.requires c.loop-index.self c.recover_all.new.self c.loop-index.index c.loop-index.invariant.0 c.in_ok-recover_all.ensures.gone,
  c.in_ok-recover_all.ensures.sessions ∙ c.loop-index.invariant.1,
  none_left_next c.loop-index.self.recoverers c.recover_all.new.self.recoverers c.loop-index.index c.loop-index.invariant.2 c.in_ok-recover_all.ensures.others c.in_ok-recover_all.ensures.over,
)

pub recover_all-requires-clause-there : goal.recover_all-requires-clause-there
recover_all-requires-clause-there g c =
    let long = c.len-index-end.ensures ∙ (c.self.inside.recoverers.ok.0 ∙ ap (λ t. length t.recoverers) c.self.view_is) in
    subst (λ n. c.loop-index.index < n) (long ∙ (c.requires.recoverers.many ∙ sym (c.loop-index.invariant.0.in_turns.recoverers.many ∙ ap (λ w. length w.recoverers) c.loop-index.invariant.0.work))) c.loop-index-test.true

pub returns-clause-gone : goal.returns-clause-gone
returns-clause-gone g c =
    let long = c.len-index-end.ensures ∙ (c.self.inside.recoverers.ok.0 ∙ ap (λ t. length t.recoverers) c.self.view_is) in
    let all : c.loop-index.index ≡ c.len-index-end.result = omega (arith, c.loop-index-test.false, c.loop-index.auto.index-end) in
    recovered_all g.C.Clock.rule c.args.self.now c.requires c.loop-index.self c.loop-index.index (all ∙ long) c.loop-index.invariant.0

pub returns-clause-over : goal.returns-clause-over
returns-clause-over g c =
    let long = c.len-index-end.ensures ∙ (c.self.inside.recoverers.ok.0 ∙ ap (λ t. length t.recoverers) c.self.view_is) in
    let many = c.loop-index.invariant.0.in_turns.recoverers.many ∙ ap (λ w. length w.recoverers) c.loop-index.invariant.0.work in
    let old = c.requires.recoverers.many in
    all_none_left c.loop-index.self.recoverers c.loop-index.index (omega (arith, c.loop-index-test.false, long, many, old)) c.loop-index.invariant.2
