use Rattle.std.proofs.Common.{◌≡◌, ◌<◌, length, sym, ap, subst, ◌∙◌, arith}
use Rattle.pc_in_turns.proofs.Whole.{all_ran_out, as_many, ran_out_next, went_all, went_next, went_none}
use Rattle.pc_in_turns.proofs.in_turns.InTurns.run_out.Goals as goal

pub loop-index-init : goal.loop-index-init
loop-index-init g c = (went_none g.C.Clock.rule c.args.self.now c.requires, λ other s lt at. absurd (omega arith))

pub go-requires-clause-in_turns : goal.go-requires-clause-in_turns
go-requires-clause-in_turns g c κs within = c.loop-index.invariant.0.in_turns

pub go-requires-clause-there : goal.go-requires-clause-there
go-requires-clause-there g c κs within =
    let long = c.len-index-end.ensures ∙ (c.self.inside.sessions.ok.0 ∙ ap (λ t. length t.sessions) c.self.view_is) in
    subst (λ n. c.loop-index.index < n) (long ∙ (c.requires.runners.many ∙ sym (as_many g.C.Clock.rule c.args.self.now c.requires c.loop-index.self c.loop-index.invariant.0))) c.loop-index-test.true

pub loop-index-preserved : goal.loop-index-preserved
loop-index-preserved g c = (
  went_next g.C.Clock.rule c.args.self.now c.requires c.loop-index.self c.go.new.self c.loop-index.index c.loop-index.invariant.0 c.in_ok-go.ensures.gone,
  ran_out_next c.loop-index.self.sessions c.go.new.self.sessions c.loop-index.index c.loop-index.invariant.1 c.in_ok-go.ensures.others,
)

pub returns-clause-gone : goal.returns-clause-gone
returns-clause-gone g c =
    let long = c.len-index-end.ensures ∙ (c.self.inside.sessions.ok.0 ∙ ap (λ t. length t.sessions) c.self.view_is) in
    let all : c.loop-index.index ≡ c.len-index-end.result = omega (arith, c.loop-index-test.false, c.loop-index.auto.index-end) in
    went_all g.C.Clock.rule c.args.self.now c.requires c.loop-index.self c.loop-index.index (all ∙ long) c.loop-index.invariant.0

pub returns-clause-over : goal.returns-clause-over
returns-clause-over g c =
    let long = c.len-index-end.ensures ∙ (c.self.inside.sessions.ok.0 ∙ ap (λ t. length t.sessions) c.self.view_is) in
    let many = as_many g.C.Clock.rule c.args.self.now c.requires c.loop-index.self c.loop-index.invariant.0 in
    let old = c.requires.runners.many in
    all_ran_out c.loop-index.self.sessions c.loop-index.index (omega (arith, c.loop-index-test.false, long, many, old)) c.loop-index.invariant.1
