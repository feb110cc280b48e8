use Rattle.std.proofs.Common.{◌≡◌, ◌+◌, ◌<◌, Some, length, slice_get, sym, ap, subst, ◌∙◌, arith}
use Rattle.pc_in_turns.proofs.Recovering.{at_round, rounds_are}
use Rattle.pc_in_turns.proofs.Whole.{taken_more, taken_none, taken_whole, turned_next, turned_none}
use Rattle.pc_in_turns.specs.Moving.{HaveGoneOn, TakeTurns}
use Rattle.pc_turns.specs.Order.{recoverer_turns}
use Rattle.pc_in_turns.proofs.in_turns.InTurns.recover_all.Goals as goal

pub loop-taken-init : goal.loop-taken-init
loop-taken-init g c =
    let at = at_round _ c.args.self.now c.self.view_is c.requires.in_turns c.args.index c.requires.there c.index.result.now c.index.ensures in (
      turned_none g.C.Clock.rule c.args.self.now c.requires.in_turns (c.args.index + 1),
      taken_none c.args.index c.rounds-rounds.result c.args.self.now c.index.result.now (subst (λ t. slice_get t.recoverers c.args.index ≡ Some c.index.result.now) c.self.view_is at) c.rounds-rounds.ensures,
      omega arith,
    )

pub recover-requires-clause-in_turns : goal.recover-requires-clause-in_turns
recover-requires-clause-in_turns g c = c.loop-taken.invariant.0.in_turns

pub recover-requires-clause-there : goal.recover-requires-clause-there
recover-requires-clause-there g c =
    subst (λ n. c.args.index < n) (c.requires.in_turns.recoverers.many ∙ sym (c.loop-taken.invariant.0.in_turns.recoverers.many ∙ ap (λ w. length w.recoverers) c.loop-taken.invariant.0.work)) c.requires.there

pub loop-taken-preserved : goal.loop-taken-preserved
loop-taken-preserved g c = (
  turned_next g.C.Clock.rule c.args.self.now c.requires.in_turns c.loop-taken.self c.recover.new.self (c.args.index + 1) c.loop-taken.taken c.loop-taken.invariant.0 c.in_ok-recover.ensures.gone,
  taken_more c.args.index c.rounds-rounds.result c.loop-taken.taken c.args.self.now c.loop-taken.self c.recover.new.self c.loop-taken.invariant.1 c.in_ok-recover.ensures.others,
  omega (arith, c.loop-taken-test.true),
)

pub returns-clause-gone : goal.returns-clause-gone
returns-clause-gone g c =
    let at = at_round _ c.args.self.now c.self.view_is c.requires.in_turns c.args.index c.requires.there c.index.result.now c.index.ensures in
    let here = subst (λ t. slice_get t.recoverers c.args.index ≡ Some c.index.result.now) c.self.view_is at in
    let runner = c.requires.in_turns.recoverers.each c.args.index c.index.result.now here in
    let all : c.loop-taken.taken ≡ c.rounds-rounds.result = omega (arith, c.loop-taken-test.false, c.loop-taken.invariant.2) in
    subst (λ n. HaveGoneOn g.C.Clock.rule (TakeTurns c.args.self.now.work (recoverer_turns (c.args.index + 1) n)) c.args.self.now c.loop-taken.self)
    (all ∙ (c.rounds-rounds.ensures ∙ rounds_are c.args.self.now.work c.args.index c.index.result.now runner)) c.loop-taken.invariant.0

pub returns-clause-sessions : goal.returns-clause-sessions
returns-clause-sessions g c = c.loop-taken.invariant.1.sessions

pub returns-clause-others : goal.returns-clause-others
returns-clause-others g c = c.loop-taken.invariant.1.others

pub returns-clause-over : goal.returns-clause-over
returns-clause-over g c =
    taken_whole c.args.index c.rounds-rounds.result c.loop-taken.taken c.args.self.now c.loop-taken.self (omega (arith, c.loop-taken-test.false)) c.loop-taken.invariant.1
