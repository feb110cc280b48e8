use Rattle.std.proofs.Common.{◌+◌, ap, refl, ◌∙◌, arith}
use Rattle.pc_in_turns.proofs.Recovering.{entries_after, entries_before, followed_round_there, followed_rounds_in_turns, round_grown, round_rested, rounded_so}
use Rattle.pc_in_turns.proofs.in_turns.InTurns.recover.Goals as goal

pub round-requires-clause-in_turns : goal.round-requires-clause-in_turns
round-requires-clause-in_turns g c = followed_rounds_in_turns c.args.index c.args.self.now c.follow_in_rounds.new.self c.requires.in_turns c.in_ok-follow_in_rounds.ensures

pub round-requires-clause-there : goal.round-requires-clause-there
round-requires-clause-there g c = followed_round_there c.args.index c.args.self.now c.follow_in_rounds.new.self c.requires.in_turns c.in_ok-follow_in_rounds.ensures

pub returns-then-len-entries-clause-gone : goal.returns-then-len-entries-clause-gone
returns-then-len-entries-clause-gone g c =
    let made = c.in_ok-round.ensures in
    let before = entries_before c.args.index c.args.self.now c.follow_in_rounds.new.self c.requires.in_turns c.in_ok-follow_in_rounds.ensures g.C.Clock.rule c.round.new.self made _ c.index.result.now c.len-entries.result c.self.view_is c.index.ensures c.len-entries.ensures in
    let after = entries_after c.args.index c.args.self.now c.follow_in_rounds.new.self c.requires.in_turns c.in_ok-follow_in_rounds.ensures g.C.Clock.rule c.round.new.self made _ c.index-2.result.now c.len.result c.self-2.view_is c.index-2.ensures c.len.ensures in
    round_grown c.args.index c.args.self.now c.follow_in_rounds.new.self c.requires.in_turns c.in_ok-follow_in_rounds.ensures g.C.Clock.rule c.round.new.self made _ (c.len-then-len-entries.result + c.args.index) c.self-2.view_is (ap (λ n. n + c.args.index) (c.len-then-len-entries.ensures ∙ c.self-2.inside.sessions.ok.0)) (omega (arith, before, after, c.if-len-entries.true))

pub returns-then-len-entries-clause-others : goal.returns-then-len-entries-clause-others
returns-then-len-entries-clause-others g c =
    rounded_so c.args.index c.args.self.now c.follow_in_rounds.new.self c.requires.in_turns c.in_ok-follow_in_rounds.ensures g.C.Clock.rule c.round.new.self c.in_ok-round.ensures _ _ c.self-2.view_is

pub returns-else-len-entries-clause-gone : goal.returns-else-len-entries-clause-gone
returns-else-len-entries-clause-gone g c =
    let made = c.in_ok-round.ensures in
    let before = entries_before c.args.index c.args.self.now c.follow_in_rounds.new.self c.requires.in_turns c.in_ok-follow_in_rounds.ensures g.C.Clock.rule c.round.new.self made _ c.index.result.now c.len-entries.result c.self.view_is c.index.ensures c.len-entries.ensures in
    let after = entries_after c.args.index c.args.self.now c.follow_in_rounds.new.self c.requires.in_turns c.in_ok-follow_in_rounds.ensures g.C.Clock.rule c.round.new.self made _ c.index-2.result.now c.len.result c.self-2.view_is c.index-2.ensures c.len.ensures in
    round_rested c.args.index c.args.self.now c.follow_in_rounds.new.self c.requires.in_turns c.in_ok-follow_in_rounds.ensures g.C.Clock.rule c.round.new.self made c.round.new.self refl (omega (arith, before, after, c.if-len-entries.false))

pub returns-else-len-entries-clause-others : goal.returns-else-len-entries-clause-others
returns-else-len-entries-clause-others g c =
    rounded_so c.args.index c.args.self.now c.follow_in_rounds.new.self c.requires.in_turns c.in_ok-follow_in_rounds.ensures g.C.Clock.rule c.round.new.self c.in_ok-round.ensures c.round.new.self c.round.new.self.last refl
