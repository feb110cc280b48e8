use Rattle.std.proofs.Common.{arith, refl}
use Rattle.pc_in_turns.proofs.Following.{followed_there, grown_now, long_after, long_before, rested_now, still_there, there_now}
use Rattle.pc_in_turns.proofs.Runners.{followed_in_turns}
use Rattle.pc_in_turns.proofs.in_turns.InTurns.go.Goals as goal

pub act-requires-clause-in_turns : goal.act-requires-clause-in_turns
act-requires-clause-in_turns g c κs within = followed_in_turns c.args.index c.args.self.now c.requires.in_turns c.follow_last.new.self c.in_ok-follow_last.ensures

pub act-requires-clause-there : goal.act-requires-clause-there
act-requires-clause-there g c κs within = followed_there c.args.index c.args.self.now c.follow_last.new.self c.in_ok-follow_last.ensures

pub returns-then-len-entries-clause-gone : goal.returns-then-len-entries-clause-gone
returns-then-len-entries-clause-gone g c =
    let there = followed_there c.args.index c.args.self.now c.follow_last.new.self c.in_ok-follow_last.ensures in
    let acted = c.in_ok-act.ensures.acted in
    let before = long_before g.C.Clock.rule c.args.task c.args.index c.args.self.now c.follow_last.new.self c.act.new.self c.requires.in_turns c.in_ok-follow_last.ensures acted _ c.index.result.now c.len-entries.result c.self.view_is there c.index.ensures c.len-entries.ensures in
    let after = long_after g.C.Clock.rule c.args.task c.args.index c.args.self.now c.follow_last.new.self c.act.new.self c.requires.in_turns c.in_ok-follow_last.ensures acted _ c.index-2.result.now c.len.result c.self-2.view_is (still_there g.C.Clock.rule c.args.task c.args.index c.args.self.now c.follow_last.new.self c.act.new.self c.requires.in_turns c.in_ok-follow_last.ensures acted there) c.index-2.ensures c.len.ensures in
    grown_now g.C.Clock.rule c.args.task c.args.index c.args.self.now c.follow_last.new.self c.act.new.self c.requires.in_turns c.in_ok-follow_last.ensures acted _ c.self-2.view_is (omega (arith, before, after, c.if-len-entries.true))

pub returns-then-len-entries-clause-others : goal.returns-then-len-entries-clause-others
returns-then-len-entries-clause-others g c =
    there_now g.C.Clock.rule c.args.task c.args.index c.args.self.now c.follow_last.new.self c.act.new.self c.requires.in_turns c.in_ok-follow_last.ensures c.in_ok-act.ensures.acted _ c.self-2.view_is c.in_ok-act.ensures.ends

pub returns-else-len-entries-clause-gone : goal.returns-else-len-entries-clause-gone
returns-else-len-entries-clause-gone g c =
    let there = followed_there c.args.index c.args.self.now c.follow_last.new.self c.in_ok-follow_last.ensures in
    let acted = c.in_ok-act.ensures.acted in
    let before = long_before g.C.Clock.rule c.args.task c.args.index c.args.self.now c.follow_last.new.self c.act.new.self c.requires.in_turns c.in_ok-follow_last.ensures acted _ c.index.result.now c.len-entries.result c.self.view_is there c.index.ensures c.len-entries.ensures in
    let after = long_after g.C.Clock.rule c.args.task c.args.index c.args.self.now c.follow_last.new.self c.act.new.self c.requires.in_turns c.in_ok-follow_last.ensures acted _ c.index-2.result.now c.len.result c.self-2.view_is (still_there g.C.Clock.rule c.args.task c.args.index c.args.self.now c.follow_last.new.self c.act.new.self c.requires.in_turns c.in_ok-follow_last.ensures acted there) c.index-2.ensures c.len.ensures in
    rested_now g.C.Clock.rule c.args.task c.args.index c.args.self.now c.follow_last.new.self c.act.new.self c.requires.in_turns c.in_ok-follow_last.ensures acted c.act.new.self refl (omega (arith, before, after, c.if-len-entries.false))

pub returns-else-len-entries-clause-others : goal.returns-else-len-entries-clause-others
returns-else-len-entries-clause-others g c =
    there_now g.C.Clock.rule c.args.task c.args.index c.args.self.now c.follow_last.new.self c.act.new.self c.requires.in_turns c.in_ok-follow_last.ensures c.in_ok-act.ensures.acted c.act.new.self refl c.in_ok-act.ensures.ends
