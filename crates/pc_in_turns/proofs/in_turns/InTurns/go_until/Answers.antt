use Rattle.std.proofs.Common.{◌≡◌, true, false, subst}
use Rattle.pc_in_turns.proofs.Acting.{at_one, at_read, gone_at_end, gone_at_first, gone_at_on, gone_in_turns, gone_there, scripted_at}
use Rattle.pc_scripted.specs.Taking.{SaysWhetherDone, are_items_over}
use Rattle.pc_in_turns.proofs.in_turns.InTurns.go_until.Goals as goal

pub loop-init : goal.loop-init
loop-init g c = gone_at_first g.C.Clock.rule (are_items_over c.args.items) c.args.index c.args.self.now c.requires.in_turns c.requires.there

pub returns-then-is_opened : goal.returns-then-is_opened
returns-then-is_opened g c =
    let gone = c.loop.invariant in
    let there = gone_there g.C.Clock.rule (are_items_over c.args.items) c.args.index c.args.self.now c.requires.in_turns c.loop.self gone in
    let at = at_read _ c.loop.self c.args.index c.index.result.now c.self.view_is there c.index.ensures in
    let says = subst (λ b. SaysWhetherDone (are_items_over c.args.items c.index.result.now.at.reruns c.index.result.now.script) c.index.result.now b) c.if-is_opened.true c.is_opened.ensures in
    gone_at_end g.C.Clock.rule (are_items_over c.args.items) c.args.index c.args.self.now c.requires.in_turns c.loop.self gone
    (at_one (λ s. SaysWhetherDone (are_items_over c.args.items s.at.reruns s.script) s true) c.loop.self c.args.index c.index.result.now at says)

pub go_on-requires-clause-in_turns : goal.go_on-requires-clause-in_turns
go_on-requires-clause-in_turns g c κs within = gone_in_turns g.C.Clock.rule (are_items_over c.args.items) c.args.index c.args.self.now c.requires.in_turns c.loop.self c.loop.invariant

pub go_on-requires-clause-going : goal.go_on-requires-clause-going
go_on-requires-clause-going g c κs within =
    let there = gone_there g.C.Clock.rule (are_items_over c.args.items) c.args.index c.args.self.now c.requires.in_turns c.loop.self c.loop.invariant in
    let at = at_read _ c.loop.self c.args.index c.index.result.now c.self.view_is there c.index.ensures in
    let says = subst (λ b. SaysWhetherDone (are_items_over c.args.items c.index.result.now.at.reruns c.index.result.now.script) c.index.result.now b) c.if-is_opened.false c.is_opened.ensures in
    at_one (λ s. s.session.desk.log.stopped ≡ false) c.loop.self c.args.index c.index.result.now at says.0

pub loop-preserved : goal.loop-preserved
loop-preserved g c =
    let gone = c.loop.invariant in
    let there = gone_there g.C.Clock.rule (are_items_over c.args.items) c.args.index c.args.self.now c.requires.in_turns c.loop.self gone in
    let at = at_read _ c.loop.self c.args.index c.index.result.now c.self.view_is there c.index.ensures in
    let says = subst (λ b. SaysWhetherDone (are_items_over c.args.items c.index.result.now.at.reruns c.index.result.now.script) c.index.result.now b) c.if-is_opened.false c.is_opened.ensures in
    gone_at_on g.C.Clock.rule (are_items_over c.args.items) c.args.index c.args.self.now c.requires.in_turns c.loop.self gone c.go_on.new.self c.in_ok-go_on.ensures
    (at_one (λ s. SaysWhetherDone (are_items_over c.args.items s.at.reruns s.script) s false) c.loop.self c.args.index c.index.result.now at says)
