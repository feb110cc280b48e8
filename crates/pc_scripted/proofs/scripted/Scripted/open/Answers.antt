use Rattle.std.proofs.Common.{true, false, refl, subst, ◌∙◌}
use Rattle.pc_scripted.proofs.Going.{gone_all, gone_nothing, gone_on, told_of_old}
use Rattle.pc_scripted.specs.Taking.{are_items_over, SaysWhetherDone}
use Rattle.pc_scripted.proofs.scripted.Scripted.open.Goals as goal

pub loop-init : goal.loop-init
loop-init g c = (gone_nothing (are_items_over c.args.items c.args.self.now.at.reruns c.args.self.now.script) c.args.self.now c.requires.scripted, refl)

pub is_opened-requires : goal.is_opened-requires
is_opened-requires g c = c.loop.invariant.0.by.scripted

pub returns-then-is_opened-clause-ok : goal.returns-then-is_opened-clause-ok
returns-then-is_opened-clause-ok g c =
    let old = c.args.self.now in
    let now = c.loop.self in
    let gone = c.loop.invariant.0 in
    gone_all (are_items_over c.args.items c.args.self.now.at.reruns c.args.self.now.script) old now gone (told_of_old (are_items_over c.args.items) old now true gone.by.same (subst (λ b. SaysWhetherDone ((are_items_over c.args.items) now.at.reruns now.script) now b) c.if-is_opened.true c.is_opened.ensures))

pub loop-preserved : goal.loop-preserved
loop-preserved g c =
    let old = c.args.self.now in
    let now = c.loop.self in
    let gone = c.loop.invariant.0 in (
      gone_on (are_items_over c.args.items c.args.self.now.at.reruns c.args.self.now.script) old now gone c.go_on.new.self c.in_ok-go_on.ensures.ok (told_of_old (are_items_over c.args.items) old now false gone.by.same (subst (λ b. SaysWhetherDone ((are_items_over c.args.items) now.at.reruns now.script) now b) c.if-is_opened.false c.is_opened.ensures)),
      c.in_ok-go_on.ensures.rule ∙ c.loop.invariant.1,
    )
