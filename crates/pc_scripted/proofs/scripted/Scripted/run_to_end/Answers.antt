use Rattle.std.proofs.Common.{true, false, refl, subst, ◌∙◌}
use Rattle.pc_scripted.proofs.Going.{gone_all, gone_nothing, gone_on, told_of_old}
use Rattle.pc_scripted.specs.Taking.{is_script_over, SaysWhetherDone}
use Rattle.pc_scripted.proofs.scripted.Scripted.run_to_end.Goals as goal

pub loop-init : goal.loop-init
loop-init g c = (gone_nothing (is_script_over c.args.self.now.at.reruns c.args.self.now.script) c.args.self.now c.requires.scripted, refl)

pub is_run_out-requires : goal.is_run_out-requires
is_run_out-requires g c = c.loop.invariant.0.by.scripted

pub returns-then-is_run_out-clause-ok : goal.returns-then-is_run_out-clause-ok
returns-then-is_run_out-clause-ok g c =
    let old = c.args.self.now in
    let now = c.loop.self in
    let gone = c.loop.invariant.0 in
    gone_all (is_script_over c.args.self.now.at.reruns c.args.self.now.script) old now gone (told_of_old is_script_over old now true gone.by.same (subst (λ b. SaysWhetherDone (is_script_over now.at.reruns now.script) now b) c.if-is_run_out.true c.is_run_out.ensures.told))

pub loop-preserved : goal.loop-preserved
loop-preserved g c =
    let old = c.args.self.now in
    let now = c.loop.self in
    let gone = c.loop.invariant.0 in (
      gone_on (is_script_over c.args.self.now.at.reruns c.args.self.now.script) old now gone c.go_on.new.self c.in_ok-go_on.ensures.ok (told_of_old is_script_over old now false gone.by.same (subst (λ b. SaysWhetherDone (is_script_over now.at.reruns now.script) now b) c.if-is_run_out.false c.is_run_out.ensures.told)),
      c.in_ok-go_on.ensures.rule ∙ c.loop.invariant.1,
    )
