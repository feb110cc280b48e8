use Rattle.std.proofs.Common.{◌≡◌, [], ◌++◌, ◌∷◌, false, take, sym, ap, subst, ◌∙◌}
use Rattle.std.specs.List.{cons_option}
use Rattle.std.proofs.lemmas.List.Elements.{All-take}
use Rattle.pc_report.proofs.RowLists.{begun_more, take_next}
use Rattle.pc_report.proofs.Seen.{none_sends_a_stage}
use Rattle.pc_report.proofs.Writing.{written_next}
use Rattle.pc_report.specs.Replaying.{IsReplayOf}
use Rattle.pc_report.specs.Seen.{SendsNoStage, sends_a_stage}
use Rattle.pc_report.specs.Writing.{AreWritesOf}
use Rattle.pc_report.proofs.Following.{run_so_far}
use Rattle.pc_sent.specs.Sending.{AreSendsOf}
use Rattle.pc_world.specs.CommitOrder.{begun_in}
use Rattle.pc_report.proofs.gathered.Findings.of.Goals as goal

pub follow-requires-clause-run : goal.follow-requires-clause-run
follow-requires-clause-run c =
    run_so_far c.args.splits.now c.args.entries.now c.loop-done.done c.index-entries-done.result c.split_at.result.0.now c.requires.run c.loop-done-test.true c.index-entries-done.is c.split_at.ensures.front

pub follow-requires-clause-unstaged : goal.follow-requires-clause-unstaged
follow-requires-clause-unstaged c =
    λ not. subst SendsNoStage (sym c.split_at.ensures.front)
    (All-take (λ e. sends_a_stage e.event ≡ false) c.loop-done.done c.args.entries.now (none_sends_a_stage c.args.entries.now (sym c.any_sends_a_stage-whole.ensures ∙ (sym c.loop-done.invariant.2 ∙ not))))

pub loop-done-preserved : goal.loop-done-preserved
loop-done-preserved c =
    let front = take c.loop-done.done c.args.entries.now in
    let e = c.index-entries-done.result in
    let next = take_next c.args.entries.now c.loop-done.done e c.loop-done-test.true c.index-entries-done.is in
    let longer = ap (λ f. f ++ e ∷ []) c.split_at.ensures.front ∙ sym next in
    let sent : AreSendsOf c.split_at.result.0.now c.loop-done.sent =
    subst (λ h. AreSendsOf h c.loop-done.sent) (sym c.split_at.ensures.front) c.loop-done.invariant.1 in
    let writes : AreWritesOf (front ++ e ∷ []) c.follow-in-loop-done.new.self =
    written_next front e c.loop-done.writes c.follow-in-loop-done.new.self c.loop-done.invariant.3 c.in_ok-follow-2.ensures.puts c.in_ok-follow-2.ensures.last in (
      subst (λ h. IsReplayOf c.args.splits.now h c.follow.new.self) longer c.in_ok-follow.ensures.replay,
      subst (λ h. AreSendsOf h c.add.new.self) longer (c.in_ok-add.ensures sent),
      (c.in_ok-follow.ensures.whole ∙ c.loop-done.invariant.2),
      subst (λ h. AreWritesOf h c.follow-in-loop-done.new.self) (sym next) writes,
      (c.in_ok-add_begun.ensures
          ∙ (ap (λ ids. ids ++ cons_option (begun_in e.event) []) c.loop-done.invariant.4
          ∙ sym (begun_more c.args.entries.now c.loop-done.done e c.loop-done-test.true c.index-entries-done.is))),
    )
