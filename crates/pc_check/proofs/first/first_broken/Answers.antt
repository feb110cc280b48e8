use Rattle.std.proofs.Common.{◌≡◌, ◌+◌, [], ◌∷◌, ◌++◌, Ok, take, ap, subst, sym}
use Rattle.pc_history.specs.History.{MayFollow}
use Rattle.pc_world.proofs.Knowing.{run_push}
use Rattle.pc_world.specs.Run.{IsRun, protocol}
use Rattle.pc_check.specs.FirstBroken.{Judges, head_with}
use Rattle.pc_check.proofs.NextEntry.{next_taken}
use Rattle.pc_sent.specs.Sending.{AreSendsOf}
use Rattle.pc_check.proofs.first.first_broken.Goals as goal

pub loop-place-preserved : goal.loop-place-preserved
loop-place-preserved g c =
    let head = head_with c.args.splits.now c.args.sessions c.args.recoverers in
    let e = c.index-entries-place.result in
    let before = c.split_at.result.0.now in
    let front : before ≡ take c.loop-place.place c.args.entries.now = c.split_at.ensures.front in
    let run : IsRun head before = subst (IsRun head) (sym front) c.loop-place.invariant.run in
    let may : MayFollow (protocol head) before e = subst (Judges head before e) c.in_default.is c.in_ok-rule.ensures.judged in
    let whole : before ++ e ∷ [] ≡ take (c.loop-place.place + 1) c.args.entries.now = next_taken c.args.entries.now c.loop-place.place e before front c.loop-place-test.true c.index-entries-place.is in
    record {
      kept = subst (λ xs. g.J.Judge.keeps head xs c.broken.new.judge) whole (c.in_ok-rule.ensures.taken (ap Ok c.in_default.is));
      run = subst (IsRun head) whole (run_push head before e run may);
      sends = subst (λ xs. AreSendsOf xs c.add.new.self) whole (c.in_ok-add.ensures (subst (λ xs. AreSendsOf xs c.loop-place.sends) (sym front) c.loop-place.invariant.sends));
    }
