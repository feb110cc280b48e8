use Rattle.std.proofs.Common.{◌≡◌, None, Some, cond, false, true, arith, refl, sym, ap, subst, ◌∙◌}
use Rattle.std.specs.Option.{is_some}
use Rattle.pc_report.proofs.Following.{points_grow, points_noted, points_stay}
use Rattle.pc_report.specs.Replaying.{PointsFollow, commit_kept, committed_one}
use Rattle.pc_report.specs.declared.replay.Replay.{Replay}
use Rattle.pc_report.proofs.replay.Replay.note_point.Goals as goal

pub returns-then-contains_key-clause-points : goal.returns-then-contains_key-clause-points
returns-then-contains_key-clause-points c =
    let s = c.args.self.now in
    subst (λ t. PointsFollow c.args.splits.now t c.args.point s s) (sym c.in-Some.is)
    (points_noted c.args.splits.now c.in-Some.id c.args.point s s (sym c.contains_key.ensures ∙ c.if-contains_key.true) refl)

pub returns-then-is_none-clause-points : goal.returns-then-is_none-clause-points
returns-then-is_none-clause-points c =
    let s = c.args.self.now in
    let none : is_some (commit_kept c.args.splits.now s c.in-Some.id) ≡ false = grind (arith) in
    subst (λ t. PointsFollow c.args.splits.now t c.args.point s s) (sym c.in-Some.is)
    (points_stay c.args.splits.now (Some c.in-Some.id) c.args.point s s (ap (λ b. cond b (Some c.in-Some.id) None) none) refl)

pub returns-clause-points : goal.returns-clause-points
returns-clause-points c =
    let s = c.args.self.now in
    let new : Replay = record s { points = c.keep_first.new.table } in
    let some : is_some (commit_kept c.args.splits.now s c.in-Some.id) ≡ true = grind (arith) in
    subst (λ t. PointsFollow c.args.splits.now t c.args.point s new) (sym c.in-Some.is)
    (points_grow c.args.splits.now (Some c.in-Some.id) c.args.point s new c.in-Some.id (ap (λ b. cond b (Some c.in-Some.id) None) some) c.in_ok-keep_first.ensures)
