use Rattle.std.proofs.Common.{◌≡◌, ◌+◌, ◌++◌, ◌∷◌, [], length, sym, ap, subst, ◌∙◌, refl, arith}
use Rattle.pc_report.proofs.Following.{followed, seen_has_room}
use Rattle.pc_report.specs.Replaying.{HasRoomFor, IsReplayOf, PointsFollow, asked_in, states_after, touched_in}
use Rattle.pc_report.specs.declared.replay.Replay.{Replay}
use Rattle.pc_report.specs.Seen.{kept_of}
use Rattle.pc_report.proofs.replay.Replay.follow.Goals as goal

pub evaluate-requires : goal.evaluate-requires
evaluate-requires c =
    subst (HasRoomFor c.args.self.now.states.items c.args.entry.now.actor) (sym (c.kept_of-kept.ensures ∙ ap (kept_of c.args.self.now.whole) c.asked-asked.ensures))
    (seen_has_room c.args.splits.now c.args.before.now c.args.entry.now c.args.self.now.whole c.args.self.now.states.items c.requires.so_far.states c.requires.run (omega arith))

pub returns-clause-replay : goal.returns-clause-replay
returns-clause-replay c =
    let s = c.args.self.now in
    let splits = c.args.splits.now in
    let before = c.args.before.now in
    let entry = c.args.entry.now in
    let far = length before + 1 in
    let noted = c.note_point.new.self in
    let new : Replay = record { whole = s.whole; states = c.evaluate.new.states; anchors = c.note_anchor.new.table; told = c.note_told.new.table; rolled_back = c.note_rolled_back.new.table; points = noted.points } in
    let same : noted ≡ new = c.in_ok-note_point.ensures.same in
    let kept = c.kept_of-kept.ensures ∙ ap (kept_of s.whole) c.asked-asked.ensures in
    let touched = c.touched_in.ensures ∙ ap (λ asked. touched_in asked entry.event) kept in
    let points : PointsFollow splits c.touched_in.result far s new = subst (PointsFollow splits c.touched_in.result far s) same c.in_ok-note_point.ensures.points in
    subst (IsReplayOf splits (before ++ entry ∷ [])) (sym same)
    (followed splits before entry s new
    c.requires.so_far c.in_ok-note_anchor.ensures c.in_ok-note_told.ensures c.in_ok-note_rolled_back.ensures
    refl
    (c.in_ok-evaluate.ensures ∙ ap (states_after s.states.items entry.actor) kept)
    c.requires.unstaged
    (subst (λ t. PointsFollow splits t far s new) touched points))
