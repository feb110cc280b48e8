-- What was kept is that of the entries so far, and so are the sends, the writes and the transactions; how much is kept of a range stays.
use Rattle.std.proofs.Common.{◌≡◌, take}
use Rattle.pc_report.specs.Replaying.{IsReplayOf}
use Rattle.pc_report.specs.Writing.{AreWritesOf}
use Rattle.pc_sent.specs.Sending.{AreSendsOf}
use Rattle.pc_world.specs.CommitOrder.{all_begun}
use Rattle.pc_report.proofs.gathered.Findings.of.Given as goal

abbrev pub invariant-loop-done : goal.invariant-loop-done
invariant-loop-done l = IsReplayOf l.splits (take l.done l.entries) l.replay × AreSendsOf (take l.done l.entries) l.sent × (l.replay.whole ≡ l.whole) × AreWritesOf (take l.done l.entries) l.writes × (l.begun.items ≡ all_begun (take l.done l.entries))
