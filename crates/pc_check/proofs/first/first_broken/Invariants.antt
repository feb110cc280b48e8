-- The entries so far are a run, the judge has taken them, and the index has their sends.
use Rattle.std.proofs.Common.{take}
use Rattle.pc_check.specs.FirstBroken.{head_with}
use Rattle.pc_sent.specs.Sending.{AreSendsOf}
use Rattle.pc_world.specs.Run.{IsRun}
use Rattle.pc_check.proofs.first.first_broken.Given as goal

abbrev pub invariant-loop-place : goal.invariant-loop-place
invariant-loop-place g l = record {
  kept : g.J.Judge.keeps (head_with l.splits l.sessions l.recoverers) (take l.place l.entries) l.judge;
  run : IsRun (head_with l.splits l.sessions l.recoverers) (take l.place l.entries);
  sends : AreSendsOf (take l.place l.entries) l.sends;
}
