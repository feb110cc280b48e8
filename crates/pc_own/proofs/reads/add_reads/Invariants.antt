use Rattle.std.proofs.Common.{◌≡◌, ◌++◌, take}
use Rattle.pc_known.specs.Sends.{KeepsSends}
use Rattle.pc_own.specs.ReadSpans.{AreReadSpans}
use Rattle.pc_world.specs.Known.{Known}
use Rattle.pc_world.specs.Known.Reads.{reads_heard}
use Rattle.pc_world.specs.Known.Traffic.{replies_to}
use Rattle.pc_own.proofs.reads.add_reads.Given as goal

abbrev pub invariant-loop-hearing : goal.invariant-loop-hearing
invariant-loop-hearing l = record {
  told : (k : Known) → KeepsSends k l.sends → l.reads.items ≡ l.initial.reads.items ++ reads_heard (replies_to k.sent_now (take l.hearing-index l.heard));
  spans : AreReadSpans l.initial.reads.items l.initial.spans → AreReadSpans l.reads.items l.spans;
}
