use Rattle.std.proofs.Common.{take}
use Rattle.pc_files.specs.Filing.{KeepsFiles}
use Rattle.pc_knowledge.proofs.reads.are_refreshed.Given as goal
use Rattle.pc_knowledge.specs.LastGood.{AreGoodUpTo}
use Rattle.pc_world.specs.Known.{Known}

abbrev pub invariant-loop-read : goal.invariant-loop-read
invariant-loop-read l = (k : Known) → KeepsFiles k l.files → AreGoodUpTo l.id k.heard l.ts (take l.read-index l.reads)
