use Rattle.std.proofs.Common.{◌≡◌, take}
use Rattle.pc_known.specs.Parts.{part_span}
use Rattle.pc_knowledge.specs.Good.{good_after_all}
use Rattle.pc_knowledge.proofs.good.good_after_all.Given as goal

abbrev pub invariant-loop-hearing : goal.invariant-loop-hearing
invariant-loop-hearing l = l.last ≡ good_after_all l.id (part_span l.span) (take l.hearing-index l.heard) l.fn.good
