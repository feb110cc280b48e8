use Rattle.std.proofs.Common.{◌≡◌, ◌≤◌, count_by}
use Rattle.pc_known.specs.Parts.{part_span}
use Rattle.pc_knowledge.proofs.GoodReads.{beyond, way_in}
use Rattle.pc_knowledge.specs.Good.{good_after_all}
use Rattle.pc_world.specs.Known.Reads.{IsGoodTo}
use Rattle.pc_knowledge.proofs.good.good_to.Given as goal

abbrev pub invariant-further : goal.invariant-further
invariant-further l = record {
  round : l.next ≡ good_after_all l.id (part_span l.span) l.heard l.good;
  above : l.fn.ts ≤ l.good;
  good : IsGoodTo l.id l.heard (part_span l.span) l.fn.ts l.good;
}

abbrev pub decreases-further : goal.decreases-further
decreases-further l = count_by (beyond (way_in l.id (part_span l.span)) l.good) l.heard
