use Rattle.std.proofs.Common.{All, length, take}
use Rattle.pc_known.specs.Parts.{part_span}
use Rattle.pc_may_tell.proofs.Scans.{GoesOn}
use Rattle.pc_may_tell.proofs.rows.+are_rows_now.Given as goal

abbrev pub decreases-are_rows_now : goal.decreases-are_rows_now
decreases-are_rows_now l = length l.cut.now

abbrev pub invariant-loop-hearing : goal.invariant-loop-hearing
invariant-loop-hearing l = All (λ h. GoesOn l.sends l.heard (part_span l.piece-inside.part) l.others l.rows h → ⊥) (take l.hearing-index l.heard)
