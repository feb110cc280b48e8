use Rattle.std.proofs.Common.{arith, refl, length-take}
use Rattle.pc_io.proofs.Taken.{exactly_taken-more, TakesAtMost-more}
use Rattle.pc_io.proofs.reading.read_all.Goals as goal

pub returns-then-count-room-clause-too_long : goal.returns-then-count-room-clause-too_long
returns-then-count-room-clause-too_long g c =
    exactly_taken-more _ _ _ _ _ _ _ c.loop-bytes.invariant.read c.in_ok-count.ensures.bytes.0 c.in_ok-count.ensures.bound.0
    (omega (arith, c.in_ok-count.ensures.bound.0, c.read.auto.into, length-take c.min-wanted.result c.loop-bytes.chunk)) refl

pub returns-then-count-room-clause-taken : goal.returns-then-count-room-clause-taken
returns-then-count-room-clause-taken g c =
    TakesAtMost-more _ _ _ _ _ _ _ c.loop-bytes.invariant.read c.in_ok-count.ensures.bytes.0
    (omega (arith, c.in_ok-count.ensures.bound.0, c.read.auto.into, length-take c.min-wanted.result c.loop-bytes.chunk))

pub returns-in_err-extend_from_slice-clause-taken : goal.returns-in_err-extend_from_slice-clause-taken
returns-in_err-extend_from_slice-clause-taken g c =
    TakesAtMost-more _ _ _ _ _ _ _ c.loop-bytes.invariant.read c.in_ok-count.ensures.bytes.0 (omega arith)
