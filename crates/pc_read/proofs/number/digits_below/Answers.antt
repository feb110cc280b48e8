use Rattle.std.proofs.Common.{arith, ◌+◌}
use Rattle.std.proofs.lemmas.Grind.{common_steps}
use Rattle.pc_read.proofs.Digits.{too_great, value_more}
use Rattle.pc_read.proofs.number.digits_below.Goals as goal

pub returns-then-value-limit : goal.returns-then-value-limit
returns-then-value-limit c =
    let more = value_more c.args.digits.now c.loop-digit.digit-index c.requires.digits c.loop-digit-test.true in
    too_great c.args.digits.now (c.loop-digit.digit-index + 1) c.args.limit (omega arith)

pub loop-digit-preserved : goal.loop-digit-preserved
loop-digit-preserved c =
    let more = value_more c.args.digits.now c.loop-digit.digit-index c.requires.digits c.loop-digit-test.true in
    record { value = omega arith; small = c.if-value-limit.false }

pub returns : goal.returns
returns c = grind (arith, common_steps, c.loop-digit.invariant.value)
