use Rattle.std.proofs.Common.{ap, refl, ◌∙◌}
use Rattle.pc_call.proofs.Taking.{proof_step, put_step}
use Rattle.pc_call.proofs.proves.proof_wave.Goals as goal

pub loop-write-init : goal.loop-write-init
loop-write-init c = (c.new-wave.ensures.made, refl)

pub loop-write-preserved : goal.loop-write-preserved
loop-write-preserved c =
    let x = c.args.txn.now in
    let anchor = c.args.anchor.now in
    let ws = c.writes-write-items.result.now in
    let n = c.loop-write.write-index in
    let w = c.write-item.result in
    let pairs = c.writes-write-items.ensures.by_sequence in (
      c.in_ok-add_waited.ensures.made
          ∙ proof_step x c.args.later.now anchor ws pairs n w c.loop-write-test.true c.write-item.is c.args.call.now c.args.all c.loop-write.wave c.loop-write.later c.loop-write.invariant.0 c.loop-write.invariant.1,
      c.in_ok-add_waited.ensures.left ∙ put_step x c.args.later.now anchor ws pairs n w c.loop-write-test.true c.write-item.is c.args.call.now c.args.all c.loop-write.later c.loop-write.invariant.1,
    )
