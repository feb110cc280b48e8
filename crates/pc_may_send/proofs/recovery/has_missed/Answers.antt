use Rattle.std.proofs.Common.{Any, false, refl}
use Rattle.pc_may_send.proofs.Existing.{through_none, through_some}
use Rattle.pc_may_send.proofs.recovery.has_missed.Goals as goal
use Rattle.pc_world.specs.Send.Recovery.{MetStaging, WasMissed}

pub returns-in-Some : goal.returns-in-Some
returns-in-Some c = through_some (λ w. MetStaging c.args.id c.args.epoch c.args.ts w c.args.hearing.now) (λ w. Any (WasMissed c.args.id c.args.epoch c.args.ts w c.args.key.now c.args.by) c.args.heard.now) c.some_missed.result c.in-Some.writes.now c.in-Some.ensures c.some_missed.ensures

pub returns-in-None : goal.returns-in-None
returns-in-None c = through_none (λ w. MetStaging c.args.id c.args.epoch c.args.ts w c.args.hearing.now) (λ w. Any (WasMissed c.args.id c.args.epoch c.args.ts w c.args.key.now c.args.by) c.args.heard.now) false c.in-None.ensures refl
