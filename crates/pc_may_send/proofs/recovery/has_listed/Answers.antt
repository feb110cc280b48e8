use Rattle.std.proofs.Common.{IsTrue, false, refl}
use Rattle.pc_may_send.proofs.Existing.{iff_same, through_none, through_some}
use Rattle.pc_may_send.proofs.recovery.has_listed.Goals as goal
use Rattle.pc_world.specs.Known.Transactions.{lists_write}
use Rattle.pc_world.specs.Send.Recovery.{MetStaging}

pub returns-in-Some : goal.returns-in-Some
returns-in-Some c = through_some (λ w. MetStaging c.args.id c.args.epoch c.args.ts w c.args.hearing.now) (λ w. IsTrue (lists_write c.args.key.now c.args.seq w)) c.lists_write.result c.in-Some.writes.now c.in-Some.ensures (iff_same c.lists_write.result (lists_write c.args.key.now c.args.seq c.in-Some.writes.now) c.lists_write.ensures)

pub returns-in-None : goal.returns-in-None
returns-in-None c = through_none (λ w. MetStaging c.args.id c.args.epoch c.args.ts w c.args.hearing.now) (λ w. IsTrue (lists_write c.args.key.now c.args.seq w)) false c.in-None.ensures refl
