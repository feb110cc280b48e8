use Rattle.std.proofs.Common.{◌↔◌, All, Any, IsTrue, false, refl, subst}
use Rattle.pc_may_send.proofs.Existing.{through_none, through_some}
use Rattle.pc_may_send.proofs.recovery.has_found_all.Goals as goal
use Rattle.pc_world.specs.Send.Recovery.{MetStaging, WasFound}

pub returns-in-Some : goal.returns-in-Some
returns-in-Some c = through_some (λ w. MetStaging c.args.id c.args.epoch c.args.ts w c.args.hearing.now) (λ w. All (λ v. Any (WasFound c.args.id c.args.epoch c.args.ts v) c.args.heard.now) w) c.all_found.result c.in-Some.writes.now c.in-Some.ensures (subst (λ vs. IsTrue c.all_found.result ↔ All (λ v. Any (WasFound c.args.id c.args.epoch c.args.ts v) c.args.heard.now) vs) c.as_slice.ensures c.all_found.ensures)

pub returns-in-None : goal.returns-in-None
returns-in-None c = through_none (λ w. MetStaging c.args.id c.args.epoch c.args.ts w c.args.hearing.now) (λ w. All (λ v. Any (WasFound c.args.id c.args.epoch c.args.ts v) c.args.heard.now) w) false c.in-None.ensures refl
