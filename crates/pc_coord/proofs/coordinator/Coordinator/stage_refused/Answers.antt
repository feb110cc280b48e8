use Rattle.std.proofs.Common.{◌≡◌, sym, ap, ◌∙◌, subst}
use Rattle.pc_call.specs.Losses.{is_lost_after}
use Rattle.pc_coord.proofs.Joining.{joins_ok}
use Rattle.pc_coord.specs.Coordination.{Coordination, setting_of}
use Rattle.pc_call.proofs.Faults.{stages_give_up}
use Rattle.pc_coord.proofs.Knowing.{asked_begins}
use Rattle.pc_coord.proofs.Lost.{blocks_begin, stays_beside}
use Rattle.pc_world.specs.Tell.Refusal.{WasLost}
use Rattle.pc_call.specs.declared.purpose.Purpose.TheVariants as purposes
use Rattle.pc_coord.proofs.coordinator.Coordinator.stage_refused.Goals as goal

pub returns-then-is_lost-clause-knows : goal.returns-then-is_lost-clause-knows
returns-then-is_lost-clause-knows c = λ loses k st n r opened on h may suits stages lost.
    let s = c.args.self.now in
    let x = c.args.txn in
    let ms = c.args.call.wave in
    let l = lost (ap (λ (v : Coordination). is_lost_after v.tries ms) (sym c.self.view_is) ∙ (sym c.is_lost.ensures ∙ c.if-is_lost.true)) in
    let u = stages_give_up (setting_of loses s) c.args.recorded n k x ms (on n stages) suits in
    c.end_lost.ensures.knows loses k k r l.0 (λ why is. let e : purposes.Stage n ≡ purposes.Abort why = sym stages ∙ is in absurd cc) (λ isnt. u) h (stays_beside k x.id) (asked_begins k u.s u.opened (blocks_begin u.s.call u.works))
    (subst (λ (v : Coordination). WasLost k v.tries) (sym c.self.view_is) l.1)

pub returns-then-is_lost-clause-waits : goal.returns-then-is_lost-clause-waits
returns-then-is_lost-clause-waits c = c.end_lost.ensures.waits

pub returns-clause-knows : goal.returns-clause-knows
returns-clause-knows c = λ loses k st n r opened on h may suits stages isnt. c.stage_on.ensures.knows loses k st n r opened on h may suits stages

pub returns-clause-waits : goal.returns-clause-waits
returns-clause-waits c = c.stage_on.ensures.waits

pub returns-then-is_lost-clause-left : goal.returns-then-is_lost-clause-left
returns-then-is_lost-clause-left c = λ n stages. c.end_lost.ensures.left

pub returns-then-is_lost-clause-joins : goal.returns-then-is_lost-clause-joins
returns-then-is_lost-clause-joins c = joins_ok c.end_lost.result c.args.self.now.later c.end_lost.new.self.due c.end_lost.ensures.idle

pub returns-clause-left : goal.returns-clause-left
returns-clause-left c = c.stage_on.ensures.left

pub returns-clause-joins : goal.returns-clause-joins
returns-clause-joins c = c.stage_on.ensures.joins
