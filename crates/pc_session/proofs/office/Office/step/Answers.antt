use Rattle.std.proofs.Common.{sym, subst, All}
use Rattle.pc_session.proofs.Inside.{step_from}
use Rattle.pc_session.proofs.Stepping.{finished_step, may_finish}
use Rattle.pc_session.specs.Session.{IsAtRest}
use Rattle.std.proofs.lemmas.Result.{err_from_is_err_and}
use Rattle.pc_session.proofs.Ending.{breaks_from}
use Rattle.pc_turns.specs.Order.{IsInBetween}
use Rattle.pc_session.proofs.office.Office.step.Goals as goal

pub finish_job-requires : goal.finish_job-requires
finish_job-requires g c = may_finish _ c.in-Some.job c.pop_front.new.self.items (subst (λ s. IsAtRest s) (sym c.self.view_is) c.requires) c.in-Some.ensures.items

pub returns-clause-ok : goal.returns-clause-ok
returns-clause-ok g c =
    let rest = subst (λ s. IsAtRest s) (sym c.self.view_is) c.requires in
    step_from _ c.args.self.now _ c.self.view_is
    (finished_step _ c.in-Some.job c.pop_front.new.self.items rest c.in-Some.ensures.items c.finish_job.new.desk c.raise.new.self c.in_ok-ts.ts c.in_ok-ts.ensures.ok c.raise.ensures c.coordinating_goes_on.ensures)

pub returns-in_err-ts-clause-ended : goal.returns-in_err-ts-clause-ended
returns-in_err-ts-clause-ended g c =
    let p = err_from_is_err_and c.from_residual.result c.from_residual.ensures.1 in
    rw (p.1, p.2) (breaks_from _ c.args.self.now c.finish_job.new.desk c.self.view_is (All IsInBetween) c.in_err-ts.field-0.0 c.in_err-ts.ensures.ended)
