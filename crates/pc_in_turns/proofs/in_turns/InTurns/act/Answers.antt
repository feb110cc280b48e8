use Rattle.std.proofs.Common.{sym, subst}
use Rattle.pc_in_turns.proofs.Acting.{act_as, ends_as}
use Rattle.pc_in_turns.specs.declared.task.Task.TheVariants as tasks
use Rattle.pc_scripted.proofs.Beginning.{on_ok}
use Rattle.pc_in_turns.proofs.in_turns.InTurns.act.Goals as goal

pub returns-in-Open-clause-acted : goal.returns-in-Open-clause-acted
returns-in-Open-clause-acted g c = on_ok c.go_until.result _ _ (act_as g.C.Clock.rule c.args.index c.args.self.now c.go_until.new.self (tasks.Open c.in-Open.items) c.args.task c.in-Open.is) c.go_until.ensures

pub returns-in-Open-clause-ends : goal.returns-in-Open-clause-ends
returns-in-Open-clause-ends g c = on_ok c.go_until.result _ _ (λ acted. ends_as c.args.index c.go_until.new.self (tasks.Open c.in-Open.items) c.args.task c.in-Open.is (λ s at. tt)) c.go_until.ensures

pub returns-in-Call-clause-acted : goal.returns-in-Call-clause-acted
returns-in-Call-clause-acted g c = on_ok c.call.result _ _ (act_as g.C.Clock.rule c.args.index c.args.self.now c.call.new.self tasks.Call c.args.task c.in-Call.is) c.call.ensures

pub returns-in-Call-clause-ends : goal.returns-in-Call-clause-ends
returns-in-Call-clause-ends g c = on_ok c.call.result _ _ (λ acted. ends_as c.args.index c.call.new.self tasks.Call c.args.task c.in-Call.is (λ s at. tt)) c.call.ensures

pub returns-in-Job-clause-acted : goal.returns-in-Job-clause-acted
returns-in-Job-clause-acted g c = on_ok c.finish_job.result _ _ (act_as g.C.Clock.rule c.args.index c.args.self.now c.finish_job.new.self tasks.Job c.args.task c.in-Job.is) c.finish_job.ensures

pub returns-in-Job-clause-ends : goal.returns-in-Job-clause-ends
returns-in-Job-clause-ends g c = on_ok c.finish_job.result _ _ (λ acted. ends_as c.args.index c.finish_job.new.self tasks.Job c.args.task c.in-Job.is (λ s at. tt)) c.finish_job.ensures

pub returns-in-Rest-clause-acted : goal.returns-in-Rest-clause-acted
returns-in-Rest-clause-acted g c = on_ok c.go_to_end.result _ _ (act_as g.C.Clock.rule c.args.index c.args.self.now c.go_to_end.new.self tasks.Rest c.args.task c.in-Rest.is) c.go_to_end.ensures.acted

pub returns-in-Rest-clause-ends : goal.returns-in-Rest-clause-ends
returns-in-Rest-clause-ends g c = on_ok c.go_to_end.result _ _ (ends_as c.args.index c.go_to_end.new.self tasks.Rest c.args.task c.in-Rest.is) c.go_to_end.ensures.over
