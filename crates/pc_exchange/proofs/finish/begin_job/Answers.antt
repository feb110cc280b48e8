use Rattle.std.proofs.Common.{refl, sym, subst, ◌∙◌}
use Rattle.pc_exchange.proofs.Finishing.{commit_told, finishing_begins, job_begins}
use Rattle.pc_exchange.specs.Finishing.{IsJobUnderWay}
use Rattle.pc_exchange.proofs.finish.begin_job.Goals as goal

pub returns-in-None-clause-ok : goal.returns-in-None-clause-ok
returns-in-None-clause-ok g c = (refl, record { on = λ m made knows. finishing_begins c.args.desk.now c.args.job.now m c.requires c.in-None.is made knows })

pub returns-in_ok-reply-in-Some-clause-ok : goal.returns-in_ok-reply-in-Some-clause-ok
returns-in_ok-reply-in-Some-clause-ok g c =
    let reply = c.in_ok-reply-in-Some.reply in
    let x = c.in_ok-reply-in-Some.ensures.ok in (
      c.is_committed.ensures ∙ commit_told c.args.desk.now c.args.job.now c.in-Some.ts c.requires c.in-Some.is c.commit_first.new.desk reply x,
      record {
        on = λ m made knows.
            subst (IsJobUnderWay c.args.desk.now c.args.job.now m c.commit_first.new.desk) (sym c.last_stamp.ensures)
            (job_begins c.args.desk.now c.args.job.now c.in-Some.ts c.requires c.in-Some.is c.commit_first.new.desk reply x m made knows);
      },
    )
