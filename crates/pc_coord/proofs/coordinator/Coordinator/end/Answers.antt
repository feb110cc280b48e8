use Rattle.std.proofs.Common.{◌≡◌, true, false, inl, inr, sym, ap, ◌∙◌, subst}
use Rattle.pc_coord.proofs.Coming.{answered_none}
use Rattle.pc_coord.specs.Coming.{goes_by_sequence}
use Rattle.pc_coord.proofs.Joining.{joins_ok}
use Rattle.pc_coord.specs.Going.{IsForMany}
use Rattle.pc_coord.proofs.coordinator.Coordinator.end.Goals as goal

pub returns-in-Prove-clause-knows : goal.returns-in-Prove-clause-knows
returns-in-Prove-clause-knows c = λ loses k r w a due many. c.proven.ensures.knows loses k c.in-Prove.call c.in-Prove.all r w a c.in-Prove.is due

pub returns-in-Prove-clause-comes : goal.returns-in-Prove-clause-comes
returns-in-Prove-clause-comes c = λ due isnt. c.proven.ensures.comes (answered_none c.args.call.wave due)

pub returns-in-Read-clause-knows : goal.returns-in-Read-clause-knows
returns-in-Read-clause-knows c = λ loses k r w a due many. c.read.ensures.knows loses k r w a c.in-Read.is due

pub returns-in-Read-clause-comes : goal.returns-in-Read-clause-comes
returns-in-Read-clause-comes c = λ due isnt. c.read.ensures.comes

pub returns-in-Refresh-clause-knows : goal.returns-in-Refresh-clause-knows
returns-in-Refresh-clause-knows c = λ loses k r w a due many. c.refreshed.ensures.knows loses k c.in-Refresh.refusals c.in-Refresh.puts r w a c.in-Refresh.is due

pub returns-in-Refresh-clause-comes : goal.returns-in-Refresh-clause-comes
returns-in-Refresh-clause-comes c = λ due isnt. c.refreshed.ensures.comes (answered_none c.args.call.wave due)

pub returns-in-Stage-clause-knows : goal.returns-in-Stage-clause-knows
returns-in-Stage-clause-knows c = λ loses k r w a due many. c.staged.ensures.knows loses k c.in-Stage.refusals r w a c.in-Stage.is due

pub returns-in-Stage-clause-comes : goal.returns-in-Stage-clause-comes
returns-in-Stage-clause-comes c = λ due isnt. let e : true ≡ false = sym (ap goes_by_sequence c.in-Stage.is) ∙ isnt in absurd cc

pub returns-in-Prove-clause-left : goal.returns-in-Prove-clause-left
returns-in-Prove-clause-left c = c.proven.ensures.left

pub returns-in-Prove-clause-joins : goal.returns-in-Prove-clause-joins
returns-in-Prove-clause-joins c = c.proven.ensures.joins

pub returns-in-Refresh-clause-left : goal.returns-in-Refresh-clause-left
returns-in-Refresh-clause-left c = c.refreshed.ensures.left

pub returns-in-Refresh-clause-joins : goal.returns-in-Refresh-clause-joins
returns-in-Refresh-clause-joins c = c.refreshed.ensures.joins

pub returns-in-Stage-clause-left : goal.returns-in-Stage-clause-left
returns-in-Stage-clause-left c = c.staged.ensures.left c.in-Stage.refusals c.in-Stage.is

pub returns-in-Stage-clause-joins : goal.returns-in-Stage-clause-joins
returns-in-Stage-clause-joins c = c.staged.ensures.joins

pub returns-in-Read-clause-left : goal.returns-in-Read-clause-left
returns-in-Read-clause-left c = c.read.ensures.left

pub returns-in-Read-clause-joins : goal.returns-in-Read-clause-joins
returns-in-Read-clause-joins c = joins_ok c.read.result c.args.self.now.later c.read.new.self.due c.read.ensures.idle

pub returns-in-Beat-clause-knows : goal.returns-in-Beat-clause-knows
returns-in-Beat-clause-knows c = λ loses k r w a due many.
    elim c.in-Beat.is [
      | inl beat ↦ absurd (subst IsForMany beat.2 many)
      | inr one ↦ elim one [
        | inl write ↦ absurd (subst IsForMany write many)
        | inr two ↦ elim two [
          | inl query ↦ absurd (subst IsForMany query.3 many)
          | inr three ↦ elim three [
            | inl commit ↦ absurd (subst IsForMany commit.1 many)
            | inr four ↦ elim four [ inl last ↦ absurd (subst IsForMany last.2 many) | inr abort ↦ absurd (subst IsForMany abort.1 many) ]
          ]
        ]
      ]
    ]
