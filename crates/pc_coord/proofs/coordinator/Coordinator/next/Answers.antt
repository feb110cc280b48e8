use Rattle.std.proofs.Common.{◌≡◌, sym, ap, ◌∙◌, subst, IfOk}
use Rattle.pc_coord.proofs.Told.{next_ok}
use Rattle.pc_coord.specs.Coordination.{Coordination, next_at}
use Rattle.pc_coord.proofs.coordinator.Coordinator.next.Goals as goal

pub returns-in-Call-clause-may : goal.returns-in-Call-clause-may
returns-in-Call-clause-may c = λ loses k knows.
    let s = c.args.self.now in
    next_ok loses s k c.next_in.result (subst (λ n. IfOk c.next_in.result (λ next. next ≡ n)) (sym (ap (λ d. next_at s.pipelining s.txn d) (ap (λ (s : Coordination). s.due) (sym c.self.view_is) ∙ c.in-Call.is))) c.next_in.ensures) knows
