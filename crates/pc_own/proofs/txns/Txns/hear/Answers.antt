use Rattle.std.proofs.Common.{◌≡◌, None, Some, sym, ap, ◌∙◌}
use Rattle.std.proofs.lemmas.Result.{on_ok_weaker}
use Rattle.pc_own.proofs.ByNumber.{one_changed, unchanged}
use Rattle.pc_own.proofs.Others.{heard_none, heard_other}
use Rattle.pc_own.proofs.txns.Txns.hear.Goals as goal
use Rattle.pc_own.specs.Changes.{raised_by}
use Rattle.pc_world.specs.Known.Transactions.{txn_heard}

pub returns-in-None : goal.returns-in-None
returns-in-None c numbered =
    let none : raised_by c.args.hearing.now.request ≡ None = ap (λ h. raised_by h.request) (sym c.hearing.view_is) ∙ sym c.in-None.ensures in
    sym (unchanged (txn_heard c.args.sent.now (Some c.args.hearing.now)) (heard_none c.args.sent.now c.args.hearing.now none) c.args.self.now)

pub returns-in-Some : goal.returns-in-Some
returns-in-Some c numbered =
    let some : raised_by c.args.hearing.now.request ≡ Some c.in-Some.number = ap (λ h. raised_by h.request) (sym c.hearing.view_is) ∙ sym c.in-Some.ensures in
    on_ok_weaker c.hear_at.result
    (one_changed (txn_heard c.args.sent.now (Some c.args.hearing.now)) c.in-Some.number c.args.self.now c.self.inside.txns.items c.hear_at.new.txns.items (heard_other c.args.sent.now c.args.hearing.now c.in-Some.number some) numbered c.self.view_is)
    c.hear_at.ensures
