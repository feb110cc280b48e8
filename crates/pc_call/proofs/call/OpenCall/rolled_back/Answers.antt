use Rattle.std.proofs.Common.{sym, ◌∙◌}
use Rattle.pc_call.proofs.RolledBack.{over_ok, rolled_back_over, same_why}
use Rattle.pc_call.specs.Learned.{known_heard}
use Rattle.pc_call.proofs.call.OpenCall.rolled_back.Goals as goal

pub returns-in-Abort-clause-over : goal.returns-in-Abort-clause-over
returns-in-Abort-clause-over c = λ session clock begun number set k why h counted w aborts waited is.
    let p = c.args.self.purpose in
    over_ok set session (known_heard h k) c.args.view.now _ why c.args.txn c.rolled_back_by.result c.rolled_back_by.ensures (c.in_ok-copy-in-Abort.ensures ∙ sym (same_why p why _ aborts c.in-Abort.is))
    (rolled_back_over session clock begun set k c.args.txn p c.args.self.wave counted w number c.args.view.now h waited is why aborts)
