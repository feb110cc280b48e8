use Rattle.std.proofs.Common.{sym}
use Rattle.std.proofs.lemmas.Result.{on_ok_weaker}
use Rattle.pc_own.proofs.ByNumber.{one_changed, unchanged}
use Rattle.pc_own.proofs.Others.{sent_none, sent_other}
use Rattle.pc_own.proofs.txns.Txns.send.Goals as goal
use Rattle.pc_world.specs.Known.Transactions.{txn_sent}

pub returns-in-None : goal.returns-in-None
returns-in-None c numbered = sym (unchanged (txn_sent c.args.request.now) (sent_none c.args.request.now (sym c.in-None.ensures)) c.args.self.now)

pub returns-in-Some : goal.returns-in-Some
returns-in-Some c numbered =
    on_ok_weaker c.send_at.result
    (one_changed (txn_sent c.args.request.now) c.in-Some.number c.args.self.now c.self.inside.txns.items c.send_at.new.txns.items (sent_other c.args.request.now c.in-Some.number (sym c.in-Some.ensures)) numbered c.self.view_is)
    c.send_at.ensures
