use Rattle.std.proofs.lemmas.Result.{on_ok_weaker}
use Rattle.pc_own.proofs.ByNumber.{last_changed}
use Rattle.pc_own.proofs.txns.Txns.tell.Goals as goal
use Rattle.pc_world.specs.Known.Traffic.{replies_to}

pub returns : goal.returns
returns c k keeps =
    on_ok_weaker c.tell_last.result
    (last_changed c.args.answer.now (replies_to k.sent_now c.args.heard_now.now) c.args.self.now c.self.inside.txns.items c.tell_last.new.txns.items c.self.view_is)
    (c.tell_last.ensures k keeps)
