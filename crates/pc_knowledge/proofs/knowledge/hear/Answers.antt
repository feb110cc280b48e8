use Rattle.std.proofs.Common.{List, None, Some, map, refl, sym, ap, ◌∙◌}
use Rattle.std.proofs.lemmas.Result.{on_ok_weaker}
use Rattle.pc_knowledge.proofs.Raised.{heard_same}
use Rattle.pc_own.proofs.ByNumber.{unchanged}
use Rattle.pc_world.specs.Known.Traffic.{Heard, Sent}
use Rattle.pc_world.specs.Known.Transactions.{txn_heard}
use Rattle.pc_knowledge.specs.Asking.{deciding_asked}
use Rattle.pc_knowledge.proofs.knowledge.hear.Goals as goal

pub returns-in-None : goal.returns-in-None
returns-in-None c k keeps numbered = rw c.in-None.is (sym (unchanged (txn_heard k.sent None) (λ t. refl) c.args.txns.now))

pub returns-in-Some : goal.returns-in-Some
returns-in-Some c k keeps numbered =
    let asked = c.deciding_asked.ensures k keeps ∙ ap (λ (h : Heard). deciding_asked h.request k.sent) c.hearing.view_is in
    rw c.in-Some.is
    (on_ok_weaker c.hear.result
    (λ e. e ∙ ap (λ (sent : List Sent). map (txn_heard sent (Some c.in-Some.hearing.now)) c.args.txns.now) asked ∙ heard_same k.sent c.in-Some.hearing.now c.args.txns.now)
    (c.hear.ensures numbered))
