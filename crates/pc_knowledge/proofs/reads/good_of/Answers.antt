use Rattle.std.proofs.Common.{◌≡◌, List, subst, sym, ◌∙◌}
use Rattle.pc_base.specs.declared.transaction.TxnId.{TxnId}
use Rattle.pc_knowledge.proofs.LastGood.{last_good_now}
use Rattle.pc_knowledge.proofs.reads.good_of.Goals as goal
use Rattle.pc_knowledge.specs.LastGood.{AreGoodUpTo, AreLastGood}
use Rattle.pc_world.specs.Known.Reads.{Read}

pub returns-then-are_refreshed : goal.returns-then-are_refreshed
returns-then-are_refreshed c k files last are =
    let of : c.as_slice.result.now ≡ c.args.t.now.reads = c.as_slice.ensures ∙ c.reads.ensures in
    subst (AreLastGood k) (sym c.number-at.ensures)
    (last_good_now k c.args.t.now c.args.from last
    (subst (λ (id : TxnId). AreGoodUpTo id k.heard c.args.from c.args.t.now.reads) c.id.ensures
    (subst (λ (rs : List Read). AreGoodUpTo c.id.result k.heard c.args.from rs) of (c.are_refreshed.ensures k files c.if-are_refreshed.true))))
