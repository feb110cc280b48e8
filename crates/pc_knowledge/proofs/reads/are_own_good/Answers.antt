use Rattle.std.proofs.Common.{◌≡◌, ◌↔◌, IsTrue, List, subst, ◌∙◌}
use Rattle.pc_base.specs.declared.transaction.TxnId.{TxnId}
use Rattle.pc_knowledge.proofs.reads.are_own_good.Goals as goal
use Rattle.pc_knowledge.specs.LastGood.{AreGoodUpTo}
use Rattle.pc_world.specs.Known.Reads.{Read}

pub returns : goal.returns
returns c k keeps =
    let of : c.as_slice.result.now ≡ c.args.t.now.reads = c.as_slice.ensures ∙ c.reads.ensures in
    subst (λ (id : TxnId). IsTrue c.are_all_good.result ↔ AreGoodUpTo id k.heard c.args.ts c.args.t.now.reads) c.id.ensures
    (subst (λ (rs : List Read). IsTrue c.are_all_good.result ↔ AreGoodUpTo c.id.result k.heard c.args.ts rs) of (c.are_all_good.ensures k keeps))
