use Rattle.std.proofs.Common.{◌≡◌, map, ap, ◌∙◌, subst, sym, rules}
use Rattle.std.proofs.lemmas.Map.Iter.{iter_end}
use Rattle.std.specs.Map.Iter.{deref}
use Rattle.std.specs.Prelude.{All}
use Rattle.pc_reads.proofs.Goods.{may_refresh}
use Rattle.pc_reads.specs.ReadsStanding.{MayRefresh, refresh_to}
use Rattle.pc_reads.proofs.reads.TxnReads.refreshes.Goals as goal

pub returns-clause-made : goal.returns-clause-made
returns-clause-made c =
    let start : c.into_iter-span-iterator.result ≡ c.iter-span-items.result = search rules in
    let end = iter_end deref c.iter-span-items.result c.loop-span.yielded c.into_iter-span-iterator.result _ _ _ start c.loop-span.yielded_by c.in-None.is c.next.ensures.steps in
    c.loop-span.invariant ∙ ap (map (refresh_to c.args.id c.args.self.now.ts c.args.to)) (end.0 ∙ c.iter-span-items.ensures)

pub returns-clause-may : goal.returns-clause-may
returns-clause-may c = λ k t stands committing.
    subst (All (MayRefresh k)) (sym (returns-clause-made c)) (may_refresh k t c.args.id c.args.self.now.spans c.args.self.now.ts c.args.to stands committing)
