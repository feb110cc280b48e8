use Rattle.std.proofs.Common.{◌≡◌, sym, subst, ◌∙◌}
use Rattle.std.specs.BTreeMap.{get}
use Rattle.pc_base.specs.Transaction.{txn_cmp}
use Rattle.pc_desk.specs.Commits.{IsCommitPlace}
use Rattle.pc_desk.proofs.own_log.OwnLog.commit_place.Goals as goal

pub returns : goal.returns
returns g c =
    let place : c.copied.result ≡ get txn_cmp c.self.inside.commits c.args.id = c.copied.ensures ∙ c.get.ensures.value in
    subst (λ o. IsCommitPlace c.args.id c.args.self.now.part.own o) (sym place)
    (subst (λ l. IsCommitPlace c.args.id l.part.own (get txn_cmp c.self.inside.commits c.args.id)) c.self.view_is (c.self.invariant.3.each c.args.id))
