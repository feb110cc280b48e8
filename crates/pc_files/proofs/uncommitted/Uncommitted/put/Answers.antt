use Rattle.std.proofs.Common.{◌≡◌, Bool, true, false, cond, List, refl, sym, ap, subst, ◌∙◌}
use Rattle.std.specs.BTreeSet.{contains}
use Rattle.pc_base.proofs.TxnOrder.{txn_equal}
use Rattle.pc_base.specs.declared.transaction.TxnId.{TxnId}
use Rattle.pc_base.specs.Transaction.{same_txn, txn_cmp}
use Rattle.pc_files.proofs.Narrow.{same_is, uncommitted}
use Rattle.pc_files.proofs.uncommitted.Uncommitted.put.Goals as goal
use Rattle.pc_files.specs.Filing.{deciding_of}
use Rattle.pc_world.specs.Known.Traffic.{Heard, Sent}
use Rattle.pc_world.specs.StageFate.{IsUncommitted}

pub returns-in_ok-insert : goal.returns-in_ok-insert
returns-in_ok-insert c all replies sent heard are id had = by (same_txn c.args.id id) refl
  where
    old : Bool
    old = contains txn_cmp c.args.self.now.ids id

    there : (b : Bool) → same_txn c.args.id id ≡ b → cond b true old ≡ true
    there b e = ap (λ b. cond b true old) (sym (txn_equal c.args.id id ∙ e)) ∙ sym (c.in_ok-insert.ensures.updates.0 id) ∙ had

    found : IsUncommitted c.args.id all replies
    found =
        (uncommitted c.args.id all replies).0
        (subst (λ (hs : List Heard). IsUncommitted c.args.id (deciding_of c.args.id all) hs) heard
        (subst (λ (ms : List Sent). IsUncommitted c.args.id ms c.args.heard.now) sent (c.is_uncommitted.ensures.0 c.if-is_uncommitted.true)))

    by : (b : Bool) → same_txn c.args.id id ≡ b → IsUncommitted id all replies
    by true e = subst (λ (i : TxnId). IsUncommitted i all replies) (same_is c.args.id id e) found
    by false e = are id (there false e)
