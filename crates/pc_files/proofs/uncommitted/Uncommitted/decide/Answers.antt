use Rattle.std.proofs.Common.{◌≡◌, Bool, true, false, cond, [], ◌∷◌, ◌++◌, refl, sym, ap, ◌∙◌}
use Rattle.std.specs.BTreeSet.{contains}
use Rattle.pc_base.proofs.TxnOrder.{txn_equal}
use Rattle.pc_base.specs.Transaction.{same_txn, txn_cmp}
use Rattle.pc_files.proofs.StaysUncommitted.{uncommitted_sent}
use Rattle.pc_files.proofs.uncommitted.Uncommitted.decide.Goals as goal
use Rattle.pc_files.specs.Filing.{decided_by, is_txn}
use Rattle.pc_world.specs.StageFate.{IsUncommitted}

pub returns-in-Some : goal.returns-in-Some
returns-in-Some c sent heard m are is id had = by (same_txn c.in-Some.id id) refl
  where
    old : Bool
    old = contains txn_cmp c.args.self.now.ids id

    there : (b : Bool) → same_txn c.in-Some.id id ≡ b → cond b false old ≡ true
    there b e = ap (λ b. cond b false old) (sym (txn_equal c.in-Some.id id ∙ e)) ∙ sym (c.remove.ensures.updates.0 id) ∙ had

    by : (b : Bool) → same_txn c.in-Some.id id ≡ b → IsUncommitted id (sent ++ m ∷ []) heard
    by true e = let no = there true e in absurd (cc no)
    by false e = uncommitted_sent id sent heard m (ap (λ request. is_txn id (decided_by request)) is ∙ ap (is_txn id) (sym c.in-Some.ensures) ∙ e) (are id (there false e))

pub returns-in-None : goal.returns-in-None
returns-in-None c sent heard m are is id had =
    uncommitted_sent id sent heard m (ap (λ request. is_txn id (decided_by request)) is ∙ ap (is_txn id) (sym c.in-None.ensures)) (are id had)
