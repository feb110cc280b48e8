use Rattle.std.proofs.Common.{◌≡◌, Bool, true, false, if◌then◌else◌, [], ◌∷◌, ◌++◌, append-nil, refl, sym, ap, subst, ◌∙◌}
use Rattle.std.specs.Option.{option_map_or}
use Rattle.pc_base.proofs.TxnOrder.{txn_equal}
use Rattle.pc_base.specs.declared.transaction.TxnId.{TxnId}
use Rattle.pc_base.specs.Transaction.{same_txn}
use Rattle.pc_files.proofs.Narrow.{same_is}
use Rattle.pc_files.specs.Filing.{filed_under}
use Rattle.pc_files.proofs.filed.Filed.add.Goals as goal

pub returns : goal.returns
returns g c id = by (same_txn c.args.id id) refl
  where
    by : (b : Bool) → same_txn c.args.id id ≡ b → filed_under {X = g.row.T.Denot} id record { alloc = c.args.self.now.alloc; lists = c.insert.new.self } ≡ filed_under id c.args.self.now ++ (if b then c.args.item ∷ [] else [])
    by true e =
        subst (λ (i : TxnId). filed_under {X = g.row.T.Denot} i record { alloc = c.args.self.now.alloc; lists = c.insert.new.self } ≡ filed_under i c.args.self.now ++ c.args.item ∷ []) (same_is c.args.id id e)
        (ap (λ o. option_map_or (λ list. list.items) o []) c.in_ok-insert.ensures.updates.1 ∙ c.in_ok-push.ensures.items ∙ ap (λ xs. xs ++ c.args.item ∷ []) c.taken_out-list.ensures.list)
    by false e =
        ap (λ o. option_map_or (λ list. list.items) o []) (c.in_ok-insert.ensures.updates.2 id (txn_equal c.args.id id ∙ e) ∙ c.taken_out-list.ensures.others id e)
        ∙ sym (append-nil (filed_under id c.args.self.now))
