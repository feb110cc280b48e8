-- The transaction's own intent at a key, by what a search of the table finds there.
use Rattle.std.proofs.Common.{◌≡◌, ℕ, true, false, if◌then◌else◌, List, None, Some, sym, ap, ◌∙◌}
use Rattle.std.specs.BTreeMap.{is_at}
use Rattle.std.specs.Cmp.Lexicographic.{slice_cmp}
use Rattle.std.specs.Map.{lookup}
use Rattle.std.specs.Ordering.{nat_cmp}
use Rattle.pc_base.proofs.KeyTables.{key_lookup}
use Rattle.pc_base.specs.declared.transaction.TxnId.{TxnId}
use Rattle.pc_base.specs.Transaction.{same_txn}
use Rattle.pc_proto.specs.declared.record.Intent.{Intent}
use Rattle.pc_proto.specs.Intents.{intent_at, kept_if, own_at}

module _ (key : List ℕ) (es : List (List ℕ × Intent)) where
  stands-there : (i : Intent) → lookup (is_at (slice_cmp nat_cmp key)) es ≡ Some i → intent_at key es ≡ Some i
  stands-there i found = sym (key_lookup key es) ∙ found

  pub own_is_there : (id : TxnId) (i : Intent) → lookup (is_at (slice_cmp nat_cmp key)) es ≡ Some i → same_txn i.meta.id id ≡ true → own_at id key es ≡ Some i
  own_is_there id i found mine = ap (kept_if (λ i. same_txn i.meta.id id)) (stands-there i found) ∙ ap (λ b. if b then Some i else None) mine

  pub own_is_not : (id : TxnId) (i : Intent) → lookup (is_at (slice_cmp nat_cmp key)) es ≡ Some i → same_txn i.meta.id id ≡ false → own_at id key es ≡ None
  own_is_not id i found other = ap (kept_if (λ i. same_txn i.meta.id id)) (stands-there i found) ∙ ap (λ b. if b then Some i else None) other

  pub own_is_nothing : (id : TxnId) → lookup (is_at (slice_cmp nat_cmp key)) es ≡ None → own_at id key es ≡ None
  own_is_nothing id absent = ap (kept_if (λ i. same_txn i.meta.id id)) (sym (key_lookup key es) ∙ absent)
