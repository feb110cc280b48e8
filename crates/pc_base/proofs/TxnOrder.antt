-- The order of transactions is total, and tells equal ones as the test does.
use Rattle.std.proofs.Common.{◌≡◌, ℕ, ◌&&◌, ◌==◌, List, refl, ap, ◌∙◌, arith}
use Rattle.std.proofs.lemmas.Cmp.{nat_cmp_total, on_total, then_total}
use Rattle.std.proofs.lemmas.Grind.{common_steps}
use Rattle.std.specs.BTreeMap.{is_at}
use Rattle.std.specs.Cmp.{IsTotalOrder}
use Rattle.std.specs.List.Sorted.{IsStrictlySortedBy}
use Rattle.std.specs.Map.{keys_of, lookup, remove_entry}
use Rattle.std.specs.declared.cmp.Ordering.{Ordering}
use Rattle.std.specs.declared.cmp.Ordering.TheVariants.{Less, Equal, Greater}
use Rattle.std.specs.Ordering.{is_eq, nat_cmp, ordering_then}
use Rattle.pc_base.specs.declared.transaction.TxnId.{TxnId}
use Rattle.pc_base.proofs.Entries.{lookup_is_at, removed_is_without}
use Rattle.pc_base.specs.Keyed.{at, without}
use Rattle.pc_base.specs.Transaction.{same_txn, txn_cmp}

then-equal : (one other : Ordering) → is_eq (ordering_then one other) ≡ (is_eq one && is_eq other)
then-equal Less other = refl
then-equal Equal other = refl
then-equal Greater other = refl

numbers-equal : (m n : ℕ) → is_eq (nat_cmp m n) ≡ (m == n)
numbers-equal m n = grind (arith, common_steps)

pub txn_equal : (one other : TxnId) → is_eq (txn_cmp one other) ≡ same_txn one other
txn_equal one other =
    then-equal (nat_cmp one.session other.session) (nat_cmp one.number other.number)
    ∙ ap (λ b. b && is_eq (nat_cmp one.number other.number)) (numbers-equal one.session other.session)
    ∙ ap (λ b. (one.session == other.session) && b) (numbers-equal one.number other.number)

pub txn_total : IsTotalOrder txn_cmp
txn_total = then_total (on_total (λ (t : TxnId). t.session) nat_cmp_total) (on_total (λ (t : TxnId). t.number) nat_cmp_total)

-- the search of an ordered table finds what stands under the transaction
pub txn_lookup : {V : Type 0} (id : TxnId) (entries : List (TxnId × V)) → lookup (is_at (txn_cmp id)) entries ≡ at same_txn id entries
txn_lookup id entries = lookup_is_at txn_total same_txn txn_equal id entries

-- what is taken out of an ordered table is all that stands under the transaction
pub txn_removed : {V : Type 0} (id : TxnId) (entries : List (TxnId × V)) → IsStrictlySortedBy txn_cmp (keys_of entries) → remove_entry (is_at (txn_cmp id)) entries ≡ without same_txn id entries
txn_removed id entries sorted = removed_is_without txn_total same_txn txn_equal id entries sorted
