-- Keys and names of transactions: what the tests for the same one tell.
use Rattle.std.proofs.Common.{◌≡◌, ◌≢◌, ℕ, true, false, List, refl, ap, subst, ◌∙◌, arith}
use Rattle.std.proofs.lemmas.Cmp.{nat_list_cmp_total, tied_itself}
use Rattle.std.proofs.lemmas.Map.Lookups.{exact_bytes}
use Rattle.std.specs.Cmp.Lexicographic.{slice_cmp}
use Rattle.std.specs.declared.cmp.Ordering.{Ordering}
use Rattle.std.specs.declared.cmp.Ordering.TheVariants as orderings
use Rattle.std.specs.Ordering.{is_eq, is_lt, nat_cmp}
use Rattle.pc_base.specs.declared.transaction.TxnId.{TxnId}
use Rattle.pc_base.specs.Span.{key_below, same_key}
use Rattle.pc_base.specs.Transaction.{same_txn}

pub equal-is : (o : Ordering) → is_eq o ≡ true → o ≡ orderings.Equal
equal-is orderings.Less h = absurd cc
equal-is orderings.Equal h = refl
equal-is orderings.Greater h = absurd cc

pub same_key-is : (one other : List ℕ) → same_key one other ≡ true → one ≡ other
same_key-is one other h = exact_bytes one other (equal-is (slice_cmp nat_cmp one other) h)

pub same_key-self : (key : List ℕ) → same_key key key ≡ true
same_key-self key = ap is_eq (tied_itself nat_list_cmp_total key)

pub same_key-equal : (one other : List ℕ) → one ≡ other → same_key one other ≡ true
same_key-equal one other h = subst (λ k. same_key one k ≡ true) h (same_key-self one)

pub same_key-differs : (one other : List ℕ) → same_key one other ≡ false → one ≢ other
same_key-differs one other h same = let is : same_key one other ≡ true = same_key-equal one other same in absurd cc

-- no key is below itself
pub key_below-self : (key : List ℕ) → key_below key key ≡ false
key_below-self key = ap is_lt (tied_itself nat_list_cmp_total key)

pub same_txn-self : (id : TxnId) → same_txn id id ≡ true
same_txn-self id = grind arith

pub same_txn-is : (one other : TxnId) → same_txn one other ≡ true → one ≡ other
same_txn-is one other h =
    let session : one.session ≡ other.session = grind arith in
    let number : one.number ≡ other.number = grind arith in
    λ i. record { session = session i; number = number i }

-- of two names that are the same, both differ from a third or neither does
pub same_txn-differs : (one two other : TxnId) → same_txn one two ≡ true → same_txn two other ≡ false → same_txn one other ≡ false
same_txn-differs one two other h k = grind arith
