-- The locks with one more key are the ordered set with it.
use Rattle.std.proofs.Common.{◌≡◌, ℕ, cond, List, [], ◌∷◌, refl, ap}
use Rattle.std.specs.BTreeSet.{insert_key}
use Rattle.std.specs.Cmp.Lexicographic.{slice_cmp}
use Rattle.std.specs.Ordering.{is_eq, is_lt, match_ordering, nat_cmp}
use Rattle.std.specs.declared.cmp.Ordering.{Ordering}
use Rattle.std.specs.declared.cmp.Ordering.TheVariants.{Less, Equal, Greater}
use Rattle.pc_world.specs.Known.Transactions.{with_lock}

pub inserted : (key : List ℕ) (locks : List (List ℕ)) → insert_key (slice_cmp nat_cmp) locks key ≡ with_lock key locks
inserted key [] = refl
inserted key (lock ∷ locks) = by (slice_cmp nat_cmp key lock) (inserted key locks)
  where
    by : (o : Ordering) → insert_key (slice_cmp nat_cmp) locks key ≡ with_lock key locks
        → match_ordering o (key ∷ lock ∷ locks) (lock ∷ locks) (lock ∷ insert_key (slice_cmp nat_cmp) locks key)
        ≡ cond (is_lt o) (key ∷ lock ∷ locks) (cond (is_eq o) (lock ∷ locks) (lock ∷ with_lock key locks))
    by Less later = refl
    by Equal later = refl
    by Greater later = ap (λ ls. lock ∷ ls) later
