-- Where intents stand in the order of their keys, the first that is in the way is the one of least key.
use Rattle.std.proofs.Common.{◌≡◌, ℕ, Bool, true, false, nat_le, ◌&&◌, not, cond, if◌then◌else◌, List, [], ◌∷◌, filter, find, fold, None, Some, refl, sym, ap, ◌∙◌}
use Rattle.std.proofs.lemmas.Cmp.{nat_list_cmp_total}
use Rattle.std.specs.Cmp.Lexicographic.{slice_cmp}
use Rattle.std.specs.declared.cmp.Ordering.{Ordering}
use Rattle.std.specs.declared.cmp.Ordering.TheVariants.{Less, Equal, Greater}
use Rattle.std.specs.List.{AllByRecursion as Each}
use Rattle.std.specs.List.Sorted.{IsStrictlySortedBy}
use Rattle.std.specs.Map.{keys_of}
use Rattle.std.specs.Ordering.{is_lt, nat_cmp, ordering_reverse}
use Rattle.pc_base.specs.declared.span.Span.{Span}
use Rattle.pc_base.specs.declared.transaction.TxnId.{TxnId}
use Rattle.pc_base.specs.Span.{contains}
use Rattle.pc_base.specs.Transaction.{same_txn}
use Rattle.pc_proto.specs.declared.record.Intent.{Intent}
use Rattle.pc_proto.specs.Intents.{lesser_key}

-- The intent is another transaction's, in the span, at or below the timestamp.
abbrev pub is_met : Span → ℕ → TxnId → List ℕ × Intent → Bool
is_met span ts id e = contains span e.0 && (nat_le e.1.ts ts && not (same_txn e.1.meta.id id))

turned : (o : Ordering) → o ≡ Less → is_lt (ordering_reverse o) ≡ false
turned Less h = refl
turned Equal h = absurd cc
turned Greater h = absurd cc

-- the lesser key stays where all others are above it
stays : (e : List ℕ × Intent) (test : List ℕ × Intent → Bool) (es : List (List ℕ × Intent)) → Each (λ k. slice_cmp nat_cmp e.0 k ≡ Less) (keys_of es) → fold lesser_key (Some e) (filter test es) ≡ Some e
stays e test [] above = refl
stays e test (f ∷ fs) above = by (test f) (stays e test fs above.1)
  where
    kept : lesser_key (Some e) f ≡ Some e
    kept = ap (λ b. if b then Some f else Some e) (ap is_lt (nat_list_cmp_total.antisymm f.0 e.0) ∙ turned (slice_cmp nat_cmp e.0 f.0) above.0)

    by : (b : Bool) → fold lesser_key (Some e) (filter test fs) ≡ Some e → fold lesser_key (Some e) (cond b (f ∷ filter test fs) (filter test fs)) ≡ Some e
    by true rest = ap (λ best. fold lesser_key best (filter test fs)) kept ∙ rest
    by false rest = rest

pub first_is_least : (test : List ℕ × Intent → Bool) (es : List (List ℕ × Intent)) → IsStrictlySortedBy (slice_cmp nat_cmp) (keys_of es) → find test es ≡ fold lesser_key None (filter test es)
unfolding IsStrictlySortedBy
first_is_least test [] sorted = refl
first_is_least test (e ∷ es) sorted = by (test e) (first_is_least test es sorted.1)
  where
    by : (b : Bool) → find test es ≡ fold lesser_key None (filter test es) → cond b (Some e) (find test es) ≡ fold lesser_key None (cond b (e ∷ filter test es) (filter test es))
    by true rest = sym (stays e test es sorted.0)
    by false rest = rest
