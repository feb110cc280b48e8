-- Spans stand in a strict order, and with one more of them they still do.
use Rattle.std.proofs.Common.{◌≡◌, ℕ, List, [], ◌∷◌, Option, Some, None, refl, ap, ◌∙◌, All}
use Rattle.std.proofs.lemmas.Cmp.{nat_list_cmp_total, on_total, then_total, tied_itself}
use Rattle.std.proofs.lemmas.List.Elements.{All-cons, All-nil}
use Rattle.std.specs.BTreeSet.{insert_key}
use Rattle.std.specs.Cmp.{IsTotalOrder}
use Rattle.std.specs.Cmp.Lexicographic.{options_total}
use Rattle.std.specs.declared.cmp.Ordering.{Ordering}
use Rattle.std.specs.declared.cmp.Ordering.TheVariants.{Less, Equal, Greater}
use Rattle.std.specs.List.{AllByRecursion as Each}
use Rattle.std.specs.List.Sorted.{IsStrictlySortedBy}
use Rattle.std.specs.Ordering.{match_ordering, ordering_reverse}
use Rattle.pc_base.proofs.Entries.{below_all}
use Rattle.pc_base.specs.declared.span.Span.{Span}
use Rattle.pc_base.specs.declared.span.Span.TheVariants.{One, Between}
use Rattle.pc_base.specs.SpanOrder.{end_cmp, rest_cmp, span_cmp, start_of}
use Rattle.pc_wave.specs.Standing.{Pairwise}

end_antisymm : (x y : Option (List ℕ)) → end_cmp x y ≡ ordering_reverse (end_cmp y x)
end_antisymm None None = refl
end_antisymm None (Some y) = refl
end_antisymm (Some x) None = refl
end_antisymm (Some x) (Some y) = nat_list_cmp_total.antisymm x y

end_trans : (x y z : Option (List ℕ)) → end_cmp x y ≡ Less → end_cmp y z ≡ Less → end_cmp x z ≡ Less
end_trans None None z h l = absurd cc
end_trans None (Some y) z h l = absurd cc
end_trans (Some x) None None h l = absurd cc
end_trans (Some x) None (Some z) h l = absurd cc
end_trans (Some x) (Some y) None h l = refl
end_trans (Some x) (Some y) (Some z) h l = nat_list_cmp_total.trans x y z h l

end_congr : (x y z : Option (List ℕ)) → end_cmp x y ≡ Equal → end_cmp x z ≡ end_cmp y z
end_congr None None z h = refl
end_congr None (Some y) z h = absurd cc
end_congr (Some x) None z h = absurd cc
end_congr (Some x) (Some y) None h = refl
end_congr (Some x) (Some y) (Some z) h = nat_list_cmp_total.congr x y z h

rest_antisymm : (x y : Span) → rest_cmp x y ≡ ordering_reverse (rest_cmp y x)
rest_antisymm (One x) (One y) = refl
rest_antisymm (One x) (Between from to) = refl
rest_antisymm (Between from to) (One y) = refl
rest_antisymm (Between from to) (Between first end) = end_antisymm to end

rest_trans : (x y z : Span) → rest_cmp x y ≡ Less → rest_cmp y z ≡ Less → rest_cmp x z ≡ Less
rest_trans (One x) (One y) z h l = absurd cc
rest_trans (One x) (Between from to) (One z) h l = absurd cc
rest_trans (One x) (Between from to) (Between first end) h l = refl
rest_trans (Between from to) (One y) z h l = absurd cc
rest_trans (Between from to) (Between first end) (One z) h l = absurd cc
rest_trans (Between from to) (Between first end) (Between start last) h l = end_trans to end last h l

rest_congr : (x y z : Span) → rest_cmp x y ≡ Equal → rest_cmp x z ≡ rest_cmp y z
rest_congr (One x) (One y) (One z) h = refl
rest_congr (One x) (One y) (Between from to) h = refl
rest_congr (One x) (Between from to) z h = absurd cc
rest_congr (Between from to) (One y) z h = absurd cc
rest_congr (Between from to) (Between first end) (One z) h = refl
rest_congr (Between from to) (Between first end) (Between start last) h = end_congr to end last h

rest_total : IsTotalOrder rest_cmp
rest_total = record { antisymm = rest_antisymm; trans = rest_trans; congr = rest_congr }

pub span_total : IsTotalOrder span_cmp
span_total = then_total (on_total start_of (options_total nat_list_cmp_total)) rest_total

module _ {K : Type 0} {cmp : K → K → Ordering} (total : IsTotalOrder cmp) where
  each_inserted : (P : K → Type 0) (key : K) (ks : List K) → P key → Each P ks → Each P (insert_key cmp ks key)
  each_inserted P key [] p a = (p, tt)
  each_inserted P key (x ∷ xs) p a = by (cmp key x) (each_inserted P key xs p a.1)
    where
      by : (o : Ordering) → Each P (insert_key cmp xs key) → Each P (match_ordering o (key ∷ x ∷ xs) (x ∷ xs) (x ∷ insert_key cmp xs key))
      by Less rest = (p, a)
      by Equal rest = a
      by Greater rest = (a.0, rest)

  -- with one more key at its place the order stays
  pub inserted_sorted : (ks : List K) (key : K) → IsStrictlySortedBy cmp ks → IsStrictlySortedBy cmp (insert_key cmp ks key)
  unfolding IsStrictlySortedBy
  inserted_sorted [] key s = (tt, tt)
  inserted_sorted (x ∷ xs) key s = by (cmp key x) refl (inserted_sorted xs key s.1)
    where
      by : (o : Ordering) → cmp key x ≡ o → IsStrictlySortedBy cmp (insert_key cmp xs key) → IsStrictlySortedBy cmp (match_ordering o (key ∷ x ∷ xs) (x ∷ xs) (x ∷ insert_key cmp xs key))
      by Less e rest = ((e, below_all total key x xs e s.0), s)
      by Equal e rest = s
      by Greater e rest = (each_inserted (λ q. cmp x q ≡ Less) key xs (total.antisymm x key ∙ ap ordering_reverse e) s.0, rest)

-- no two of them are one
pub sorted_apart : (spans : List Span) → IsStrictlySortedBy span_cmp spans → Pairwise (λ one other. one ≡ other → ⊥) spans
unfolding IsStrictlySortedBy
sorted_apart [] s = tt
sorted_apart (span ∷ spans) s = (apart spans s.0, sorted_apart spans s.1)
  where
    apart : (others : List Span) → Each (λ other. span_cmp span other ≡ Less) others → All (λ other. span ≡ other → ⊥) others
    apart [] a = All-nil (λ other. span ≡ other → ⊥)
    apart (other ∷ others) a =
        All-cons (λ other. span ≡ other → ⊥) other others
        (λ same. let e : span_cmp span span ≡ Less = ap (span_cmp span) same ∙ a.0 in let f : span_cmp span span ≡ Equal = tied_itself span_total span in absurd cc) (apart others a.1)

pub none_sorted : IsStrictlySortedBy span_cmp []
unfolding IsStrictlySortedBy
none_sorted = tt
