-- The order of spans is total.
use Rattle.std.proofs.Common.{◌≡◌, ℕ, List, Option, None, Some, refl, sym, subst}
use Rattle.std.specs.Prelude.{T}
use Rattle.std.specs.Cmp.{IsTotalOrder, on_total, then_total}
use Rattle.std.specs.Cmp.Lexicographic.{nat_list_cmp_total, options_total}
use Rattle.std.specs.Ordering.{is_eq, is_lt, ordering_reverse}
use Rattle.std.specs.declared.cmp.Ordering.TheVariants.{Less, Equal}
use Rattle.pc_base.specs.declared.span.Span.{Span}
use Rattle.pc_base.specs.declared.span.Span.TheVariants.{One, Between}
use Rattle.pc_base.specs.SpanOrder.{end_cmp, rest_cmp, span_cmp, start_of}

end-turned : (x y : Option (List ℕ)) → end_cmp x y ≡ ordering_reverse (end_cmp y x)
end-turned None None = refl
end-turned None (Some y) = refl
end-turned (Some x) None = refl
end-turned (Some x) (Some y) = nat_list_cmp_total.antisymm x y

end-through : (x y z : Option (List ℕ)) → end_cmp x y ≡ Less → end_cmp y z ≡ Less → end_cmp x z ≡ Less
end-through None None z p q = absurd (subst (λ o. T (is_lt o)) (sym p) tt)
end-through None (Some y) z p q = absurd (subst (λ o. T (is_lt o)) (sym p) tt)
end-through (Some x) None None p q = absurd (subst (λ o. T (is_lt o)) (sym q) tt)
end-through (Some x) None (Some z) p q = absurd (subst (λ o. T (is_lt o)) (sym q) tt)
end-through (Some x) (Some y) None p q = refl
end-through (Some x) (Some y) (Some z) p q = nat_list_cmp_total.trans x y z p q

end-alike : (x y z : Option (List ℕ)) → end_cmp x y ≡ Equal → end_cmp x z ≡ end_cmp y z
end-alike None None z p = refl
end-alike None (Some y) z p = absurd (subst (λ o. T (is_eq o)) (sym p) tt)
end-alike (Some x) None z p = absurd (subst (λ o. T (is_eq o)) (sym p) tt)
end-alike (Some x) (Some y) None p = refl
end-alike (Some x) (Some y) (Some z) p = nat_list_cmp_total.congr x y z p

rest-turned : (x y : Span) → rest_cmp x y ≡ ordering_reverse (rest_cmp y x)
rest-turned (One x) (One y) = refl
rest-turned (One x) (Between from to) = refl
rest-turned (Between from to) (One y) = refl
rest-turned (Between from to) (Between first end) = end-turned to end

rest-through : (x y z : Span) → rest_cmp x y ≡ Less → rest_cmp y z ≡ Less → rest_cmp x z ≡ Less
rest-through (One x) (One y) z p q = absurd (subst (λ o. T (is_lt o)) (sym p) tt)
rest-through (One x) (Between from to) (One z) p q = absurd (subst (λ o. T (is_lt o)) (sym q) tt)
rest-through (One x) (Between from to) (Between first end) p q = refl
rest-through (Between from to) (One y) z p q = absurd (subst (λ o. T (is_lt o)) (sym p) tt)
rest-through (Between from to) (Between first end) (One z) p q = absurd (subst (λ o. T (is_lt o)) (sym q) tt)
rest-through (Between from to) (Between first end) (Between low high) p q = end-through to end high p q

rest-alike : (x y z : Span) → rest_cmp x y ≡ Equal → rest_cmp x z ≡ rest_cmp y z
rest-alike (One x) (One y) (One z) p = refl
rest-alike (One x) (One y) (Between low high) p = refl
rest-alike (One x) (Between from to) z p = absurd (subst (λ o. T (is_eq o)) (sym p) tt)
rest-alike (Between from to) (One y) z p = absurd (subst (λ o. T (is_eq o)) (sym p) tt)
rest-alike (Between from to) (Between first end) (One z) p = refl
rest-alike (Between from to) (Between first end) (Between low high) p = end-alike to end high p

rest-total : IsTotalOrder rest_cmp
rest-total = record { antisymm = rest-turned; trans = rest-through; congr = rest-alike }

pub span_total : IsTotalOrder span_cmp
span_total = then_total (on_total start_of (options_total nat_list_cmp_total)) rest-total
