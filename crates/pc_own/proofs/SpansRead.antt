-- The spans that were read, after one more read.
use Rattle.std.proofs.Common.{◌≡◌, ◌↔◌, ◌⊎◌, inl, inr, ℕ, zero, suc, Bool, true, false, cond, Any, IsTrue, Option, None, Some, List, [], ◌∷◌, ◌++◌, refl, sym, ap, subst, ◌∙◌, arith}
use Rattle.std.proofs.lemmas.Bool.{and_from}
use Rattle.std.proofs.lemmas.Cmp.{nat_list_cmp_total, tied_itself}
use Rattle.std.specs.BTreeMap.{is_at}
use Rattle.std.specs.BTreeSet.{BTreeSet, contains}
use Rattle.std.specs.declared.cmp.Ordering.{Ordering}
use Rattle.std.specs.declared.cmp.Ordering.TheVariants.{Less, Equal, Greater}
use Rattle.std.specs.List.{list_any}
use Rattle.std.specs.Ordering.{is_eq, is_le}
use Rattle.pc_base.specs.declared.span.Span.{Span}
use Rattle.pc_base.specs.declared.span.Span.TheVariants.{One, Between}
use Rattle.pc_base.specs.SpanOrder.{span_cmp}
use Rattle.pc_lists.proofs.Anywhere.{any_head, any_kept, any_last, any_later, any_weaker}
use Rattle.pc_lists.proofs.Same.{same_key-self}
use Rattle.pc_own.specs.ReadSpans.{AreReadSpans}
use Rattle.pc_refresh.proofs.SameSpan.{same_span}
use Rattle.pc_refresh.specs.SpanTotal.{span_total}
use Rattle.pc_world.specs.Known.Reads.{Read, ends_after, holds_span, starts_by}

equal-is : (o : Ordering) → is_eq o ≡ true → o ≡ Equal
equal-is Less h = absurd cc
equal-is Equal h = refl
equal-is Greater h = absurd cc

-- spans that stand alike are one
pub span_is : (one other : Span) → is_eq (span_cmp one other) ≡ true → one ≡ other
span_is one other h = same_span one other (equal-is (span_cmp one other) h)

any-parts : (P : Read → Type 0) (reads : List Read) (r : Read) → Any P (reads ++ r ∷ []) → Any P reads ⊎ P r
any-parts P [] r (zero, x, low, is, h) = inr (subst P (sym is) h)
any-parts P [] r (suc k, x, low, is, h) = absurd (omega arith)
any-parts P (y ∷ reads) r (zero, x, low, is, h) = inl (any_head P y reads (subst P (sym is) h))
any-parts P (y ∷ reads) r (suc k, x, low, is, h) =
    elim (any-parts P reads r (k, x, omega arith, is, h)) [ inl before ↦ inl (any_later P y reads before) | inr last ↦ inr last ]

-- nothing was read
pub none_read : (spans : BTreeSet Span) → spans.keys ≡ [] → AreReadSpans [] spans
none_read spans none span = (
  λ had. let no : false ≡ true = sym (ap (λ (ks : List Span). list_any (is_at (span_cmp span)) ks) none) ∙ had in absurd (cc no),
  λ (k, r, low, is, h). absurd (omega arith),
)

-- where no span came to be one of them
pub spans_left : (reads : List Read) (spans new : BTreeSet Span) → AreReadSpans reads spans → new.keys ≡ spans.keys → AreReadSpans reads new
spans_left reads spans new are same span =
    subst (λ (ks : List Span). IsTrue (list_any (is_at (span_cmp span)) ks) ↔ Any (λ r. r.span ≡ span) reads) (sym same) (are span)

pub span_added : (reads : List Read) (r : Read) (spans new : BTreeSet Span) → AreReadSpans reads spans
    → ((span : Span) → contains span_cmp new span ≡ cond (is_eq (span_cmp r.span span)) true (contains span_cmp spans span)) → AreReadSpans (reads ++ r ∷ []) new
span_added reads r spans new are more span = (had (is_eq (span_cmp r.span span)) refl, λ a. has (is_eq (span_cmp r.span span)) refl (any-parts IsOf reads r a))
  where
    IsOf : Read → Type 0
    IsOf x = x.span ≡ span

    there : (b : Bool) → is_eq (span_cmp r.span span) ≡ b → contains span_cmp new span ≡ cond b true (contains span_cmp spans span)
    there b e = more span ∙ ap (λ b. cond b true (contains span_cmp spans span)) e

    had : (b : Bool) → is_eq (span_cmp r.span span) ≡ b → IsTrue (contains span_cmp new span) → Any IsOf (reads ++ r ∷ [])
    had true e h = any_last IsOf reads r (span_is r.span span e)
    had false e h = any_kept IsOf reads (r ∷ []) ((are span).0 (sym (there false e) ∙ h))

    has : (b : Bool) → is_eq (span_cmp r.span span) ≡ b → Any IsOf reads ⊎ IsOf r → IsTrue (contains span_cmp new span)
    has true e h = there true e
    has false e (inl before) = there false e ∙ (are span).1 before
    has false e (inr last) =
        let no : true ≡ false = sym (ap is_eq (tied_itself span_total span)) ∙ ap (λ s. is_eq (span_cmp s span)) (sym last) ∙ e in
        absurd (cc no)

-- ---- a span holds itself

starts-self : (from : Option (List ℕ)) → starts_by from from ≡ true
starts-self None = refl
starts-self (Some key) = ap is_le (tied_itself nat_list_cmp_total key)

ends-self : (to : Option (List ℕ)) → ends_after to to ≡ true
ends-self None = refl
ends-self (Some key) = ap is_le (tied_itself nat_list_cmp_total key)

pub holds_self : (span : Span) → holds_span span span ≡ true
holds_self (One key) = same_key-self key
holds_self (Between from to) = and_from (starts_by from from) (ends_after to to) (starts-self from) (ends-self to)

-- the span of a read holds it
pub read_held : (reads : List Read) (span : Span) → Any (λ r. r.span ≡ span) reads → Any (λ r. IsTrue (holds_span span r.span)) reads
read_held reads span =
    any_weaker (λ r. r.span ≡ span) (λ r. IsTrue (holds_span span r.span)) (λ r is. subst (λ s. IsTrue (holds_span span s)) (sym is) (holds_self span)) reads
