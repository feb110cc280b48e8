-- How reads stand on, and become good at a later timestamp.
use Rattle.std.proofs.Common.{◌≡◌, ℕ, ◌≤◌, max, true, List, [], ◌∷◌, ◌++◌, map, Option, None, Some, Result, Ok, Err, OnOk, Contains, refl, sym, ap, subst, arith}
use Rattle.std.proofs.lemmas.Bool.{and_from}
use Rattle.std.proofs.lemmas.Cmp.{nat_list_cmp_total, tied_itself}
use Rattle.std.proofs.lemmas.List.Elements.{All-append, All-contains, All-cons, All-head, All-nil, All-tail, All-weaker, Contains-append_left, Contains-push}
use Rattle.std.proofs.lemmas.Map.Views.{All-insert_key}
use Rattle.std.specs.BTreeSet.{insert_key}
use Rattle.std.specs.List.Sorted.{IsStrictlySortedBy}
use Rattle.std.specs.Ordering.{is_le}
use Rattle.std.specs.Prelude.{All, Any}
use Rattle.pc_base.specs.declared.span.Span.{Span}
use Rattle.pc_base.specs.declared.span.Span.TheVariants.{One, Between}
use Rattle.pc_base.specs.declared.transaction.TxnId.{TxnId}
use Rattle.pc_base.specs.Span.{key_at_most}
use Rattle.pc_base.specs.SpanOrder.{span_cmp}
use Rattle.pc_lists.proofs.Lists.{all_from_contains}
use Rattle.pc_lists.proofs.Same.{same_key-self}
use Rattle.pc_reads.proofs.Ordered.{inserted_sorted, none_sorted, span_total}
use Rattle.pc_reads.specs.declared.reads.TxnReads.{TxnReads}
use Rattle.pc_reads.specs.ReadsStanding.{IsCommitting, MayRefresh, TxnReadsStand, refresh_to}
use Rattle.pc_world.specs.Known.{Known}
use Rattle.pc_world.specs.Known.Reads.{AtOnce, Further, IsGoodAt, IsGoodTo, Read, WasRefreshed, ends_after, holds_span, starts_by}
use Rattle.pc_world.specs.Known.Traffic.{Heard}
use Rattle.pc_world.specs.Known.Transactions.{Txn}
use Rattle.pc_world.specs.Send.Refresh.{MaySendRefresh}

-- a key is not behind itself
at-most-itself : (key : List ℕ) → key_at_most key key ≡ true
at-most-itself key = ap is_le (tied_itself nat_list_cmp_total key)

starts-itself : (end : Option (List ℕ)) → starts_by end end ≡ true
starts-itself None = refl
starts-itself (Some key) = at-most-itself key

ends-itself : (end : Option (List ℕ)) → ends_after end end ≡ true
ends-itself None = refl
ends-itself (Some key) = at-most-itself key

-- a span holds itself
pub holds_itself : (span : Span) → holds_span span span ≡ true
holds_itself (One key) = same_key-self key
holds_itself (Between from to) = and_from (starts_by from from) (ends_after to to) (starts-itself from) (ends-itself to)

module _ (id : TxnId) (heard more : List Heard) where
  refreshed-more : (span : Span) (from to : ℕ) → WasRefreshed id heard span from to → WasRefreshed id (heard ++ more) span from to
  refreshed-more span from to r = record { reply = r.reply; listed = Contains-append_left heard more r.reply r.listed; asked = r.asked; told = r.told }

  good-more : (span : Span) (ts good : ℕ) → IsGoodTo id heard span ts good → IsGoodTo id (heard ++ more) span ts good
  good-more span ts good AtOnce = AtOnce
  good-more span ts good (Further at wider from to g r holds low) = Further at wider from to (good-more span ts at g) (refreshed-more wider from to r) holds low

  good-at-more : (ts : ℕ) (r : Read) → IsGoodAt id heard ts r → IsGoodAt id (heard ++ more) ts r
  good-at-more ts r g = record { not_below = g.not_below; up_to = (g.up_to.0, good-more r.span r.ts g.up_to.0 g.up_to.1, g.up_to.2) }

  -- it stands so after whatever else is heard
  pub stand_on : (reads : List Read) (x : TxnReads) → TxnReadsStand id heard reads x → TxnReadsStand id (heard ++ more) reads x
  stand_on reads x s = record { kept = s.kept; of_reads = s.of_reads; good = All-weaker (IsGoodAt id heard x.ts) (IsGoodAt id (heard ++ more) x.ts) (good-at-more x.ts) reads s.good; ordered = s.ordered }

-- a read that is good, and whose span was refreshed, is good there
refreshed-good : (id : TxnId) (heard : List Heard) (from to : ℕ) (r : Read) → from ≤ to → IsGoodAt id heard from r → WasRefreshed id heard r.span from to → IsGoodAt id heard to r
refreshed-good id heard from to r rises g was =
    let low = g.not_below in
    let far = g.up_to.2 in
    record {
      not_below = omega (arith, low, rises);
      up_to = (max g.up_to.0 to, Further g.up_to.0 r.span from to g.up_to.1 was (holds_itself r.span) far, omega arith);
    }

module _ (id : TxnId) (heard : List Heard) (reads : List Read) (spans : List Span) where
  -- refreshed spans
  pub refreshed_stand : (ts to : ℕ) → ts ≤ to → All (λ span. WasRefreshed id heard span ts to) spans → TxnReadsStand id heard reads (record { spans = spans; ts = ts }) → TxnReadsStand id heard reads (record { spans = spans; ts = to })
  refreshed_stand ts to rises each s = record {
    kept = s.kept;
    of_reads = s.of_reads;
    good =
        all_from_contains (IsGoodAt id heard to) reads (λ r there.
        let listed : Contains spans r.span = All-contains (λ r. Contains spans r.span) reads r s.kept there in
        refreshed-good id heard ts to r rises (All-contains (IsGoodAt id heard ts) reads r s.good there) (All-contains (λ span. WasRefreshed id heard span ts to) spans r.span each listed));
    ordered = s.ordered;
  }

-- what is so of some element is so of some element of a longer list
any-there : (Q : Read → Type 0) (xs : List Read) (x : Read) → Contains xs x → Q x → Any Q xs
any-there Q xs x (n, inside, at) q = (n, x, inside, at, q)

any-left : (Q : Read → Type 0) (xs ys : List Read) → Any Q xs → Any Q (xs ++ ys)
any-left Q xs ys (n, x, inside, at, q) = any-there Q (xs ++ ys) x (Contains-append_left xs ys x (n, inside, at)) q

-- one more read, at the timestamp at which the transaction reads
pub read_stands : (id : TxnId) (heard : List Heard) (reads : List Read) (spans : List Span) (ts : ℕ) (span : Span) (now : List Span) → now ≡ insert_key span_cmp spans span → Contains now span
    → ((other : Span) → Contains spans other → Contains now other)
    → TxnReadsStand id heard reads (record { spans = spans; ts = ts }) → TxnReadsStand id heard (reads ++ record { span = span; ts = ts } ∷ []) (record { spans = now; ts = ts })
read_stands id heard reads spans ts span now is has keeps s =
    let r : Read = record { span = span; ts = ts } in
    let all = reads ++ r ∷ [] in
    let P : Span → Type 0 = λ other. Any (λ r. r.span ≡ other) all in
    let old : All P spans = All-weaker (λ other. Any (λ r. r.span ≡ other) reads) P (λ other some. any-left (λ r. r.span ≡ other) reads (r ∷ []) some) spans s.of_reads in
    let new : P span = any-there (λ r. r.span ≡ span) all r (Contains-push reads r) refl in
    record {
      kept =
          All-append (λ r. Contains now r.span) reads (r ∷ []) (All-weaker (λ r. Contains spans r.span) (λ r. Contains now r.span) (λ x there. keeps x.span there) reads s.kept)
          (All-cons (λ r. Contains now r.span) r [] has (All-nil (λ r. Contains now r.span)));
      of_reads = subst (All P) (sym is) (All-insert_key span_cmp span P spans old new);
      good = All-append (IsGoodAt id heard ts) reads (r ∷ []) s.good (All-cons (IsGoodAt id heard ts) r [] (record { not_below = omega arith; up_to = (ts, AtOnce, omega arith) }) (All-nil (IsGoodAt id heard ts)));
      ordered = subst (IsStrictlySortedBy span_cmp) (sym is) (inserted_sorted span_total spans span s.ordered);
    }

-- where it is added, it stands among the spans
pub read_ok : {E : Type 0} (result : Result (Unit {0}) E) (id : TxnId) (heard : List Heard) (reads : List Read) (spans : List Span) (ts : ℕ) (span : Span) (now : List Span)
    → OnOk result (now ≡ insert_key span_cmp spans span) → OnOk result (Contains now span) → ((other : Span) → Contains spans other → Contains now other)
    → TxnReadsStand id heard reads (record { spans = spans; ts = ts }) → OnOk result (TxnReadsStand id heard (reads ++ record { span = span; ts = ts } ∷ []) (record { spans = now; ts = ts }))
read_ok (Ok u) id heard reads spans ts span now is has keeps s = read_stands id heard reads spans ts span now is has keeps s
read_ok (Err e) id heard reads spans ts span now is has keeps s = tt

-- what is good at a timestamp that is reached is good there
pub at_or_below : (id : TxnId) (heard : List Heard) (reads : List Read) (spans : List Span) (ts to : ℕ) → to ≡ ts → TxnReadsStand id heard reads (record { spans = spans; ts = ts }) → All (IsGoodAt id heard to) reads
at_or_below id heard reads spans ts to same s = subst (λ t. All (IsGoodAt id heard t) reads) (sym same) s.good

-- each refresh of a commit may be sent
pub may_refresh : (k : Known) (t : Txn) (id : TxnId) (spans : List Span) (ts to : ℕ) → TxnReadsStand t.id k.heard t.reads (record { spans = spans; ts = ts }) → IsCommitting k t id ts to
    → All (MayRefresh k) (map (refresh_to id ts to) spans)
may_refresh k t id spans ts to s c = mapped spans s.of_reads
  where
    may : (span : Span) → Any (λ r. r.span ≡ span) t.reads → MaySendRefresh k id ts to span
    may span (n, r, inside, at, same) = record {
      t = t;
      opened = c.opened;
      asked = c.asked;
      whose = c.whose;
      holds_read = (n, r, inside, at, subst (λ x. holds_span span x ≡ true) (sym same) (holds_itself span));
      from_read_ts = c.from_read_ts;
      good = All-weaker (IsGoodAt t.id k.heard ts) (λ r. (good : ℕ) × IsGoodTo t.id k.heard r.span r.ts good × (ts ≤ good)) (λ r g. g.up_to) t.reads s.good;
      forward = c.forward;
      to_write_ts = c.to_write_ts;
    }

    mapped : (xs : List Span) → All (λ span. Any (λ r. r.span ≡ span) t.reads) xs → All (MayRefresh k) (map (refresh_to id ts to) xs)
    mapped [] each = All-nil (MayRefresh k)
    mapped (x ∷ xs) each =
        All-cons (MayRefresh k) (refresh_to id ts to x) (map (refresh_to id ts to) xs) (may x (All-head (λ span. Any (λ r. r.span ≡ span) t.reads) x xs each))
        (mapped xs (All-tail (λ span. Any (λ r. r.span ≡ span) t.reads) x xs each))

-- what was read is nothing, and stands so
pub none_read : (id : TxnId) (heard : List Heard) (ts : ℕ) → TxnReadsStand id heard [] (record { spans = []; ts = ts })
none_read id heard ts = record {
  kept = All-nil (λ (r : Read). Contains [] r.span);
  of_reads = All-nil (λ span. Any (λ (r : Read). r.span ≡ span) []);
  good = All-nil (IsGoodAt id heard ts);
  ordered = none_sorted;
}
