-- Where commit points differ, the committed transactions stand in the commit order, each once, by their timestamps.
use Rattle.std.proofs.Common.{map, ◌≡◌, ℕ, ◌<◌, true, List, [], ◌∷◌, filter, filter_map, Option, None, Some, IfSome, Contains, refl, subst, inr, inl, sym, ap, ◌∙◌, arith}
use Rattle.std.proofs.lemmas.Cmp.{nat_cmp_total, on_total, then_total}
use Rattle.std.proofs.lemmas.Map.Lookups.{exact_unsigned}
use Rattle.std.specs.Cmp.{IsTotalOrder, nat_cmp_is}
use Rattle.std.specs.declared.cmp.Ordering.{Ordering}
use Rattle.std.specs.declared.cmp.Ordering.TheVariants.{Less, Equal, Greater}
use Rattle.std.specs.List.{AllByRecursion as Each, cons_option}
use Rattle.std.specs.List.Sorted.{IsStrictlySortedBy}
use Rattle.std.specs.Option.{option_map}
use Rattle.std.specs.Ordering.{nat_cmp, ordering_then}
use Rattle.pc_base.specs.declared.entry.Entry.{Entry}
use Rattle.pc_base.specs.declared.transaction.TxnId.{TxnId}
use Rattle.pc_base.specs.Transaction.{same_txn}
use Rattle.pc_lists.proofs.Each.{each-contains, each-filter_map, each-weaker}
use Rattle.pc_lists.proofs.Lists.{contains_cons, contains_head, contains_nil, contains_tail}
use Rattle.pc_lists.proofs.Same.{same_txn-is}
use Rattle.pc_proto.specs.declared.event.Event.{Event}
use Rattle.pc_serial.proofs.InOrder.{before-in, each-in_order, has-in_order, once-in, rises-in_order, rises-sorted}
use Rattle.pc_world.specs.CommitOrder.{Rank, all_begun, commit_order, rank_cmp, ranked}
use Rattle.pc_world.specs.Committed.{IsCommitted, commit_point, commit_ts}
use Rattle.pc_world.specs.Legal.{StandsBefore, committed_in_order}
use Rattle.pc_world.specs.Local.{Head}

-- what a function that may give nothing makes of an element of a list stands in what it makes of the list
mapped-contains : {X Y : Type 0} (f : X → Option Y) (xs : List X) (x : X) (y : Y) → Contains xs x → f x ≡ Some y → Contains (filter_map f xs) y
mapped-contains f [] x y c is = absurd (contains_nil x c)
mapped-contains {X} {Y} f (z ∷ zs) x y c is =
    elim (contains_cons z zs x c) [
      | inl same ↦ subst (λ o. Contains (cons_option o (filter_map f zs)) y) (sym (ap f same ∙ is)) (contains_head y (filter_map f zs))
      | inr later ↦
          let rest : Contains (filter_map f zs) y = mapped-contains f zs x y later is in
          let by : (o : Option Y) → Contains (cons_option o (filter_map f zs)) y = elim [ None ↦ rest | Some w ↦ contains_tail w (filter_map f zs) y rest ] in by (f z)
    ]

-- ranks are ordered by timestamp, then by commit point
pub rank-total : IsTotalOrder rank_cmp
rank-total = then_total (on_total (λ (r : Rank). r.ts) nat_cmp_total) (on_total (λ (r : Rank). r.point) nat_cmp_total)

then-equal : (a b : Ordering) → ordering_then a b ≡ Equal → (a ≡ Equal) × (b ≡ Equal)
then-equal Less b h = absurd cc
then-equal Equal b h = (refl, h)
then-equal Greater b h = absurd cc

-- ranks that tie are one
rank-exact : (one other : Rank) → rank_cmp one other ≡ Equal → (one.ts ≡ other.ts) × (one.point ≡ other.point)
rank-exact one other h =
    let both = then-equal (nat_cmp one.ts other.ts) (nat_cmp one.point other.point) h in
    (exact_unsigned one.ts other.ts both.0, exact_unsigned one.point other.point both.1)

-- an earlier timestamp ranks first
pub rank-less : (one other : Rank) → one.ts < other.ts → rank_cmp one other ≡ Less
rank-less one other less = ap (λ o. ordering_then o (nat_cmp one.point other.point)) (sym (nat_cmp_is one.ts other.ts Less less))

module _ (head : Head) (history : List (Entry Event)) where
  -- The entry is that of its transaction.
  abbrev pub IsRanked : Rank × TxnId → Type 0
  IsRanked x = ranked head history x.1 ≡ Some x

  -- The entry of a transaction that is committed at this timestamp.
  abbrev pub entry_of : TxnId → ℕ → Rank × TxnId
  entry_of id ts = (record { ts = ts; point = commit_point head history id }, id)

  pub ranked-of : (id : TxnId) (o : Option ℕ) (x : Rank × TxnId) → option_map (λ (ts : ℕ). entry_of id ts) o ≡ Some x → (o ≡ Some x.0.ts) × (x.0.point ≡ commit_point head history id) × (x.1 ≡ id)
  ranked-of id None x h = absurd cc
  ranked-of id (Some ts) x h =
      let same : entry_of id ts ≡ x = cc in
      (ap (λ (y : Rank × TxnId). Some y.0.ts) same, ap (λ (y : Rank × TxnId). y.0.point) (sym same), ap (λ (y : Rank × TxnId). y.1) (sym same))

  pub committed-ranked : (id : TxnId) (ts : ℕ) → IsCommitted head history id ts → ranked head history id ≡ Some (entry_of id ts)
  committed-ranked id ts is = ap (λ o. option_map (λ (ts : ℕ). entry_of id ts) o) is

  ranked-itself : (id : TxnId) (o : Option (Rank × TxnId)) → ranked head history id ≡ o → IfSome o IsRanked
  ranked-itself id None is = tt
  ranked-itself id (Some x) is =
      let of-id = ranked-of id (commit_ts head history id) x is in
      ap (ranked head history) of-id.2 ∙ is

  all-ranked : Each IsRanked (filter_map (ranked head history) (all_begun history))
  all-ranked = each-filter_map IsRanked (ranked head history) (all_begun history) (λ id. ranked-itself id (ranked head history id) refl)

  -- No two committed transactions have one commit point.
  abbrev pub PointsDiffer : Type 0
  PointsDiffer =
      (id other : TxnId) (ts later : ℕ) → IsCommitted head history id ts → IsCommitted head history other later
      → commit_point head history id ≡ commit_point head history other → id ≡ other

  module _ (differ : PointsDiffer) where
    ranked-exact : (x y : Rank × TxnId) → IsRanked x → IsRanked y → rank_cmp x.0 y.0 ≡ Equal → x ≡ y
    ranked-exact x y h k e =
        let one = ranked-of x.1 (commit_ts head history x.1) x h in
        let other = ranked-of y.1 (commit_ts head history y.1) y k in
        let tie = rank-exact x.0 y.0 e in
        let same : x.1 ≡ y.1 = differ x.1 y.1 x.0.ts y.0.ts one.0 other.0 (sym one.1 ∙ (tie.1 ∙ other.1)) in
        let both : ◌≡◌ {A = Option (Rank × TxnId)} (Some x) (Some y) = sym h ∙ (ap (ranked head history) same ∙ k) in
        cc both

    pub order-ranked : Each IsRanked (commit_order head history)
    order-ranked = each-in_order rank_cmp rank-total IsRanked ranked-exact (filter_map (ranked head history) (all_begun history)) all-ranked

    pub order-has : (id : TxnId) (ts : ℕ) → Contains (all_begun history) id → IsCommitted head history id ts → Contains (commit_order head history) (entry_of id ts)
    order-has id ts begun is =
        has-in_order rank_cmp rank-total IsRanked ranked-exact (filter_map (ranked head history) (all_begun history)) (entry_of id ts) all-ranked
        (mapped-contains (ranked head history) (all_begun history) id (entry_of id ts) begun (committed-ranked id ts is))

    same-itself : (id : TxnId) → same_txn id id ≡ true
    same-itself id = grind arith

    -- the order has committed transactions alone
    pub order-committed : Each (λ x. IsCommitted head history x.1 x.0.ts) (commit_order head history)
    order-committed =
        each-weaker IsRanked (λ x. IsCommitted head history x.1 x.0.ts) (λ x h. (ranked-of x.1 (commit_ts head history x.1) x h).0) (commit_order head history) order-ranked

    -- it is sorted
    pub order-sorted : IsStrictlySortedBy rank_cmp (map (λ e. e.0) (commit_order head history))
    order-sorted = rises-sorted rank_cmp (commit_order head history) (rises-in_order rank_cmp rank-total (filter_map (ranked head history) (all_begun history)))

    -- a committed transaction that was begun stands in the order once
    pub stands-once : (id : TxnId) (ts : ℕ) → Contains (all_begun history) id → IsCommitted head history id ts → filter (λ e. same_txn e.1 id) (commit_order head history) ≡ entry_of id ts ∷ []
    stands-once id ts begun is =
        once-in rank_cmp rank-total (λ e. same_txn e.1 id) (commit_order head history) (entry_of id ts)
        (rises-in_order rank_cmp rank-total (filter_map (ranked head history) (all_begun history)))
        (order-has id ts begun is) (same-itself id)
        (λ y c t.
        let who : y.1 ≡ id = same_txn-is y.1 id t in
        let its : ranked head history y.1 ≡ Some y = each-contains IsRanked (commit_order head history) y order-ranked c in
        let both : ◌≡◌ {A = Option (Rank × TxnId)} (Some y) (Some (entry_of id ts)) = sym its ∙ (ap (ranked head history) who ∙ committed-ranked id ts is) in
        cc both)

    -- of two that were begun, the one that is committed at the lesser timestamp stands before the other
    pub stands-before : (id other : TxnId) (ts later : ℕ) → Contains (all_begun history) id → Contains (all_begun history) other → IsCommitted head history id ts → IsCommitted head history other later → ts < later
        → StandsBefore id other (committed_in_order head history)
    stands-before id other ts later one two is also less =
        before-in rank_cmp rank-total (commit_order head history) (entry_of id ts) (entry_of other later)
        (rises-in_order rank_cmp rank-total (filter_map (ranked head history) (all_begun history)))
        (order-has id ts one is) (order-has other later two also) (rank-less (entry_of id ts).0 (entry_of other later).0 less)
