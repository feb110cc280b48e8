-- Which transactions stand before which in the commit order, and that commit points lie in the order of the histories.
use Rattle.std.proofs.Common.{◌≡◌, ℕ, ◌+◌, ◌<◌, ◌≤◌, inl, inr, List, [], ◌∷◌, ◌++◌, append_assoc, filter_map, length, map, Option, None, Some, Contains, refl, sym, ap, subst, ◌∙◌, arith}
use Rattle.std.proofs.lemmas.Bool.{cases_lt}
use Rattle.std.proofs.lemmas.List.{length-append}
use Rattle.std.proofs.lemmas.List.Elements.{Contains-append_cases, Contains-append_left, Contains-append_right}
use Rattle.std.specs.Cmp.{nat_cmp_is}
use Rattle.std.specs.declared.cmp.Ordering.TheVariants.{Less, Equal, Greater}
use Rattle.std.specs.List.{AllByRecursion as Each}
use Rattle.std.specs.Ordering.{nat_cmp, ordering_then}
use Rattle.pc_base.specs.declared.entry.Entry.{Entry}
use Rattle.pc_base.specs.declared.transaction.TxnId.{TxnId}
use Rattle.pc_implicit.proofs.CommitsStay.{commits_stay}
use Rattle.pc_implicit.proofs.Points.{point_of}
use Rattle.pc_lists.proofs.Each.{each-back, each-contains}
use Rattle.pc_lists.proofs.Lists.{contains_cons, contains_head, contains_in_map, contains_map, contains_nil}
use Rattle.pc_proto.specs.declared.event.Event.{Event}
use Rattle.pc_serial.proofs.InOrder.{Rises, never-below, never-both, rises-in_order}
use Rattle.pc_serial.proofs.Order.{IsRanked, PointsDiffer, committed-ranked, entry_of, order-committed, order-has, order-ranked, rank-less, rank-total}
use Rattle.pc_world.proofs.Prefixes.{run_front}
use Rattle.pc_world.specs.CommitOrder.{Rank, all_begun, commit_order, rank_cmp, ranked}
use Rattle.pc_world.specs.Committed.{IsCommitted, commit_point, commit_ts}
use Rattle.pc_world.specs.Legal.{committed_in_order}
use Rattle.pc_world.specs.Local.{Head}
use Rattle.pc_world.specs.Run.{IsRun}

-- ---- lists that are mapped

-- A mapped list is split where its list is.
record MappedSplit {X Y : Type 0} (f : X → Y) (xs : List X) (front : List Y) (y : Y) (back : List Y) : Type 0 where
  first : List X
  x : X
  rest : List X
  whole : xs ≡ first ++ x ∷ rest
  front_is : map f first ≡ front
  x_is : f x ≡ y

module _ {X Y : Type 0} (f : X → Y) where
  split-push : (x : X) (xs : List X) (z : Y) (zs : List Y) (y : Y) (back : List Y) → f x ≡ z → MappedSplit f xs zs y back → MappedSplit f (x ∷ xs) (z ∷ zs) y back
  split-push x xs z zs y back same s = record {
    first = x ∷ s.first;
    x = s.x;
    rest = s.rest;
    whole = ap (λ ys. x ∷ ys) s.whole;
    front_is = ap (λ w. w ∷ map f s.first) same ∙ ap (λ ws. z ∷ ws) s.front_is;
    x_is = s.x_is;
  }

  map-split : (xs : List X) (front : List Y) (y : Y) (back : List Y) → map f xs ≡ front ++ y ∷ back → MappedSplit f xs front y back
  map-split [] [] y back h = absurd cc
  map-split [] (z ∷ zs) y back h = absurd cc
  map-split (x ∷ xs) [] y back h = record { first = []; x = x; rest = xs; whole = refl; front_is = refl; x_is = cc h }
  map-split (x ∷ xs) (z ∷ zs) y back h =
      split-push x xs z zs y back (cc h) (map-split xs zs y back (cc h))

-- of two lists with one whole, the longer one goes on from the shorter
pub goes-on : {X : Type 0} (xs ys us vs : List X) → xs ++ ys ≡ us ++ vs → length xs ≤ length us → (more : List X) × (us ≡ xs ++ more)
goes-on [] ys us vs h low = (us, refl)
goes-on (x ∷ xs) ys [] vs h low = absurd (omega (arith, low))
goes-on (x ∷ xs) ys (u ∷ us) vs h low =
    let rest = goes-on xs ys us vs (cc h) (omega (arith, low)) in
    let same : u ≡ x = cc h in
    (rest.0, ap (λ z. z ∷ us) same ∙ ap (λ zs. x ∷ zs) rest.1)

-- ---- ranks

rank-low : (one other : Rank) → rank_cmp one other ≡ Less → one.ts ≤ other.ts
rank-low one other less =
    elim (cases_lt other.ts one.ts) [
      | inl above ↦
          let greater : Greater ≡ nat_cmp one.ts other.ts = nat_cmp_is one.ts other.ts Greater above in
          let both : Greater ≡ Less = ap (λ o. ordering_then o (nat_cmp one.point other.point)) greater ∙ less in
          absurd cc
      | inr low ↦ low
    ]

-- the lesser timestamp ranks first, and where they are equal the lesser commit point
rank-first : (one other : Rank) → one.ts ≤ other.ts → one.point < other.point → rank_cmp one other ≡ Less
rank-first one other low points =
    elim (cases_lt one.ts other.ts) [
      | inl less ↦ rank-less one other less
      | inr high ↦
          let equal : Equal ≡ nat_cmp one.ts other.ts = nat_cmp_is one.ts other.ts Equal (omega (arith, low, high)) in
          ap (λ o. ordering_then o (nat_cmp one.point other.point)) (sym equal) ∙ sym (nat_cmp_is one.point other.point Less points)
    ]

rises-before : (es : List (Rank × TxnId)) (x : Rank × TxnId) (rest : List (Rank × TxnId)) (e : Rank × TxnId) → Rises rank_cmp (es ++ x ∷ rest) → Contains es e → rank_cmp e.0 x.0 ≡ Less
rises-before [] x rest e rises c = absurd (contains_nil e c)
rises-before (y ∷ es) x rest e rises c =
    elim (contains_cons y es e c) [
      | inl same ↦
          let all : Each (λ (z : Rank × TxnId). rank_cmp y.0 z.0 ≡ Less) (x ∷ rest) = each-back (λ (z : Rank × TxnId). rank_cmp y.0 z.0 ≡ Less) es (x ∷ rest) rises.0 in
          subst (λ (z : Rank × TxnId). rank_cmp z.0 x.0 ≡ Less) same all.0
      | inr later ↦ rises-before es x rest e rises.1 later
    ]

rises-behind : (es : List (Rank × TxnId)) (x : Rank × TxnId) (rest : List (Rank × TxnId)) (e : Rank × TxnId) → Rises rank_cmp (es ++ x ∷ rest) → Contains rest e → rank_cmp x.0 e.0 ≡ Less
rises-behind [] x rest e rises c = each-contains (λ (z : Rank × TxnId). rank_cmp x.0 z.0 ≡ Less) rest e rises.0 c
rises-behind (y ∷ es) x rest e rises c = rises-behind es x rest e rises.1 c

module _ (head : Head) (history : List (Entry Event)) (differ : PointsDiffer head history) where
  the-order-rises : Rises rank_cmp (commit_order head history)
  the-order-rises = rises-in_order rank_cmp rank-total (filter_map (ranked head history) (all_begun history))

  its-rank : (e : Rank × TxnId) → Contains (commit_order head history) e → ranked head history e.1 ≡ Some e
  its-rank e c = each-contains (IsRanked head history) (commit_order head history) e (order-ranked head history differ) c

  -- an entry is that of its transaction
  its-entry : (e : Rank × TxnId) (id : TxnId) (ts : ℕ) → Contains (commit_order head history) e → e.1 ≡ id → IsCommitted head history id ts → e ≡ entry_of head history id ts
  its-entry e id ts c same is =
      let both : ◌≡◌ {A = Option (Rank × TxnId)} (Some e) (Some (entry_of head history id ts)) = sym (its-rank e c) ∙ (ap (ranked head history) same ∙ committed-ranked head history id ts is) in
      cc both

  -- each that stands in the order is committed
  pub all-committed : (id : TxnId) → Contains (committed_in_order head history) id → (ts : ℕ) × IsCommitted head history id ts
  all-committed id c =
      let e = contains_in_map (λ (x : Rank × TxnId). x.1) (commit_order head history) id c in
      (e.0.0.ts, subst (λ i. IsCommitted head history i e.0.0.ts) e.2 (each-contains (λ (x : Rank × TxnId). IsCommitted head history x.1 x.0.ts) (commit_order head history) e.0 (order-committed head history differ) e.1))

  module _ (before : List TxnId) (id : TxnId) (later : List TxnId) (whole : committed_in_order head history ≡ before ++ id ∷ later) where
    -- those that stand before are others, and not committed later
    pub before-low : (other : TxnId) (ts earlier : ℕ) → Contains before other → IsCommitted head history id ts → IsCommitted head history other earlier → (earlier ≤ ts) × (other ≡ id → ⊥)
    before-low other ts earlier c is also =
        let s = map-split (λ (x : Rank × TxnId). x.1) (commit_order head history) before id later whole in
        let e = contains_in_map (λ (x : Rank × TxnId). x.1) s.first other (subst (λ xs. Contains xs other) (sym s.front_is) c) in
        let there : Contains (commit_order head history) e.0 = subst (λ xs. Contains xs e.0) (sym s.whole) (Contains-append_left s.first (s.x ∷ s.rest) e.0 e.1) in
        let here : Contains (commit_order head history) s.x = subst (λ xs. Contains xs s.x) (sym s.whole) (Contains-append_right s.first (s.x ∷ s.rest) s.x (contains_head s.x s.rest)) in
        let less : rank_cmp e.0.0 s.x.0 ≡ Less = rises-before s.first s.x s.rest e.0 (subst (Rises rank_cmp) s.whole the-order-rises) e.1 in
        let one : e.0 ≡ entry_of head history other earlier = its-entry e.0 other earlier there e.2 also in
        let two : s.x ≡ entry_of head history id ts = its-entry s.x id ts here s.x_is is in
        let ranks : rank_cmp (entry_of head history other earlier).0 (entry_of head history id ts).0 ≡ Less =
        subst (λ (x : Rank × TxnId). rank_cmp (entry_of head history other earlier).0 x.0 ≡ Less) two (subst (λ (x : Rank × TxnId). rank_cmp x.0 s.x.0 ≡ Less) one less) in (
          rank-low (entry_of head history other earlier).0 (entry_of head history id ts).0 ranks,
          λ same. never-below rank_cmp rank-total s.x.0 (subst (λ (x : Rank × TxnId). rank_cmp x.0 s.x.0 ≡ Less) (one-entry e.0 s.x there here (e.2 ∙ same ∙ sym s.x_is)) less),
        )
      where
        one-entry : (x y : Rank × TxnId) → Contains (commit_order head history) x → Contains (commit_order head history) y → x.1 ≡ y.1 → x ≡ y
        one-entry x y c d same =
            let both : ◌≡◌ {A = Option (Rank × TxnId)} (Some x) (Some y) = sym (its-rank x c) ∙ (ap (ranked head history) same ∙ its-rank y d) in
            cc both

    -- one that is committed at no later timestamp, and whose commit point is earlier, stands before
    pub stands-there : (other : TxnId) (ts earlier : ℕ) → Contains (all_begun history) other → IsCommitted head history id ts → IsCommitted head history other earlier → earlier ≤ ts → commit_point head history other < commit_point head history id
        → Contains before other
    stands-there other ts earlier begun is also low points =
        let s = map-split (λ (x : Rank × TxnId). x.1) (commit_order head history) before id later whole in
        let e : Rank × TxnId = entry_of head history other earlier in
        let here : Contains (commit_order head history) s.x = subst (λ xs. Contains xs s.x) (sym s.whole) (Contains-append_right s.first (s.x ∷ s.rest) s.x (contains_head s.x s.rest)) in
        let two : s.x ≡ entry_of head history id ts = its-entry s.x id ts here s.x_is is in
        let less : rank_cmp e.0 s.x.0 ≡ Less = subst (λ (x : Rank × TxnId). rank_cmp e.0 x.0 ≡ Less) (sym two) (rank-first e.0 (entry_of head history id ts).0 low points) in
        let there : Contains (s.first ++ s.x ∷ s.rest) e = subst (λ xs. Contains xs e) s.whole (order-has head history differ other earlier begun also) in
        elim (Contains-append_cases s.first (s.x ∷ s.rest) e there) [
          | inl first ↦ subst (λ xs. Contains xs other) s.front_is (contains_map (λ (x : Rank × TxnId). x.1) s.first e first)
          | inr rest ↦ elim (contains_cons s.x s.rest e rest) [
            | inl same ↦ absurd (never-below rank_cmp rank-total s.x.0 (subst (λ (x : Rank × TxnId). rank_cmp x.0 s.x.0 ≡ Less) (sym same) less))
            | inr behind ↦ absurd (never-both rank_cmp rank-total e.0 s.x.0 less (rises-behind s.first s.x s.rest e (subst (Rises rank_cmp) s.whole the-order-rises) behind))
          ]
        ]

-- ---- commit points

module _ (head : Head) (history : List (Entry Event)) (run : IsRun head history) where
  stays-there : (front back : List (Entry Event)) (more rest : List (Entry Event)) (id : TxnId) (ts : ℕ) → front ++ back ≡ history → front ≡ more ++ rest → IsCommitted head more id ts → IsCommitted head front id ts
  stays-there front back more rest id ts whole is committed =
      let part : IsRun head front = run_front head front back (subst (IsRun head) (sym whole) run) in
      subst (λ h. IsCommitted head h id ts) (sym is) (commits_stay head more rest id ts (subst (IsRun head) is part) committed).0

  -- a transaction that is not committed yet has its commit point later
  pub point-later : (front back : List (Entry Event)) (id : TxnId) (ts : ℕ) → history ≡ front ++ back → commit_ts head front id ≡ None → IsCommitted head history id ts → length front < commit_point head history id
  point-later front back id ts whole none is =
      let p = point_of head id history ts is in
      let size : length (p.front ++ p.e ∷ []) ≡ length p.front + 1 = length-append p.front (p.e ∷ []) in
      let at = p.at in
      elim (cases_lt (length front) (commit_point head history id)) [
        | inl later ↦ later
        | inr low ↦
            let joined : (p.front ++ p.e ∷ []) ++ p.back ≡ front ++ back = append_assoc p.front (p.e ∷ []) p.back ∙ p.whole ∙ whole in
            let more = goes-on (p.front ++ p.e ∷ []) p.back front back joined (omega (arith, size, at, low)) in
            let now : IsCommitted head front id p.ts = stays-there front back (p.front ++ p.e ∷ []) more.0 id p.ts (sym whole) more.1 p.now in
            let both : ◌≡◌ {A = Option ℕ} None (Some p.ts) = sym none ∙ now in
            absurd cc
      ]

  -- one that is committed already has it by then
  pub point-earlier : (front back : List (Entry Event)) (id : TxnId) (ts : ℕ) → history ≡ front ++ back → IsCommitted head front id ts → IsCommitted head history id ts → commit_point head history id ≤ length front
  point-earlier front back id ts whole now is =
      let p = point_of head id history ts is in
      let at = p.at in
      elim (cases_lt (length p.front) (length front)) [
        | inl less ↦ omega (arith, at, less)
        | inr low ↦
            let more = goes-on front back p.front (p.e ∷ p.back) (sym whole ∙ sym p.whole) low in
            let then : IsCommitted head p.front id ts = stays-there p.front (p.e ∷ p.back) front more.0 id ts p.whole more.1 now in
            let both : ◌≡◌ {A = Option ℕ} None (Some ts) = sym p.before ∙ then in
            absurd cc
      ]
