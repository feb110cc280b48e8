-- Entries in the order of their keys: which stand in the list, which before which, and that each stands there once.
use Rattle.std.proofs.Common.{◌≡◌, Bool, true, false, cond, inl, inr, List, [], ◌∷◌, ◌++◌, append-nil, append_assoc, map, filter, fold, Contains, refl, sym, ap, subst, ◌∙◌}
use Rattle.std.proofs.lemmas.Cmp.{tied_itself}
use Rattle.std.specs.BTreeMap.{insert_entry}
use Rattle.std.specs.Cmp.{IsTotalOrder}
use Rattle.std.specs.declared.cmp.Ordering.{Ordering}
use Rattle.std.specs.declared.cmp.Ordering.TheVariants.{Less, Equal, Greater}
use Rattle.std.specs.List.{AllByRecursion as Each}
use Rattle.std.specs.List.Sorted.{IsStrictlySortedBy}
use Rattle.std.specs.Ordering.{match_ordering, ordering_reverse}
use Rattle.pc_base.specs.declared.transaction.TxnId.{TxnId}
use Rattle.pc_base.specs.Keyed.{in_order}
use Rattle.pc_lists.proofs.Each.{each-back, each-contains}
use Rattle.pc_lists.proofs.Lists.{contains_cons, contains_head, contains_map, contains_nil, contains_tail}
use Rattle.pc_world.specs.Legal.{StandsBefore}

flipped : {K : Type 0} (cmp : K → K → Ordering) → IsTotalOrder cmp → (a b : K) → cmp a b ≡ Greater → cmp b a ≡ Less
flipped cmp total a b h = total.antisymm b a ∙ ap ordering_reverse h

pub never-below : {K : Type 0} (cmp : K → K → Ordering) → IsTotalOrder cmp → (k : K) → cmp k k ≡ Less → ⊥
never-below cmp total k h = let e : cmp k k ≡ Equal = tied_itself total k in cc

pub never-both : {K : Type 0} (cmp : K → K → Ordering) → IsTotalOrder cmp → (a b : K) → cmp a b ≡ Less → cmp b a ≡ Less → ⊥
never-both cmp total a b h k = never-below cmp total a (total.trans a b a h k)

module _ {K V : Type 0} (cmp : K → K → Ordering) where
  -- Each entry's key is below the keys of those after it.
  abbrev pub Rises : List (K × V) → Type 0
  Rises [] = Unit {0}
  Rises (e ∷ es) = Each (λ x. cmp e.0 x.0 ≡ Less) es × Rises es

  each-key : (P : K → Type 0) (es : List (K × V)) → Each (λ e. P e.0) es → Each P (map (λ e. e.0) es)
  each-key P [] a = tt
  each-key P (e ∷ es) a = (a.0, each-key P es a.1)

  -- the keys of rising entries are sorted
  pub rises-sorted : (es : List (K × V)) → Rises es → IsStrictlySortedBy cmp (map (λ e. e.0) es)
  unfolding IsStrictlySortedBy
  rises-sorted [] r = tt
  rises-sorted (e ∷ es) r = (each-key (λ x. cmp e.0 x ≡ Less) es r.0, rises-sorted es r.1)

  each-insert : (P : K → Type 0) (k : K) (v : V) (es : List (K × V)) → P k → Each (λ e. P e.0) es → Each (λ e. P e.0) (insert_entry cmp es k v)
  each-insert P k v [] h a = (h, tt)
  each-insert P k v (e ∷ es) h a =
      let rest = each-insert P k v es h a.1 in
      let by : (o : Ordering) → Each (λ e. P e.0) (match_ordering o ((k, v) ∷ e ∷ es) ((e.0, v) ∷ es) (e ∷ insert_entry cmp es k v)) = elim [
        | Less ↦ (h, a)
        | Equal ↦ a
        | Greater ↦ (a.0, rest)
      ] in by (cmp k e.0)

  module _ (total : IsTotalOrder cmp) where
    below-all : (k : K) (e : K × V) (es : List (K × V)) → cmp k e.0 ≡ Less → Each (λ x. cmp e.0 x.0 ≡ Less) es → Each (λ x. cmp k x.0 ≡ Less) es
    below-all k e [] h a = tt
    below-all k e (x ∷ xs) h a = (total.trans k e.0 x.0 h a.0, below-all k e xs h a.1)

    pub rises-insert : (k : K) (v : V) (es : List (K × V)) → Rises es → Rises (insert_entry cmp es k v)
    rises-insert k v [] r = (tt, tt)
    rises-insert k v (e ∷ es) r =
        let rest = rises-insert k v es r.1 in
        let by : (o : Ordering) → cmp k e.0 ≡ o → Rises (match_ordering o ((k, v) ∷ e ∷ es) ((e.0, v) ∷ es) (e ∷ insert_entry cmp es k v)) = elim [
          | Less ↦ λ h. ((h, below-all k e es h r.0), r)
          | Equal ↦ λ h. r
          | Greater ↦ λ h. (each-insert (λ x. cmp e.0 x ≡ Less) k v es (flipped cmp total k e.0 h) r.0, rest)
        ] in by (cmp k e.0) refl

    rises-from : (sorted es : List (K × V)) → Rises sorted → Rises (fold (λ (sorted : List (K × V)) (e : K × V). insert_entry cmp sorted e.0 e.1) sorted es)
    rises-from sorted [] r = r
    rises-from sorted (e ∷ es) r = rises-from (insert_entry cmp sorted e.0 e.1) es (rises-insert e.0 e.1 sorted r)

    -- entries put in order rise
    pub rises-in_order : (es : List (K × V)) → Rises (in_order cmp es)
    rises-in_order es = rises-from [] es tt

    insert-last : (es : List (K × V)) (k : K) (v : V) → Each (λ x. cmp x.0 k ≡ Less) es → insert_entry cmp es k v ≡ es ++ (k, v) ∷ []
    insert-last [] k v low = refl
    insert-last (e ∷ es) k v low =
        let above : cmp k e.0 ≡ Greater = total.antisymm k e.0 ∙ ap ordering_reverse low.0 in
        ap (λ o. match_ordering o ((k, v) ∷ e ∷ es) ((e.0, v) ∷ es) (e ∷ insert_entry cmp es k v)) above ∙ ap (λ xs. e ∷ xs) (insert-last es k v low.1)

    below-rest : (sorted : List (K × V)) (e : K × V) (es : List (K × V)) → Rises (sorted ++ e ∷ es) → Each (λ x. cmp x.0 e.0 ≡ Less) sorted
    below-rest [] e es r = tt
    below-rest (x ∷ sorted) e es r = ((each-back (λ y. cmp x.0 y.0 ≡ Less) sorted (e ∷ es) r.0).0, below-rest sorted e es r.1)

    rising-from : (sorted es : List (K × V)) → Rises (sorted ++ es) → fold (λ (sorted : List (K × V)) (e : K × V). insert_entry cmp sorted e.0 e.1) sorted es ≡ sorted ++ es
    rising-from sorted [] r = sym (append-nil sorted)
    rising-from sorted (e ∷ es) r =
        let here : insert_entry cmp sorted e.0 e.1 ≡ sorted ++ e ∷ [] = insert-last sorted e.0 e.1 (below-rest sorted e es r) in
        let joined : (sorted ++ e ∷ []) ++ es ≡ sorted ++ e ∷ es = append_assoc sorted (e ∷ []) es in
        ap (λ xs. fold (λ (sorted : List (K × V)) (e : K × V). insert_entry cmp sorted e.0 e.1) xs es) here
        ∙ rising-from (sorted ++ e ∷ []) es (subst Rises (sym joined) r) ∙ joined

    -- entries that rise are in order
    pub in_order-rising : (es : List (K × V)) → Rises es → in_order cmp es ≡ es
    in_order-rising es r = rising-from [] es r

    -- of rising entries, one that passes a test which no other passes is all that the test leaves
    none-left : (test : K × V → Bool) (e : K × V) (es : List (K × V)) → ((y : K × V) → Contains es y → test y ≡ true → y ≡ e) → Each (λ x. cmp e.0 x.0 ≡ Less) es → filter test es ≡ []
    none-left test e [] only a = refl
    none-left test e (x ∷ xs) only a =
        let rest : filter test xs ≡ [] = none-left test e xs (λ y c t. only y (contains_tail x xs y c) t) a.1 in
        let by : (b : Bool) → test x ≡ b → cond b (x ∷ filter test xs) (filter test xs) ≡ [] = elim [
          | true ↦ λ t. absurd (let same : x ≡ e = only x (contains_head x xs) t in never-below cmp total e.0 (subst (λ (z : K × V). cmp e.0 z.0 ≡ Less) same a.0))
          | false ↦ λ t. rest
        ] in by (test x) refl

    pub once-in : (test : K × V → Bool) (es : List (K × V)) (x : K × V) → Rises es → Contains es x → test x ≡ true → ((y : K × V) → Contains es y → test y ≡ true → y ≡ x) → filter test es ≡ x ∷ []
    once-in test [] x r c t only = absurd (contains_nil x c)
    once-in test (e ∷ es) x r c t only =
        let here : e ≡ x → filter test (e ∷ es) ≡ x ∷ [] = λ same.
        let passes : test e ≡ true = ap test same ∙ t in
        let none : filter test es ≡ [] = none-left test e es (λ y d u. only y (contains_tail e es y d) u ∙ sym same) r.0 in
        ap (λ b. cond b (e ∷ filter test es) (filter test es)) passes ∙ (ap (λ ys. e ∷ ys) none ∙ ap (λ y. y ∷ []) same) in
        let there : Contains es x → filter test (e ∷ es) ≡ x ∷ [] = λ later.
        let rest : filter test es ≡ x ∷ [] = once-in test es x r.1 later t (λ y d u. only y (contains_tail e es y d) u) in
        let by : (b : Bool) → test e ≡ b → cond b (e ∷ filter test es) (filter test es) ≡ x ∷ [] = elim [
          | true ↦ λ u. absurd (
              let same : e ≡ x = only e (contains_head e es) u in
              let less : cmp e.0 x.0 ≡ Less = each-contains (λ z. cmp e.0 z.0 ≡ Less) es x r.0 later in
              never-below cmp total x.0 (subst (λ (z : K × V). cmp z.0 x.0 ≡ Less) same less)
              )
          | false ↦ λ u. rest
        ] in by (test e) refl in
        elim (contains_cons e es x c) [ inl same ↦ here same | inr later ↦ there later ]

    module _ (P : K × V → Type 0) (exact : (x y : K × V) → P x → P y → cmp x.0 y.0 ≡ Equal → x ≡ y) where
      each-inserted : (k : K) (v : V) (es : List (K × V)) → P (k, v) → Each P es → Each P (insert_entry cmp es k v)
      each-inserted k v [] h a = (h, tt)
      each-inserted k v (e ∷ es) h a =
          let rest = each-inserted k v es h a.1 in
          let by : (o : Ordering) → cmp k e.0 ≡ o → Each P (match_ordering o ((k, v) ∷ e ∷ es) ((e.0, v) ∷ es) (e ∷ insert_entry cmp es k v)) = elim [
            | Less ↦ λ c. (h, a)
            | Equal ↦ λ c. let same : (k, v) ≡ e = exact (k, v) e h a.0 c in (subst P (ap (λ (x : K × V). (x.0, v)) same) h, a.1)
            | Greater ↦ λ c. (a.0, rest)
          ] in by (cmp k e.0) refl

      has-inserted : (k : K) (v : V) (es : List (K × V)) → P (k, v) → Each P es → Contains (insert_entry cmp es k v) (k, v)
      has-inserted k v [] h a = contains_head (k, v) []
      has-inserted k v (e ∷ es) h a =
          let rest = has-inserted k v es h a.1 in
          let by : (o : Ordering) → cmp k e.0 ≡ o → Contains (match_ordering o ((k, v) ∷ e ∷ es) ((e.0, v) ∷ es) (e ∷ insert_entry cmp es k v)) (k, v) = elim [
            | Less ↦ λ c. contains_head (k, v) (e ∷ es)
            | Equal ↦ λ c.
                let same : (k, v) ≡ e = exact (k, v) e h a.0 c in
                subst (λ x. Contains (x ∷ es) (k, v)) (ap (λ (x : K × V). (x.0, v)) same) (contains_head (k, v) es)
            | Greater ↦ λ c. contains_tail e (insert_entry cmp es k v) (k, v) rest
          ] in by (cmp k e.0) refl

      still-there : (k : K) (v : V) (es : List (K × V)) (x : K × V) → P (k, v) → Each P es → Contains es x → Contains (insert_entry cmp es k v) x
      still-there k v [] x h a c = absurd (contains_nil x c)
      still-there k v (e ∷ es) x h a c =
          let rest : Contains es x → Contains (insert_entry cmp es k v) x = λ d. still-there k v es x h a.1 d in
          let by : (o : Ordering) → cmp k e.0 ≡ o → Contains (match_ordering o ((k, v) ∷ e ∷ es) ((e.0, v) ∷ es) (e ∷ insert_entry cmp es k v)) x = elim [
            | Less ↦ λ o. contains_tail (k, v) (e ∷ es) x c
            | Equal ↦ λ o.
                let same : (k, v) ≡ e = exact (k, v) e h a.0 o in
                let whole : (e.0, v) ≡ e = ap (λ (y : K × V). (y.0, v)) (sym same) ∙ same in
                subst (λ y. Contains (y ∷ es) x) (sym whole) c
            | Greater ↦ λ o. elim (contains_cons e es x c) [
              | inl same ↦ subst (λ y. Contains (e ∷ insert_entry cmp es k v) y) same (contains_head e (insert_entry cmp es k v))
              | inr later ↦ contains_tail e (insert_entry cmp es k v) x (rest later)
            ]
          ] in by (cmp k e.0) refl

      each-from : (sorted es : List (K × V)) → Each P sorted → Each P es → Each P (fold (λ (sorted : List (K × V)) (e : K × V). insert_entry cmp sorted e.0 e.1) sorted es)
      each-from sorted [] a b = a
      each-from sorted (e ∷ es) a b = each-from (insert_entry cmp sorted e.0 e.1) es (each-inserted e.0 e.1 sorted b.0 a) b.1

      -- what is so of each entry is so of each in the order
      pub each-in_order : (es : List (K × V)) → Each P es → Each P (in_order cmp es)
      each-in_order es a = each-from [] es tt a

      kept-from : (sorted es : List (K × V)) (x : K × V) → Each P sorted → Each P es → Contains sorted x → Contains (fold (λ (sorted : List (K × V)) (e : K × V). insert_entry cmp sorted e.0 e.1) sorted es) x
      kept-from sorted [] x a b c = c
      kept-from sorted (e ∷ es) x a b c =
          kept-from (insert_entry cmp sorted e.0 e.1) es x (each-inserted e.0 e.1 sorted b.0 a) b.1 (still-there e.0 e.1 sorted x b.0 a c)

      has-from : (sorted es : List (K × V)) (x : K × V) → Each P sorted → Each P es → Contains es x → Contains (fold (λ (sorted : List (K × V)) (e : K × V). insert_entry cmp sorted e.0 e.1) sorted es) x
      has-from sorted [] x a b c = absurd (contains_nil x c)
      has-from sorted (e ∷ es) x a b c =
          let next = insert_entry cmp sorted e.0 e.1 in
          let on : Each P next = each-inserted e.0 e.1 sorted b.0 a in
          elim (contains_cons e es x c) [
            | inl same ↦ kept-from next es x on b.1 (subst (λ y. Contains next y) same (has-inserted e.0 e.1 sorted b.0 a))
            | inr later ↦ has-from next es x on b.1 later
          ]

      -- each entry stands in the order
      pub has-in_order : (es : List (K × V)) (x : K × V) → Each P es → Contains es x → Contains (in_order cmp es) x
      has-in_order es x a c = has-from [] es x tt a c

-- of rising entries, one of a lesser key stands before one of a greater
pub before-in : {K : Type 0} (cmp : K → K → Ordering) → IsTotalOrder cmp → (es : List (K × TxnId)) (x y : K × TxnId) → Rises cmp es → Contains es x → Contains es y → cmp x.0 y.0 ≡ Less → StandsBefore x.1 y.1 (map (λ e. e.1) es)
before-in cmp total [] x y r c d less = absurd (contains_nil x c)
before-in {K} cmp total (e ∷ es) x y r c d less =
    let rest : Contains es x → Contains es y → StandsBefore x.1 y.1 (map (λ e. e.1) es) = λ f g. before-in cmp total es x y r.1 f g less in
    elim (contains_cons e es x c) [
      | inl same ↦ elim (contains_cons e es y d) [
        | inl also ↦ absurd (never-below cmp total x.0 (subst (λ (z : K × TxnId). cmp x.0 z.0 ≡ Less) (sym also ∙ same) less))
        | inr later ↦ inl (ap (λ (z : K × TxnId). z.1) same, contains_map (λ (z : K × TxnId). z.1) es y later)
      ]
      | inr first ↦ elim (contains_cons e es y d) [
        | inl also ↦ absurd (never-both cmp total y.0 x.0 (subst (λ (z : K × TxnId). cmp z.0 x.0 ≡ Less) also (each-contains (λ z. cmp e.0 z.0 ≡ Less) es x r.0 first)) less)
        | inr later ↦ inr (rest first later)
      ]
    ]
