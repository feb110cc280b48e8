-- How often ids stand in a list, and the own entries of all actors together.
use Rattle.std.proofs.Common.{◌≡◌, ℕ, suc, ◌+◌, ◌*◌, ◌≤◌, Bool, true, false, cond, inl, inr, List, [], ◌∷◌, ◌++◌, length, map, refl, ap, sym, ◌∙◌, subst, arith, filter, Contains, sum_by}
use Rattle.std.proofs.lemmas.List.Sums.{sum_by-cons, sum_by-le, sum_by_push}
use Rattle.pc_base.specs.declared.ActorId.{ActorId}
use Rattle.pc_base.specs.declared.Entry.{Entry}
use Rattle.pc_history.specs.declared.pair.Pair.{Pair}
use Rattle.pc_history.specs.Sense.{Sense}
use Rattle.pc_history.specs.Own.{same_id, pairs_of, own}
use Rattle.pc_history.specs.Table.{count_of}
use Rattle.pc_history.proofs.Ids.{same_id-refl, same_id-true}
use Rattle.pc_history.proofs.Histories.{pairs_of-entries}
use Rattle.pc_lists.proofs.Lists.{contains_cons, contains_head, contains_map, contains_nil, contains_tail}

-- how often an id stands in a list with one more first
pub count_step : (a x : ActorId) (ids : List ActorId) → count_of a (x ∷ ids) ≡ cond (same_id x a) 1 0 + count_of a ids
count_step a x ids = sum_by-cons (λ y. cond (same_id y a) 1 0) x ids

-- an id that stands in the list is counted
pub count-some : (a : ActorId) (ids : List ActorId) → Contains ids a → 1 ≤ count_of a ids
count-some a [] c = absurd (contains_nil a c)
count-some a (x ∷ ids) c =
    let by : (b : Bool) → same_id x a ≡ b → 1 ≤ cond b 1 0 + count_of a ids = elim [
      | true ↦ λ e. omega arith
      | false ↦ λ e. elim (contains_cons x ids a c) [
        | inl same ↦ absurd (let yes' : same_id x a ≡ true = subst (λ z. same_id x z ≡ true) same (same_id-refl x) in cc (yes', e))
        | inr later ↦ let r : 1 ≤ count_of a ids = count-some a ids later in omega arith
      ]
    ] in
    subst (λ n. 1 ≤ n) (sym (count_step a x ids)) (by (same_id x a) refl)

-- an id that does not stand in the list is not counted
pub count-none : (a : ActorId) (ids : List ActorId) → (Contains ids a → ⊥) → count_of a ids ≡ 0
count-none a [] h = refl
count-none a (x ∷ ids) h =
    let rest : count_of a ids ≡ 0 = count-none a ids (λ c. h (contains_tail x ids a c)) in
    let by : (b : Bool) → same_id x a ≡ b → cond b 1 0 + count_of a ids ≡ 0 = elim [
      | true ↦ λ e. absurd (h (subst (λ z. Contains (x ∷ ids) z) (same_id-true x a e) (contains_head x ids)))
      | false ↦ λ e. omega arith
    ] in
    count_step a x ids ∙ by (same_id x a) refl

-- one more id, which was not there
pub count-push : (a x : ActorId) (ids : List ActorId) → (Contains ids x → ⊥) → ((id : ActorId) → count_of id ids ≤ 1) → count_of a (ids ++ x ∷ []) ≤ 1
count-push a x ids h few =
    let grown : count_of a (ids ++ x ∷ []) ≡ count_of a ids + cond (same_id x a) 1 0 = sum_by_push (λ y. cond (same_id y a) 1 0) ids x in
    let by : (b : Bool) → same_id x a ≡ b → count_of a ids + cond b 1 0 ≤ 1 = elim [
      | true ↦ λ e. let none' : count_of x ids ≡ 0 = count-none x ids h in let same : count_of x ids ≡ count_of a ids = ap (λ z. count_of z ids) (same_id-true x a e) in omega arith
      | false ↦ λ e. let f : count_of a ids ≤ 1 = few a in omega arith
    ] in
    subst (λ n. n ≤ 1) (sym grown) (by (same_id x a) refl)

weighed : (w : ℕ) (a : ActorId) (ids : List ActorId) → sum_by (λ id. cond (same_id id a) w 0) ids ≡ w * count_of a ids
weighed w a [] = grind arith
weighed w a (x ∷ ids) =
    let r : sum_by (λ id. cond (same_id id a) w 0) ids ≡ w * count_of a ids = weighed w a ids in
    let s : sum_by (λ id. cond (same_id id a) w 0) (x ∷ ids) ≡ cond (same_id x a) w 0 + sum_by (λ id. cond (same_id id a) w 0) ids = sum_by-cons (λ id. cond (same_id id a) w 0) x ids in
    let t = count_step a x ids in
    let by : (b : Bool) → cond b w 0 + w * count_of a ids ≡ w * (cond b 1 0 + count_of a ids) = elim [ true ↦ grind arith | false ↦ grind arith ] in
    s ∙ (ap (λ n. cond (same_id x a) w 0 + n) r ∙ (by (same_id x a) ∙ ap (λ n. w * n) (sym t)))

module _ {X : Type 0} where
  sum_zero : (xs : List X) → sum_by (λ x. 0) xs ≡ 0
  sum_zero [] = refl
  sum_zero (x ∷ xs) = sum_by-cons (λ y. 0) x xs ∙ (let r = sum_zero xs in omega arith)

  sum_plus : (f g : X → ℕ) (xs : List X) → sum_by (λ x. f x + g x) xs ≡ sum_by f xs + sum_by g xs
  sum_plus f g [] = refl
  sum_plus f g (x ∷ xs) =
      let r = sum_plus f g xs in
      let a : sum_by (λ y. f y + g y) (x ∷ xs) ≡ (f x + g x) + sum_by (λ y. f y + g y) xs = sum_by-cons (λ y. f y + g y) x xs in
      let b : sum_by f (x ∷ xs) ≡ f x + sum_by f xs = sum_by-cons f x xs in
      let c : sum_by g (x ∷ xs) ≡ g x + sum_by g xs = sum_by-cons g x xs in
      omega arith

  sum_same : (f g : X → ℕ) (xs : List X) → ((x : X) → Contains xs x → f x ≡ g x) → sum_by f xs ≡ sum_by g xs
  sum_same f g [] h = refl
  sum_same f g (x ∷ xs) h =
      let r : sum_by f xs ≡ sum_by g xs = sum_same f g xs (λ y c. h y (contains_tail x xs y c)) in
      let e : f x ≡ g x = h x (contains_head x xs) in
      let b : sum_by f (x ∷ xs) ≡ f x + sum_by f xs = sum_by-cons f x xs in
      let c : sum_by g (x ∷ xs) ≡ g x + sum_by g xs = sum_by-cons g x xs in
      omega arith

  sum_ones : (xs : List X) → sum_by (λ x. 1) xs ≡ length xs
  sum_ones [] = refl
  sum_ones (x ∷ xs) =
      let r : sum_by (λ x. 1) xs ≡ length xs = sum_ones xs in
      let a : sum_by (λ x. 1) (x ∷ xs) ≡ 1 + sum_by (λ x. 1) xs = sum_by-cons (λ y. 1) x xs in omega arith

  sum_less : (f g : X → ℕ) (xs : List X) → ((x : X) → Contains xs x → f x ≤ g x) → sum_by f xs ≤ sum_by g xs
  sum_less f g [] h = omega arith
  sum_less f g (x ∷ xs) h =
      let r : sum_by f xs ≤ sum_by g xs = sum_less f g xs (λ y c. h y (contains_tail x xs y c)) in
      let e : f x ≤ g x = h x (contains_head x xs) in
      let b : sum_by f (x ∷ xs) ≡ f x + sum_by f xs = sum_by-cons f x xs in
      let c : sum_by g (x ∷ xs) ≡ g x + sum_by g xs = sum_by-cons g x xs in
      omega arith

  pub length_map : {Y : Type 0} (f : X → Y) (xs : List X) → length (map f xs) ≡ length xs
  length_map f [] = refl
  length_map f (x ∷ xs) = ap suc (length_map f xs)

module _ {E : Type 0} where
  abbrev of_id : ActorId → List (Pair E) → List (Pair E)
  of_id id ps = filter (λ p. same_id id p.entry.actor) ps

  one_more : (f : Pair E → ℕ) (id : ActorId) (p : Pair E) (ps : List (Pair E)) → sum_by f (of_id id (p ∷ ps)) ≡ cond (same_id id p.entry.actor) (f p) 0 + sum_by f (of_id id ps)
  one_more f id p ps =
      let by : (b : Bool) → sum_by f (cond b (p ∷ of_id id ps) (of_id id ps)) ≡ cond b (f p) 0 + sum_by f (of_id id ps) = elim [
        | true ↦ sum_by-cons f p (of_id id ps)
        | false ↦ omega arith
      ] in by (same_id id p.entry.actor)

  -- the own entries of these ids, added up, are all entries, each as often as its actor stands among the ids
  sum-own : (f : Pair E → ℕ) (ids : List ActorId) (ps : List (Pair E)) → sum_by (λ id. sum_by f (of_id id ps)) ids ≡ sum_by (λ p. f p * count_of p.entry.actor ids) ps
  sum-own f ids [] = sum_zero ids
  sum-own f ids (p ∷ ps) =
      let r : sum_by (λ id. sum_by f (of_id id ps)) ids ≡ sum_by (λ q. f q * count_of q.entry.actor ids) ps = sum-own f ids ps in
      let a : sum_by (λ id. sum_by f (of_id id (p ∷ ps))) ids ≡ sum_by (λ id. cond (same_id id p.entry.actor) (f p) 0 + sum_by f (of_id id ps)) ids =
      sum_same (λ id. sum_by f (of_id id (p ∷ ps))) (λ id. cond (same_id id p.entry.actor) (f p) 0 + sum_by f (of_id id ps)) ids (λ id c. one_more f id p ps) in
      let b : sum_by (λ id. cond (same_id id p.entry.actor) (f p) 0 + sum_by f (of_id id ps)) ids ≡ sum_by (λ id. cond (same_id id p.entry.actor) (f p) 0) ids + sum_by (λ id. sum_by f (of_id id ps)) ids =
      sum_plus (λ id. cond (same_id id p.entry.actor) (f p) 0) (λ id. sum_by f (of_id id ps)) ids in
      let c : sum_by (λ q. f q * count_of q.entry.actor ids) (p ∷ ps) ≡ f p * count_of p.entry.actor ids + sum_by (λ q. f q * count_of q.entry.actor ids) ps = sum_by-cons (λ q. f q * count_of q.entry.actor ids) p ps in
      a ∙ (b ∙ (ap (λ n. n + sum_by (λ id. sum_by f (of_id id ps)) ids) (weighed (f p) p.entry.actor ids) ∙ (ap (λ n. f p * count_of p.entry.actor ids + n) r ∙ sym c)))

module _ {E : Type 0} (S : Sense E) where
  -- where each actor of the history is one of these ids, and none has more than so many entries, the history is no longer than that many for each id
  pub history-bound : (ids : List ActorId) (history : List (Entry E)) (most : ℕ) → ((e : Entry E) → Contains history e → Contains ids e.actor) → ((id : ActorId) → length (own S id history) ≤ most) → length history ≤ length ids * most
  history-bound ids history most members short =
      let ps = pairs_of S history in
      let each : (p : Pair E) → Contains ps p → 1 ≤ 1 * count_of p.entry.actor ids =
      λ p c. let m = count-some p.entry.actor ids (members p.entry (subst (λ z. Contains z p.entry) (pairs_of-entries S history) (contains_map (λ (q : Pair E). q.entry) ps p c))) in omega arith in
      let low : sum_by (λ (p : Pair E). 1) ps ≤ sum_by (λ p. 1 * count_of p.entry.actor ids) ps = sum_less (λ p. 1) (λ p. 1 * count_of p.entry.actor ids) ps each in
      let ones : sum_by (λ (p : Pair E). 1) ps ≡ length ps = sum_ones ps in
      let long : length ps ≡ length history = sym (length_map (λ (p : Pair E). p.entry) ps) ∙ ap length (pairs_of-entries S history) in
      let all : sum_by (λ id. sum_by (λ (p : Pair E). 1) (of_id id ps)) ids ≡ sum_by (λ p. 1 * count_of p.entry.actor ids) ps = sum-own (λ p. 1) ids ps in
      let top : sum_by (λ id. sum_by (λ (p : Pair E). 1) (of_id id ps)) ids ≤ length ids * most =
      sum_by-le (λ id. sum_by (λ (p : Pair E). 1) (of_id id ps)) most ids (λ k d lt. subst (λ n. n ≤ most) (sym (sum_ones (own S _ history))) (short _)) in
      omega arith
