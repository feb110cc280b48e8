-- What is so of each element of a list, through the functions that make lists and search them.
use Rattle.std.proofs.Common.{Bool, inl, inr, subst, true, false, cond, not, Contains, List, [], ◌∷◌, ◌++◌, map, filter, find, fold, filter_map, Option, None, Some, IfSome}
use Rattle.std.specs.List.{AllByRecursion as Each, cons_option, flat_map}
use Rattle.std.specs.Option.{option_map}
use Rattle.std.specs.BTreeMap.{insert_entry}
use Rattle.std.specs.declared.cmp.Ordering.{Ordering}
use Rattle.std.specs.declared.cmp.Ordering.TheVariants.{Less, Equal, Greater}
use Rattle.std.specs.Ordering.{match_ordering}
use Rattle.pc_base.specs.Keyed.{at, without}
use Rattle.pc_lists.proofs.Lists.{contains_cons, contains_nil}

module _ {X : Type 0} (P : X → Type 0) where
  pub each-append : (xs ys : List X) → Each P xs → Each P ys → Each P (xs ++ ys)
  each-append [] ys a b = b
  each-append (x ∷ xs) ys a b = (a.0, each-append xs ys a.1 b)

  pub each-front : (xs ys : List X) → Each P (xs ++ ys) → Each P xs
  each-front [] ys a = tt
  each-front (x ∷ xs) ys a = (a.0, each-front xs ys a.1)

  pub each-back : (xs ys : List X) → Each P (xs ++ ys) → Each P ys
  each-back [] ys a = a
  each-back (x ∷ xs) ys a = each-back xs ys a.1

  kept_when : (b : Bool) (x : X) (xs : List X) → P x → Each P xs → Each P (cond b (x ∷ xs) xs)
  kept_when true x xs h hs = (h, hs)
  kept_when false x xs h hs = hs

  pub each-filter : (test : X → Bool) (xs : List X) → Each P xs → Each P (filter test xs)
  each-filter test [] a = tt
  each-filter test (x ∷ xs) a = kept_when (test x) x (filter test xs) a.0 (each-filter test xs a.1)

  found_when : (b : Bool) (x : X) (later : Option X) → P x → IfSome later P → IfSome (cond b (Some x) later) P
  found_when true x later h hs = h
  found_when false x later h hs = hs

  pub each-find : (test : X → Bool) (xs : List X) → Each P xs → IfSome (find test xs) P
  each-find test [] a = tt
  each-find test (x ∷ xs) a = found_when (test x) x (find test xs) a.0 (each-find test xs a.1)

  -- a fold that chooses among the elements
  pub each-choose : (choose : Option X → X → Option X) → ((best : Option X) (x : X) → IfSome best P → P x → IfSome (choose best x) P) → (best : Option X) (xs : List X) → IfSome best P → Each P xs → IfSome (fold choose best xs) P
  each-choose choose keeps best [] h a = h
  each-choose choose keeps best (x ∷ xs) h a = each-choose choose keeps (choose best x) xs (keeps best x h a.0) a.1

  pub each-map : {Y : Type 0} (f : Y → X) (ys : List Y) → Each (λ y. P (f y)) ys → Each P (map f ys)
  each-map f [] a = tt
  each-map f (y ∷ ys) a = (a.0, each-map f ys a.1)

  pub each-unmap : {Y : Type 0} (f : Y → X) (ys : List Y) → Each P (map f ys) → Each (λ y. P (f y)) ys
  each-unmap f [] a = tt
  each-unmap f (y ∷ ys) a = (a.0, each-unmap f ys a.1)

  pub each-flat_map : {Y : Type 0} (f : Y → List X) (ys : List Y) → Each (λ y. Each P (f y)) ys → Each P (flat_map f ys)
  each-flat_map f [] a = tt
  each-flat_map f (y ∷ ys) a = each-append (f y) (flat_map f ys) a.0 (each-flat_map f ys a.1)

  pub each-flat_unmap : {Y : Type 0} (f : Y → List X) (ys : List Y) → Each P (flat_map f ys) → Each (λ y. Each P (f y)) ys
  each-flat_unmap f [] a = tt
  each-flat_unmap f (y ∷ ys) a = (each-front (f y) (flat_map f ys) a, each-flat_unmap f ys (each-back (f y) (flat_map f ys) a))

  pub each-weaker : (Q : X → Type 0) → ((x : X) → P x → Q x) → (xs : List X) → Each P xs → Each Q xs
  each-weaker Q on [] a = tt
  each-weaker Q on (x ∷ xs) a = (on x a.0, each-weaker Q on xs a.1)

  pub each-always : ((x : X) → P x) → (xs : List X) → Each P xs
  each-always on [] = tt
  each-always on (x ∷ xs) = (on x, each-always on xs)

  added : (o : Option X) (xs : List X) → IfSome o P → Each P xs → Each P (cons_option o xs)
  added None xs h a = a
  added (Some x) xs h a = (h, a)

  pub each-filter_map : {Y : Type 0} (h : Y → Option X) (ys : List Y) → ((y : Y) → IfSome (h y) P) → Each P (filter_map h ys)
  each-filter_map h [] on = tt
  each-filter_map h (y ∷ ys) on = added (h y) (filter_map h ys) (on y) (each-filter_map h ys on)

  pub some-map : {Y : Type 0} (f : Y → X) (o : Option Y) → IfSome o (λ y. P (f y)) → IfSome (option_map f o) P
  some-map f None h = tt
  some-map f (Some y) h = h

module _ {K V : Type 0} (P : V → Type 0) (same : K → K → Bool) where
  pub each-at : (key : K) (entries : List (K × V)) → Each (λ e. P e.1) entries → IfSome (at same key entries) P
  each-at key entries a =
      some-map P (λ (e : K × V). e.1) (find (λ e. same e.0 key) entries) (each-find (λ e. P e.1) (λ e. same e.0 key) entries a)

  pub each-without : (key : K) (entries : List (K × V)) → Each (λ e. P e.1) entries → Each (λ e. P e.1) (without same key entries)
  each-without key entries a = each-filter (λ e. P e.1) (λ e. not (same e.0 key)) entries a

module _ {K V : Type 0} (P : V → Type 0) (cmp : K → K → Ordering) where
  pub each-insert : (key : K) (value : V) (entries : List (K × V)) → P value → Each (λ e. P e.1) entries → Each (λ e. P e.1) (insert_entry cmp entries key value)
  each-insert key value [] h a = (h, tt)
  each-insert key value (e ∷ es) h a = by (cmp key e.0) (each-insert key value es h a.1)
    where
      by : (o : Ordering) → Each (λ e. P e.1) (insert_entry cmp es key value) → Each (λ e. P e.1) (match_ordering o ((key, value) ∷ e ∷ es) ((e.0, value) ∷ es) (e ∷ insert_entry cmp es key value))
      by Less rest = (h, a)
      by Equal rest = (h, a.1)
      by Greater rest = (a.0, rest)

pub each-contains : {X : Type 0} (P : X → Type 0) (xs : List X) (x : X) → Each P xs → Contains xs x → P x
each-contains P [] x a c = absurd (contains_nil x c)
each-contains P (y ∷ ys) x a c =
    elim (contains_cons y ys x c) [ inl same ↦ subst P same a.0 | inr later ↦ each-contains P ys x a.1 later ]

-- What is so of each one for two reasons.
pub each-both : {X : Type 0} (P Q S : X → Type 0) → ((x : X) → P x → Q x → S x) → (xs : List X) → Each P xs → Each Q xs → Each S xs
each-both P Q S on [] a b = tt
each-both P Q S on (x ∷ xs) a b = (on x a.0 b.0, each-both P Q S on xs a.1 b.1)
