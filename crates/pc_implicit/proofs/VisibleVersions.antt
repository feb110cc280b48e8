-- What is visible at a key and timestamp where versions rise: the last version there, and the greatest.
use Rattle.std.proofs.Common.{◌≡◌, ℕ, ◌<◌, ◌≤◌, Bool, true, false, ◌&&◌, nat_le, nat_lt, cond, if◌then◌else◌, List, [], ◌∷◌, ◌++◌, filter, fold, Option, None, Some, IfSome, refl, sym, ap, subst, ◌∙◌, ◌⊎◌, inl, inr, All, Contains, arith}
use Rattle.std.proofs.lemmas.List.Elements.{All-contains, All-from_recursion, recursion_from_All}
use Rattle.std.specs.List.{AllByRecursion as Each, AllPairs}
use Rattle.pc_base.specs.declared.version.Version.{Version}
use Rattle.pc_base.specs.Span.{same_key}
use Rattle.pc_base.specs.Versions.{later, visible}
use Rattle.pc_implicit.proofs.IntentKeys.{pairs-first, pairs-rest}
use Rattle.pc_implicit.proofs.RisingVersions.{Rise}
use Rattle.pc_implicit.proofs.VersionSearches.{none-passes}
use Rattle.pc_lists.proofs.Each.{each-always, each-append, each-back, each-weaker}
use Rattle.pc_lists.proofs.Lists.{contains_cons, contains_nil}
use Rattle.pc_lists.proofs.Same.{same_key-equal, same_key-is}

later-some : (best : Option Version) (v : Version) → later best v ≡ None → ⊥
later-some None v h = cc
later-some (Some best) v h = by (nat_lt best.ts v.ts) h
  where
    by : (b : Bool) → (if b then Some v else Some best) ≡ None → ⊥
    by true h = cc
    by false h = cc

module _ {X : Type 0} (R : X → X → Type 0) where
  -- what holds of each two elements holds of those before one and of it
  pub pairs-before : (front : List X) (x : X) (back : List X) → AllPairs R (front ++ x ∷ back) → Each (λ w. R w x) front
  pairs-before [] x back h = tt
  pairs-before (y ∷ front) x back h =
      let first : Each (R y) (front ++ x ∷ back) = recursion_from_All (R y) (front ++ x ∷ back) (pairs-first R y (front ++ x ∷ back) h) in
      let rest : Each (R y) (x ∷ back) = each-back (R y) front (x ∷ back) first in
      (rest.0, pairs-before front x back (pairs-rest R y (front ++ x ∷ back) h))

module _ (key : List ℕ) (ts : ℕ) where
  -- A version that such a read may see.
  abbrev pub may_see : Version → Bool
  may_see v = same_key v.key key && nat_le v.ts ts

  -- A version of the key lies above the timestamp.
  abbrev pub IsUnseen : Version → Type 0
  IsUnseen v = v.key ≡ key → ts < v.ts

  seen : (v : Version) → may_see v ≡ true → (v.key ≡ key) × (v.ts ≤ ts)
  seen v h = by (same_key v.key key) refl h
    where
      by : (b : Bool) → same_key v.key key ≡ b → (b && nat_le v.ts ts) ≡ true → (v.key ≡ key) × (v.ts ≤ ts)
      by true is h = (same_key-is v.key key is, grind arith)
      by false is h = absurd cc

  sees : (v : Version) → v.key ≡ key → v.ts ≤ ts → may_see v ≡ true
  sees v at low = let same : same_key v.key key ≡ true = same_key-equal v.key key at in grind arith

  not-seen : (v : Version) → may_see v ≡ false → IsUnseen v
  not-seen v is at = let high : v.ts ≤ ts → ⊥ = λ low. let it : may_see v ≡ true = sees v at low in cc in omega (arith, high)

  -- where nothing is visible, each version of the key lies above the timestamp
  pub none-visible : (vs : List Version) → visible key ts vs ≡ None → All IsUnseen vs
  none-visible vs none =
      All-from_recursion IsUnseen vs
      (each-weaker (λ v. may_see v ≡ true → ⊥) IsUnseen
      (λ v h at. let high : v.ts ≤ ts → ⊥ = λ low. h (sees v at low) in omega (arith, high)) vs
      (none-passes later later-some may_see vs none))

  -- What is visible: a version of the key, at or below the timestamp, behind which all of the key lie above the timestamp.
  pub record IsLast (vs : List Version) (v : Version) : Type 0 where
    pub front : List Version
    pub back : List Version
    pub whole : vs ≡ front ++ v ∷ back
    pub at : v.key ≡ key
    pub low : v.ts ≤ ts
    pub rest : All IsUnseen back

  -- Each that may be seen lies above the best so far.
  IsBelow : Option Version → Version → Type 0
  IsBelow best v = IfSome best (λ b. may_see v ≡ true → b.ts < v.ts)

  taken : (best : Option Version) (v : Version) → may_see v ≡ true → IsBelow best v → later best v ≡ Some v
  unfolding IsBelow
  taken None v sees below = refl
  taken (Some b) v sees below = let above : b.ts < v.ts = below sees in grind arith

  below-next : (v : Version) (vs : List Version) → may_see v ≡ true → AllPairs Rise (v ∷ vs) → Each (IsBelow (Some v)) vs
  unfolding IsBelow
  below-next v vs sees rising =
      each-weaker (Rise v) (λ w. may_see w ≡ true → v.ts < w.ts) (λ w rise sees_too. rise ((seen v sees).0 ∙ sym (seen w sees_too).0)) vs
      (recursion_from_All (Rise v) vs (pairs-first Rise v vs rising))

  Stays : Option Version → List Version → Version → Type 0
  Stays best vs v = (best ≡ Some v) × Each (λ w. may_see w ≡ false) vs

  unseen-all : (vs : List Version) → Each (λ w. may_see w ≡ false) vs → All IsUnseen vs
  unseen-all vs a = All-from_recursion IsUnseen vs (each-weaker (λ w. may_see w ≡ false) IsUnseen not-seen vs a)

  pushed : (x v : Version) (vs : List Version) → IsLast vs v → IsLast (x ∷ vs) v
  pushed x v vs h = record { front = x ∷ h.front; back = h.back; whole = ap (λ ws. x ∷ ws) h.whole; at = h.at; low = h.low; rest = h.rest }

  chosen : (best : Option Version) (vs : List Version) (v : Version) → AllPairs Rise vs → Each (IsBelow best) vs → fold later best (filter may_see vs) ≡ Some v → Stays best vs v ⊎ IsLast vs v
  unfolding Stays
  chosen best [] v rising below h = inl (h, tt)
  chosen best (x ∷ xs) v rising below h =
      by (may_see x) refl h (λ best below. chosen best xs v (pairs-rest Rise x xs rising) below)
    where
      by : (b : Bool) → may_see x ≡ b → fold later best (cond b (x ∷ filter may_see xs) (filter may_see xs)) ≡ Some v
          → ((best : Option Version) → Each (IsBelow best) xs → fold later best (filter may_see xs) ≡ Some v → Stays best xs v ⊎ IsLast xs v) → Stays best (x ∷ xs) v ⊎ IsLast (x ∷ xs) v
      by false is found rest = elim (rest best below.1 found) [ inl stays ↦ inl (stays.0, (is, stays.1)) | inr last ↦ inr (pushed x v xs last) ]
      by true is found rest =
          let now : later best x ≡ Some x = taken best x is below.0 in
          elim (rest (Some x) (below-next x xs is rising) (subst (λ o. fold later o (filter may_see xs) ≡ Some v) now found)) [
            | inl stays ↦
                let same : x ≡ v = let one = stays.0 in cc in
                let s = seen x is in
                inr (subst (IsLast (x ∷ xs)) same (record { front = []; back = xs; whole = refl; at = s.0; low = s.1; rest = unseen-all xs stays.1 }))
            | inr last ↦ inr (pushed x v xs last)
          ]

  -- where versions rise, what is visible is the last
  pub visible-last : (vs : List Version) (v : Version) → AllPairs Rise vs → visible key ts vs ≡ Some v → IsLast vs v
  unfolding IsBelow Stays
  visible-last vs v rising h =
      elim (chosen None vs v rising (each-always (IsBelow None) (λ w. tt) vs) h) [ inl stays ↦ absurd (let none = stays.0 in cc) | inr last ↦ last ]

  before-last : (front : List Version) (v : Version) (back : List Version) → v.key ≡ key → AllPairs Rise (front ++ v ∷ back) → Each (λ w. may_see w ≡ true → w.ts < v.ts) front
  before-last front v back at rising =
      each-weaker (λ w. Rise w v) (λ w. may_see w ≡ true → w.ts < v.ts) (λ w rise sees. rise ((seen w sees).0 ∙ sym at)) front (pairs-before Rise front v back rising)

  -- no version of the key that may be seen lies above what is visible
  pub visible-greatest : (vs : List Version) (v : Version) → AllPairs Rise vs → visible key ts vs ≡ Some v → All (λ w. w.key ≡ key → w.ts ≤ ts → w.ts ≤ v.ts) vs
  visible-greatest vs v rising is =
      let h = visible-last vs v rising is in
      let parted : AllPairs Rise (h.front ++ v ∷ h.back) = subst (AllPairs Rise) h.whole rising in
      let IsNotAbove : Version → Type 0 = λ w. w.key ≡ key → w.ts ≤ ts → w.ts ≤ v.ts in
      let before : Each IsNotAbove h.front =
      each-weaker (λ w. may_see w ≡ true → w.ts < v.ts) IsNotAbove (λ w below at low. let under : w.ts < v.ts = below (sees w at low) in omega (arith, under)) h.front (before-last h.front v h.back h.at parted) in
      let behind : Each IsNotAbove h.back =
      each-weaker IsUnseen IsNotAbove (λ w unseen at low. let above : ts < w.ts = unseen at in absurd (omega (arith, above, low))) h.back (recursion_from_All IsUnseen h.back h.rest) in
      All-from_recursion IsNotAbove vs (subst (Each IsNotAbove) (sym h.whole) (each-append IsNotAbove h.front (v ∷ h.back) before ((λ at low. omega arith), behind)))

-- two versions of one key and timestamp are one
pub one-version : (vs : List Version) → AllPairs Rise vs → (v w : Version) → Contains vs v → Contains vs w → v.key ≡ w.key → v.ts ≡ w.ts → v ≡ w
one-version [] rising v w there also key ts = absurd (contains_nil v there)
one-version (x ∷ xs) rising v w there also key ts =
    let first : All (Rise x) xs = pairs-first Rise x xs rising in
    elim (contains_cons x xs v there) [
      | inl one ↦ elim (contains_cons x xs w also) [
        | inl two ↦ sym one ∙ two
        | inr later ↦
            let rise : x.ts < w.ts = All-contains (Rise x) xs w first later (ap (λ (u : Version). u.key) one ∙ key) in
            let same : x.ts ≡ v.ts = ap (λ (u : Version). u.ts) one in
            absurd (omega (arith, rise, same, ts))
      ]
      | inr later ↦ elim (contains_cons x xs w also) [
        | inl two ↦
            let rise : x.ts < v.ts = All-contains (Rise x) xs v first later (ap (λ (u : Version). u.key) two ∙ sym key) in
            let same : x.ts ≡ w.ts = ap (λ (u : Version). u.ts) two in
            absurd (omega (arith, rise, same, ts))
        | inr too ↦ one-version xs (pairs-rest Rise x xs rising) v w later too key ts
      ]
    ]
