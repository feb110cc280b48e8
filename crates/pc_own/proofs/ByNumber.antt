-- Transactions stand at the places of their numbers, so an entry that is for one of them changes that one alone.
use Rattle.std.proofs.Common.{◌≡◌, ◌≢◌, ◌↔◌, ℕ, zero, suc, ◌+◌, ◌<◌, ◌≤◌, Contains, List, [], ◌∷◌, ◌++◌, Some, length, map, reverse, slice_get, slice_index_or, slice_set, refl, sym, ap, subst, ◌∙◌, inl, inr, arith}
use Rattle.std.proofs.lemmas.Bool.{cases_eq, cases_lt}
use Rattle.std.proofs.lemmas.List.{length-reverse, reverse-append, reverse-reverse}
use Rattle.pc_base.specs.declared.transaction.TxnId.{TxnId}
use Rattle.pc_lists.proofs.Lists.{contains_cons, contains_head, contains_nil, contains_tail, get_append, get_push, get_push_cases}
use Rattle.pc_own.specs.Changes.{ChangesAt}
use Rattle.pc_own.specs.Numbered.{AreBegunInOrder}
use Rattle.pc_proto.specs.declared.answer.Answer.{Answer}
use Rattle.pc_world.specs.Known.{told_first}
use Rattle.pc_world.specs.Known.Traffic.{Heard}
use Rattle.pc_world.specs.Known.Transactions.{Txn, txn_told}

-- ---- what stands at a number

at-most : (txns : List Txn) (t : Txn) → AreBegunInOrder txns → Contains txns t → (1 ≤ t.id.number) × (t.id.number ≤ length txns)
at-most [] t numbered c = absurd (contains_nil t c)
at-most (u ∷ txns) t numbered c =
    elim (contains_cons u txns t c) [
      | inl same ↦
          let is : t.id.number ≡ length txns + 1 = ap (λ (x : Txn). x.id.number) (sym same) ∙ numbered.0 in
          (omega arith, omega arith)
      | inr later ↦ let r = at-most txns t numbered.1 later in (r.0, omega (arith, r.1))
    ]

last-place : (u t : Txn) (txns : List Txn) (place : ℕ) → u ≡ t → u.id.number ≡ length txns + 1 → t.id.number ≡ place + 1 → place ≡ length (reverse txns)
last-place u t txns place same last is =
    let number : t.id.number ≡ length txns + 1 = ap (λ (x : Txn). x.id.number) (sym same) ∙ last in
    let long : length (reverse txns) ≡ length txns = length-reverse txns in
    omega arith

-- each stands at its number
pub stands_at : (txns : List Txn) (t : Txn) (place : ℕ) → AreBegunInOrder txns → Contains txns t → t.id.number ≡ place + 1 → slice_get (reverse txns) place ≡ Some t
stands_at [] t place numbered c is = absurd (contains_nil t c)
stands_at (u ∷ txns) t place numbered c is =
    rw (reverse-push txns u)
    (elim (contains_cons u txns t c) [
      | inl same ↦ ap (slice_get (reverse txns ++ u ∷ [])) (last-place u t txns place same numbered.0 is) ∙ get_push (reverse txns) u ∙ ap Some same
      | inr later ↦ get_append (reverse txns) (u ∷ []) place t (stands_at txns t place numbered.1 later is)
    ])
  where
    reverse-push : (txns : List Txn) (u : Txn) → reverse (u ∷ txns) ≡ reverse txns ++ u ∷ []
    reverse-push txns u = reverse-append (u ∷ []) txns

-- what stands there is one of them
pub is_there : (txns : List Txn) (t : Txn) (place : ℕ) → slice_get (reverse txns) place ≡ Some t → Contains txns t
is_there [] t place at = absurd cc
is_there (u ∷ txns) t place at =
    elim (get_push_cases (reverse txns) u place t (ap (λ (us : List Txn). slice_get us place) (sym (reverse-append (u ∷ []) txns)) ∙ at)) [
      | inl earlier ↦ contains_tail u txns t (is_there txns t place earlier)
      | inr last ↦ subst (Contains (u ∷ txns)) last.1 (contains_head u txns)
    ]

-- the one of an id stands at its number
pub own_at : (txns : List Txn) (id : TxnId) (place : ℕ) (t : Txn) → AreBegunInOrder txns → id.number ≡ place + 1
    → ((slice_get (reverse txns) place ≡ Some t) × (t.id ≡ id)) ↔ (Contains txns t × (t.id ≡ id))
own_at txns id place t numbered is = (
  λ h. (is_there txns t place h.0, h.1),
  λ h. (stands_at txns t place numbered h.0 (ap (λ (x : TxnId). x.number) h.1 ∙ is), h.1),
)

-- none has the number 0
pub none_at_zero : (txns : List Txn) (id : TxnId) (t : Txn) → AreBegunInOrder txns → id.number ≡ 0 → Contains txns t × (t.id ≡ id) → ⊥
none_at_zero txns id t numbered is h =
    let low = (at-most txns t numbered h.0).0 in
    let number : t.id.number ≡ 0 = ap (λ (x : TxnId). x.number) h.1 ∙ is in
    omega arith

-- ---- a change of one of them

set-last : (f : Txn → Txn) (xs : List Txn) (t : Txn) (d : Txn) (place : ℕ) → place ≡ length xs → slice_set (xs ++ t ∷ []) place (f (slice_index_or (xs ++ t ∷ []) place d)) ≡ xs ++ f t ∷ []
set-last f [] t d zero is = refl
set-last f [] t d (suc place) is = absurd (omega arith)
set-last f (x ∷ xs) t d zero is = absurd (omega arith)
set-last f (x ∷ xs) t d (suc place) is = ap (λ (us : List Txn). x ∷ us) (set-last f xs t d place (omega arith))

set-front : (f : Txn → Txn) (xs : List Txn) (t : Txn) (d : Txn) (place : ℕ) → place < length xs → slice_set (xs ++ t ∷ []) place (f (slice_index_or (xs ++ t ∷ []) place d)) ≡ slice_set xs place (f (slice_index_or xs place d)) ++ t ∷ []
set-front f [] t d place low = absurd (omega arith)
set-front f (x ∷ xs) t d zero low = refl
set-front f (x ∷ xs) t d (suc place) low = ap (λ (us : List Txn). x ∷ us) (set-front f xs t d place (omega arith))

reverse-last : (xs : List Txn) (t : Txn) → reverse (xs ++ t ∷ []) ≡ t ∷ reverse xs
reverse-last xs t = reverse-append xs (t ∷ [])

reverse-first : (xs : List Txn) (t : Txn) → reverse (t ∷ xs) ≡ reverse xs ++ t ∷ []
reverse-first xs t = reverse-append (t ∷ []) xs

-- where nothing changes
pub unchanged : (f : Txn → Txn) → ((t : Txn) → f t ≡ t) → (txns : List Txn) → map f txns ≡ txns
unchanged f same [] = refl
unchanged f same (t ∷ txns) = ap (λ (u : Txn). u ∷ map f txns) (same t) ∙ ap (λ (us : List Txn). t ∷ us) (unchanged f same txns)

module _ (f : Txn → Txn) (n : ℕ) (others : (t : Txn) → t.id.number ≢ n → f t ≡ t) where
  none-changed : (txns : List Txn) → AreBegunInOrder txns → length txns < n → map f txns ≡ txns
  none-changed [] numbered high = refl
  none-changed (t ∷ txns) numbered high =
      let one : f t ≡ t = others t (λ e. omega (arith, numbered.0)) in
      ap (λ (u : Txn). u ∷ map f txns) one ∙ ap (λ (us : List Txn). t ∷ us) (none-changed txns numbered.1 (omega arith))

  zero-changed : (txns : List Txn) → AreBegunInOrder txns → n ≡ 0 → map f txns ≡ txns
  zero-changed [] numbered is = refl
  zero-changed (t ∷ txns) numbered is =
      let one : f t ≡ t = others t (λ e. omega (arith, numbered.0)) in
      ap (λ (u : Txn). u ∷ map f txns) one ∙ ap (λ (us : List Txn). t ∷ us) (zero-changed txns numbered.1 is)

  front-changed : (t : Txn) (txns : List Txn) (place : ℕ) (d : Txn) → t.id.number ≡ length txns + 1 → n ≡ suc place → place < length txns
      → reverse (slice_set (reverse txns) place (f (slice_index_or (reverse txns) place d))) ≡ map f txns
      → reverse (slice_set (reverse txns ++ t ∷ []) place (f (slice_index_or (reverse txns ++ t ∷ []) place d))) ≡ f t ∷ map f txns
  front-changed t txns place d last is below earlier =
      let inside : place < length (reverse txns) = omega (arith, length-reverse txns) in
      let one : f t ≡ t = others t (λ e. omega arith) in
      ap reverse (set-front f (reverse txns) t d place inside)
      ∙ reverse-last (slice_set (reverse txns) place (f (slice_index_or (reverse txns) place d))) t
      ∙ ap (λ (us : List Txn). t ∷ us) earlier
      ∙ ap (λ (u : Txn). u ∷ map f txns) (sym one)

  last-changed : (t : Txn) (txns : List Txn) (place : ℕ) (d : Txn) → AreBegunInOrder txns → n ≡ suc place → place ≡ length txns
      → reverse (slice_set (reverse txns ++ t ∷ []) place (f (slice_index_or (reverse txns ++ t ∷ []) place d))) ≡ f t ∷ map f txns
  last-changed t txns place d numbered is at =
      let there : place ≡ length (reverse txns) = omega (arith, length-reverse txns) in
      ap reverse (set-last f (reverse txns) t d place there)
      ∙ reverse-last (reverse txns) (f t)
      ∙ ap (λ (us : List Txn). f t ∷ us) (reverse-reverse txns ∙ sym (none-changed txns numbered (omega arith)))

  one-changed : (txns : List Txn) (place : ℕ) (d : Txn) → AreBegunInOrder txns → n ≡ suc place → place < length txns
      → reverse (slice_set (reverse txns) place (f (slice_index_or (reverse txns) place d))) ≡ map f txns
  one-changed [] place d numbered is low = absurd (omega arith)
  one-changed (t ∷ txns) place d numbered is low =
      rw (reverse-first txns t)
      (elim (cases_lt place (length txns)) [
        | inl below ↦ front-changed t txns place d numbered.0 is below (one-changed txns place d numbered.1 is below)
        | inr above ↦ last-changed t txns place d numbered.1 is (omega arith)
      ])

  change-by : (number : ℕ) (txns items after : List Txn) (d : Txn) → number ≡ n → AreBegunInOrder txns → items ≡ reverse txns → ChangesAt n f items after → reverse after ≡ map f txns
  change-by zero txns items after d same numbered is c =
      ap reverse (c.absent (sym same) ∙ is) ∙ reverse-reverse txns ∙ sym (zero-changed txns numbered (sym same))
  change-by (suc place) txns items after d same numbered is c =
      elim (cases_lt place (length txns)) [
        | inl below ↦
            let inside : place < length items = omega (arith, ap length is, length-reverse txns) in
            ap reverse (c.there place d (sym same) inside ∙ ap (λ (us : List Txn). slice_set us place (f (slice_index_or us place d))) is)
            ∙ one-changed txns place d numbered (sym same) below
        | inr above ↦
            let outside : length items < n = omega (arith, ap length is, length-reverse txns, same) in
            ap reverse (c.past outside ∙ is) ∙ reverse-reverse txns ∙ sym (none-changed txns numbered (omega (arith, same)))
      ]

none-left : (f : Txn → Txn) (n : ℕ) (items after : List Txn) → items ≡ [] → ChangesAt n f items after → after ≡ []
none-left f n items after none c = elim (cases_eq n 0) [
  | inl is ↦ c.absent is ∙ none
  | inr other ↦ c.past (let long : length items ≡ 0 = ap length none in omega arith) ∙ none
]

-- of transactions by number one is changed
pub one_changed : (f : Txn → Txn) (n : ℕ) (txns items after : List Txn) → ((t : Txn) → t.id.number ≢ n → f t ≡ t) → AreBegunInOrder txns → reverse items ≡ txns → ChangesAt n f items after → reverse after ≡ map f txns
one_changed f n [] items after others numbered is c =
    let none : items ≡ [] = sym (reverse-reverse items) ∙ ap reverse is in
    ap reverse (none-left f n items after none c)
one_changed f n (t ∷ txns) items after others numbered is c =
    change-by f n others n (t ∷ txns) items after t refl numbered (sym (reverse-reverse items) ∙ ap reverse is) c

length-last : (xs : List Txn) (t : Txn) → length (xs ++ t ∷ []) ≡ suc (length xs)
length-last [] t = refl
length-last (x ∷ xs) t = ap suc (length-last xs t)

-- the last one is changed
pub last_changed : (answer : Answer) (replied : List Heard) (txns items after : List Txn) → reverse items ≡ txns → ChangesAt (length items) (txn_told answer replied) items after → reverse after ≡ told_first answer replied txns
last_changed answer replied [] items after is c =
    let none : items ≡ [] = sym (reverse-reverse items) ∙ ap reverse is in
    ap reverse (c.absent (ap length none) ∙ none)
last_changed answer replied (t ∷ txns) items after is c =
    let items_are : items ≡ reverse txns ++ t ∷ [] = sym (reverse-reverse items) ∙ ap reverse is ∙ reverse-first txns t in
    let long : length items ≡ suc (length (reverse txns)) = ap length items_are ∙ length-last (reverse txns) t in
    ap reverse
    (c.there (length (reverse txns)) t long (omega (arith, long))
    ∙ ap (λ (us : List Txn). slice_set us (length (reverse txns)) (txn_told answer replied (slice_index_or us (length (reverse txns)) t))) items_are
    ∙ set-last (txn_told answer replied) (reverse txns) t t (length (reverse txns)) refl)
    ∙ reverse-last (reverse txns) (txn_told answer replied t)
    ∙ ap (λ (us : List Txn). txn_told answer replied t ∷ us) (reverse-reverse txns)
