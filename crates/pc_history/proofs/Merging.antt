-- The merge of lists: it is noted whose turn each number is, and then the lists are taken from in turns.
use Rattle.std.proofs.Common.{◌≡◌, ◌≢◌, ℕ, ◌+◌, ◌≤◌, ◌<◌, inl, inr, cond, eqb, List, [], ◌∷◌, ◌++◌, length, map, take, drop, get_or, set, refl, ap, sym, ◌∙◌, subst, arith, All, slice_index, Contains}
use Rattle.std.specs.List.{AllWithin}
use Rattle.std.proofs.lemmas.Bool.{eq-eqb, ne_eqb, eqb-true, cases_eq}
use Rattle.std.proofs.lemmas.List.{length-map, length-set, length-drop, get_or-map, get_or-set_same, get_or-set_other, get_or_default, take_all, take_more, drop_more, ext_get_or, map-set, map_more, map_push}
use Rattle.std.proofs.lemmas.List.Elements.{All-contains, All-map, AllWithin-more, at_read}
use Rattle.pc_base.specs.declared.Entry.{Entry}
use Rattle.pc_history.specs.Dealt.{dealt_to, HaveDealt, IsDealt, AreDealt, IsDealtBack, AreInTurns}
use Rattle.pc_lists.proofs.Lists.{all_from_contains, contains_filter, contains_in_filter}

set_keeps : (turns : List ℕ) (j k at : ℕ) → j < length turns → get_or turns k 0 ≡ at → get_or (set turns j at) k 0 ≡ at
set_keeps turns j k at within is = elim (cases_eq k j) [
  | inl same ↦ subst (λ n. get_or (set turns j at) n 0 ≡ at) (sym same) (get_or-set_same turns j at 0 within)
  | inr differ ↦ get_or-set_other turns j k at 0 differ ∙ is
]

-- the numbers of these entries are below n
pub entry_within : {E : Type 0} (entries : List (Entry E)) (n i : ℕ) (e : Entry E) → i < length entries → e ≡ get_or entries i e → All (λ (x : Entry E). x.step < n) entries → e.step < n
entry_within entries n i e there is all = subst (λ x. x.step < n) (sym is) (all i e there)

module _ {E : Type 0} (turns : List ℕ) (at : ℕ) (entries : List (Entry E)) (i : ℕ) (e : Entry E) (there : i < length entries) (is : e ≡ get_or entries i e) (within : e.step < length turns) where
  -- one more entry is noted
  pub noted_more : AllWithin (λ (x : Entry E). slice_index turns x.step ≡ at) entries 0 i → AllWithin (λ (x : Entry E). slice_index (set turns e.step at) x.step ≡ at) entries 0 (i + 1)
  noted_more before = AllWithin-more (λ (x : Entry E). slice_index (set turns e.step at) x.step ≡ at) entries 0 i
      (λ k d low lt. set_keeps turns e.step (get_or entries k d).step at within (before k d low lt))
      (at_read entries (λ (x : Entry E). slice_index (set turns e.step at) x.step ≡ at) i e there is (get_or-set_same turns e.step at 0 within))

  -- and no other number's turn is changed by it
  pub kept_more : (old : List ℕ) → ((k : ℕ) → AllWithin (λ (x : Entry E). x.step ≢ k) entries 0 i → slice_index turns k ≡ slice_index old k)
      → (k : ℕ) → AllWithin (λ (x : Entry E). x.step ≢ k) entries 0 (i + 1) → slice_index (set turns e.step at) k ≡ slice_index old k
  kept_more old before k none =
      let here : (get_or entries i e).step ≢ k = none i e (omega arith) (omega arith) in
      let differ : k ≢ e.step = λ same. here (ap (λ (x : Entry E). x.step) (sym is) ∙ sym same) in
      get_or-set_other turns e.step k at 0 differ ∙ before k (λ j d low lt. none j d low (omega arith))

module _ {E : Type 0} where
  -- So far the history was taken in these turns, and the rest of it is dealt out to what is left.
  abbrev pub IsTaken : ℕ → List ℕ → List (List (Entry E)) → List (List (Entry E)) → List (Entry E) → Type 0
  IsTaken i turns lists left merged = (history : List (Entry E)) (place : Entry E → ℕ) → turns ≡ map place history → HaveDealt history place lists
      → (merged ≡ take i history) × HaveDealt (drop i history) place left

  pub none_taken : (turns : List ℕ) (lists : List (List (Entry E))) → IsTaken 0 turns lists lists []
  none_taken turns lists = λ history place are have. (refl, have)

  pub all_taken : (turns : List ℕ) (lists left : List (List (Entry E))) (merged : List (Entry E)) (i : ℕ) → length turns ≤ i → IsTaken i turns lists left merged → AreInTurns merged turns lists
  all_taken turns lists left merged i all taken = λ history place are have.
      (taken history place are have).0 ∙ take_all i history (let same = ap length are in let many = length-map history place in omega arith)

  -- the list whose turn it is has the next entry of the history
  next-dealt : (history : List (Entry E)) (place : Entry E → ℕ) (left : List (List (Entry E))) (i turn : ℕ) (h : Entry E) → turn < length left → place h ≡ turn → drop i history ≡ h ∷ drop (i + 1) history → HaveDealt (drop i history) place left
      → get_or left turn [] ≡ h ∷ dealt_to place turn (drop (i + 1) history)
  next-dealt history place left i turn h lt is next have =
      have turn lt
      ∙ (ap (λ es. dealt_to place turn es) next
      ∙ ap (λ b. cond b (h ∷ dealt_to place turn (drop (i + 1) history)) (dealt_to place turn (drop (i + 1) history))) (eq-eqb (place h) turn is))

  -- and the others have none of it
  others-dealt : (history : List (Entry E)) (place : Entry E → ℕ) (left : List (List (Entry E))) (i turn : ℕ) (h : Entry E) → place h ≡ turn → drop i history ≡ h ∷ drop (i + 1) history → HaveDealt (drop i history) place left
      → (at : ℕ) → at < length left → at ≢ turn → get_or left at [] ≡ dealt_to place at (drop (i + 1) history)
  others-dealt history place left i turn h is next have at lt differ =
      have at lt
      ∙ (ap (λ es. dealt_to place at es) next
      ∙ ap (λ b. cond b (h ∷ dealt_to place at (drop (i + 1) history)) (dealt_to place at (drop (i + 1) history))) (ne_eqb (place h) at (λ same. differ (sym same ∙ is))))

  -- whose turn it is
  turn-is : (turns : List ℕ) (history : List (Entry E)) (place : Entry E → ℕ) (i : ℕ) (d : Entry E) → turns ≡ map place history → i < length turns → (i < length history) × (place (get_or history i d) ≡ get_or turns i 0)
  turn-is turns history place i d are lt =
      let within : i < length history = (let same = ap length are in let many = length-map history place in omega arith) in
      (within, sym (ap (λ ts. get_or ts i 0) are ∙ get_or-map place history i d 0 within))

module _ {E : Type 0} (turns : List ℕ) (lists left : List (List (Entry E))) (merged : List (Entry E)) (i turn : ℕ) (there : i < length turns) (is : turn ≡ get_or turns i 0) (within : turn < length left) (taken : IsTaken i turns lists left merged) where
  -- the next entry is taken
  pub one_taken : (e : Entry E) (rest : List (Entry E)) → get_or left turn [] ≡ e ∷ rest → IsTaken (i + 1) turns lists (set left turn rest) (merged ++ e ∷ [])
  one_taken e rest gave = λ history place are have.
      let before = taken history place are have in
      let at = turn-is turns history place i e are there in
      let h = get_or history i e in
      let mine : place h ≡ turn = at.1 ∙ sym is in
      let next = drop_more history i e at.0 in
      let same : e ∷ rest ≡ h ∷ dealt_to place turn (drop (i + 1) history) = sym gave ∙ next-dealt history place left i turn h within mine next before.1 in
      let first : e ≡ h = cc same in
      let later : rest ≡ dealt_to place turn (drop (i + 1) history) = cc same in (
        ap (λ es. es ++ e ∷ []) before.0 ∙ (ap (λ x. take i history ++ x ∷ []) first ∙ sym (take_more history i e at.0)),
        (λ k lt. elim (cases_eq k turn) [
          | inl here ↦ subst (λ n. get_or (set left turn rest) n [] ≡ dealt_to place n (drop (i + 1) history)) (sym here) (get_or-set_same left turn rest [] within ∙ later)
          | inr differ ↦ get_or-set_other left turn k rest [] differ ∙ others-dealt history place left i turn h mine next before.1 k (let long = length-set left turn rest in omega arith) differ
        ]),
      )

  nothing-dealt : (history : List (Entry E)) (place : Entry E → ℕ) → turns ≡ map place history → HaveDealt (drop i history) place left → get_or left turn [] ≡ [] → ⊥
  nothing-dealt [] place are have gave = let none : length turns ≡ 0 = ap length are in omega arith
  nothing-dealt (d ∷ later) place are have gave =
      let history = d ∷ later in
      let at = turn-is turns history place i d are there in
      let h = get_or history i d in
      let some : [] ≡ h ∷ dealt_to place turn (drop (i + 1) history) = sym gave ∙ next-dealt history place left i turn h within (at.1 ∙ sym is) (drop_more history i d at.0) have in
      cc some

  -- the list whose turn it is has an entry
  pub none_left : get_or left turn [] ≡ [] → (other : List (List (Entry E))) → IsTaken (i + 1) turns lists other merged
  none_left gave other = λ history place are have. absurd (nothing-dealt history place are (taken history place are have).1 gave)

-- the same of the fronts of the lists, of which each stands for what is left of its list
module _ {E X : Type 0} (f : X → List (Entry E)) (turns : List ℕ) (lists : List (List (Entry E))) (fronts : List X) (merged : List (Entry E)) (i : ℕ) (front after : X) (there : i < length turns) (within : get_or turns i 0 < length fronts)
    (is : front ≡ get_or fronts (get_or turns i 0) front) (taken : IsTaken i turns lists (map f fronts) merged) where
  left-there : get_or turns i 0 < length (map f fronts)
  left-there = let many = length-map fronts f in omega arith

  left-is : get_or (map f fronts) (get_or turns i 0) [] ≡ f front
  left-is = get_or-map f fronts (get_or turns i 0) front [] within ∙ ap f (sym is)

  pub front_taken : (e : Entry E) → f front ≡ e ∷ f after → IsTaken (i + 1) turns lists (map f (set fronts (get_or turns i 0) after)) (merged ++ e ∷ [])
  front_taken e gave = subst (λ ls. IsTaken (i + 1) turns lists ls (merged ++ e ∷ [])) (sym (map-set f fronts (get_or turns i 0) after))
      (one_taken turns lists (map f fronts) merged i (get_or turns i 0) there refl left-there taken e (f after) (left-is ∙ gave))

  pub front_empty : f front ≡ [] → (other : List (List (Entry E))) → IsTaken (i + 1) turns lists other merged
  front_empty gave other = none_left turns lists (map f fronts) merged i (get_or turns i 0) there refl left-there taken (left-is ∙ gave) other

-- an element of a list that has one
pub any_of : {X : Type 0} (xs : List X) (k : ℕ) → k < length xs → X
any_of [] k lt = absurd (omega arith)
any_of (x ∷ xs) k lt = x

module _ {E : Type 0} where
  -- For each entry that goes to one of the first lists it is noted which.
  abbrev pub AreNoted : List (Entry E) → (Entry E → ℕ) → ℕ → List ℕ → Type 0
  AreNoted history place n turns = All (λ e. place e < n → slice_index turns e.step ≡ place e) history

  -- Whatever history is dealt out, that is so of it.
  abbrev pub IsNoted : List (List (Entry E)) → ℕ → ℕ → List ℕ → Type 0
  IsNoted lists steps n turns = (history : List (Entry E)) (place : Entry E → ℕ) → IsDealt history place lists steps → AreNoted history place n turns

  pub none_noted : (lists : List (List (Entry E))) (steps : ℕ) (turns : List ℕ) → IsNoted lists steps 0 turns
  none_noted lists steps turns = λ history place dealt k d lt below. absurd (omega arith)

module _ {E : Type 0} (history : List (Entry E)) (place : Entry E → ℕ) (lists : List (List (Entry E))) (steps : ℕ) (dealt : IsDealt history place lists steps) where
  numbered-place : (e : Entry E) → Contains history e → (e.step < length history) × (get_or history e.step e ≡ e)
  numbered-place e c =
      let lt : c.0 < length history = c.1 in
      let here : e.step ≡ c.0 = ap (λ (x : Entry E). x.step) (sym c.2) ∙ dealt.numbered c.0 e lt in
      (omega arith, subst (λ k. get_or history k e ≡ e) (sym here) c.2)

  same-number : (a b : Entry E) → Contains history a → Contains history b → a.step ≡ b.step → a ≡ b
  same-number a b ca cb same =
      let at = numbered-place b cb in
      sym (numbered-place a ca).1 ∙ (ap (λ k. get_or history k a) same ∙ (get_or_default history b.step a b at.0 ∙ at.1))

  in-list : (at : ℕ) (list : List (Entry E)) → at < length lists → get_or lists at [] ≡ list → (e : Entry E) → Contains list e → Contains history e × (place e ≡ at)
  in-list at list lt is e c =
      let r = contains_filter (λ (x : Entry E). eqb (place x) at) history e (subst (λ l. Contains l e) (sym is ∙ dealt.have at lt) c) in
      (r.0, eqb-true (place e) at r.1)

  -- the numbers in each list are below the number of steps
  pub list-below : (at : ℕ) (list : List (Entry E)) → at < length lists → get_or lists at [] ≡ list → All (λ (e : Entry E). e.step < steps) list
  list-below at list lt is = all_from_contains (λ (e : Entry E). e.step < steps) list (λ e c. let low = (numbered-place e (in-list at list lt is e c).0).0 in let whole = dealt.whole in omega arith)

  -- one more list is noted
  pub list-noted : (turns after : List ℕ) (n : ℕ) (list : List (Entry E)) → n < length lists → get_or lists n [] ≡ list → All (λ (e : Entry E). slice_index after e.step ≡ n) list
      → ((k : ℕ) → All (λ (e : Entry E). e.step ≢ k) list → slice_index after k ≡ slice_index turns k) → AreNoted history place n turns → AreNoted history place (n + 1) after
  list-noted turns after n list lt is noted kept before =
      all_from_contains (λ (e : Entry E). place e < n + 1 → slice_index after e.step ≡ place e) history (λ e c below. elim (cases_eq (place e) n) [
        | inl same ↦
            All-contains (λ (x : Entry E). slice_index after x.step ≡ n) list e noted (subst (λ l. Contains l e) (sym (dealt.have n lt) ∙ is) (contains_in_filter (λ (x : Entry E). eqb (place x) n) history e c (eq-eqb (place e) n same)))
            ∙ sym same
        | inr differ ↦
            kept e.step (all_from_contains (λ (x : Entry E). x.step ≢ e.step) list (λ x cx same. let r = in-list n list lt is x cx in differ (ap place (sym (same-number x e r.0 c same)) ∙ r.1)))
            ∙ All-contains (λ (x : Entry E). place x < n → slice_index turns x.step ≡ place x) history e before c (omega arith)
      ])

  -- once all are noted
  pub all-noted : (turns : List ℕ) (n : ℕ) → n ≡ length lists → length turns ≡ steps → AreNoted history place n turns → turns ≡ map place history
  all-noted turns n all long noted =
      let whole = dealt.whole in
      let many = length-map history place in
      ext_get_or 0 turns (map place history) (omega arith) (λ k lt.
      let within : k < length history = omega arith in
      let d = any_of history k within in
      let h = get_or history k d in
      let low : place h < length lists = dealt.placed k d within in
      let number : h.step ≡ k = dealt.numbered k d within in
      ap (λ j. get_or turns j 0) (sym number) ∙ (noted k d within (omega arith) ∙ sym (get_or-map place history k d 0 within)))

  pub turns-within : All (λ turn. turn < length lists) (map place history)
  turns-within = All-map (λ turn. turn < length lists) place history dealt.placed

-- what is left of a list after one more of it
module _ {X : Type 0} (xs rest : List X) (n : ℕ) (x : X) (left : drop n xs ≡ x ∷ rest) where
  pub next_within : n < length xs
  next_within = let many = ap length left in let fewer = length-drop n xs in omega arith

  both : get_or xs n x ∷ drop (n + 1) xs ≡ x ∷ rest
  both = sym (drop_more xs n x next_within) ∙ left

  pub next_is : get_or xs n x ≡ x
  next_is = cc both

  pub next_left : drop (n + 1) xs ≡ rest
  next_left = cc both

module _ {E X Y : Type 0} (f : X → List (Entry E)) (h : Y → List (Entry E)) (lists rest : List X) (fronts : List Y) (steps n : ℕ) (list : X) (left : drop n lists ≡ list ∷ rest) where
  list-within : n < length (map f lists)
  list-within = let many = length-map lists f in let lt = next_within lists rest n list left in omega arith

  list-is : get_or (map f lists) n [] ≡ f list
  list-is = get_or-map f lists n list [] (next_within lists rest n list left) ∙ ap f (next_is lists rest n list left)

  pub next_below : AreDealt (map f lists) steps → (low : ℕ) (entries : List (Entry E)) → low ≡ steps → entries ≡ f list → All (λ (e : Entry E). e.step < low) entries
  next_below dealt low entries same is = subst (λ l. All (λ (e : Entry E). e.step < low) l) (sym is) (subst (λ m. All (λ (e : Entry E). e.step < m) (f list)) (sym same)
      (list-below dealt.0 dealt.1 (map f lists) steps dealt.2 n (f list) list-within list-is))

  module _ (m : ℕ) (more : m ≡ n + 1) where
    pub next_rest : drop m lists ≡ rest
    next_rest = ap (λ k. drop k lists) more ∙ next_left lists rest n list left

    pub next_fronts : map h fronts ≡ map f (take n lists) → (front : Y) (longer : List Y) → longer ≡ fronts ++ front ∷ [] → h front ≡ f list → map h longer ≡ map f (take m lists)
    next_fronts so_far front longer grown is =
        ap (map h) grown
        ∙ (map_push h fronts front
        ∙ (ap (λ ls. ls ++ h front ∷ []) so_far
        ∙ (ap (λ l. map f (take n lists) ++ l ∷ []) (is ∙ ap f (sym (next_is lists rest n list left)))
        ∙ (sym (map_more f lists n list (next_within lists rest n list left))
        ∙ ap (λ k. map f (take k lists)) (sym more)))))

    pub next_noted : (turns old after these : List ℕ) (at : ℕ) (entries : List (Entry E)) → old ≡ turns → these ≡ after → at ≡ n → entries ≡ f list → All (λ (e : Entry E). slice_index after e.step ≡ at) entries
        → ((k : ℕ) → All (λ (e : Entry E). e.step ≢ k) entries → slice_index after k ≡ slice_index old k) → IsNoted (map f lists) steps n turns → IsNoted (map f lists) steps m these
    next_noted turns old after these at entries before-are after-are here is noted kept before = subst (λ ts. IsNoted (map f lists) steps m ts) (sym after-are) (subst (λ k. IsNoted (map f lists) steps k after) (sym more) (λ history place dealt.
        list-noted history place (map f lists) steps dealt turns after n entries list-within (list-is ∙ sym is) (subst (λ k. All (λ (e : Entry E). slice_index after e.step ≡ k) entries) here noted)
        (λ k none. kept k none ∙ ap (λ ts. slice_index ts k) before-are) (before history place dealt)))

module _ {E X Y : Type 0} (f : X → List (Entry E)) (h : Y → List (Entry E)) (lists : List X) (fronts : List Y) (steps n : ℕ) (turns : List ℕ) (many : n ≡ length fronts) (so_far : map h fronts ≡ map f (take n lists)) (left : drop n lists ≡ []) (long : length turns ≡ steps)
    (noted : IsNoted (map f lists) steps n turns) where
  no-more : length lists ≤ n
  no-more = let none : length (drop n lists) ≡ 0 = ap length left in let fewer = length-drop n lists in omega arith

  pub all_fronts : map h fronts ≡ map f lists
  all_fronts = so_far ∙ ap (map f) (take_all n lists no-more)

  lists-many : n ≡ length (map f lists)
  lists-many = many ∙ (sym (length-map fronts h) ∙ ap length all_fronts)

  pub turns_are : (history : List (Entry E)) (place : Entry E → ℕ) → IsDealt history place (map f lists) steps → turns ≡ map place history
  turns_are history place dealt = all-noted history place (map f lists) steps dealt turns n lists-many long (noted history place dealt)

  pub turns_within : AreDealt (map f lists) steps → (these : List ℕ) → these ≡ turns → All (λ turn. turn < n) these
  turns_within dealt these are = subst (λ ts. All (λ turn. turn < n) ts) (sym (are ∙ turns_are dealt.0 dealt.1 dealt.2))
      (subst (λ m. All (λ turn. turn < m) (map dealt.1 dealt.0)) (sym lists-many) (turns-within dealt.0 dealt.1 (map f lists) steps dealt.2))

  pub dealt_back : (these : List ℕ) → these ≡ turns → (entries : List (Entry E)) → AreInTurns entries these (map h fronts) → IsDealtBack entries (map f lists) steps
  dealt_back these are entries in_turns = λ history place dealt.
      in_turns history place (are ∙ turns_are history place dealt) (subst (λ ls. HaveDealt history place ls) (sym all_fronts) dealt.have)
