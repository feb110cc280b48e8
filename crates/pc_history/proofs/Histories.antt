-- Laws of histories: one more entry, of this actor or of another, a beginning of a fine history, and what stands at a place.
use Rattle.std.proofs.Common.{◌≡◌, ◌≢◌, ℕ, zero, suc, ◌+◌, ◌<◌, ◌≤◌, Bool, true, false, cond, inl, inr, List, [], ◌∷◌, ◌++◌, length, refl, ap, sym, ◌∙◌, subst, arith, append_assoc, length-append, filter, Contains, Some, None, slice_get}
use Rattle.std.proofs.lemmas.List.{append-nil, map-append}
use Rattle.std.proofs.lemmas.List.Elements.{filter-append, All-push}
use Rattle.pc_base.specs.declared.ActorId.{ActorId}
use Rattle.pc_base.specs.declared.Entry.{Entry}
use Rattle.pc_history.specs.declared.pair.Pair.{Pair}
use Rattle.pc_history.specs.declared.view.Known.{Known}
use Rattle.pc_history.specs.Sense.{Sense}
use Rattle.pc_history.specs.Own.{same_id, pair, entries_of, named_in, pairs_after, pairs_of, own}
use Rattle.pc_history.specs.History.{MayFollow, IsFineAfter, IsFine, AllKept}
use Rattle.pc_history.specs.World.{IsWorld, NamesAtMostOne, HasAll}
use Rattle.pc_history.specs.Closed.{Stands}
use Rattle.pc_history.proofs.Ids.{same_id-true, same_id-equal, same_id-differ}
use Rattle.pc_lists.proofs.Lists.{contains_cons, contains_filter, contains_get, contains_in_filter, contains_in_map, contains_map, contains_nil, find_none, find_some, get_append, get_contains}

module _ {E : Type 0} (S : Sense E) where
  pub pairs_after-append : (before xs ys : List (Entry E)) → pairs_after S before (xs ++ ys) ≡ pairs_after S before xs ++ pairs_after S (before ++ xs) ys
  pairs_after-append before [] ys = ap (λ b. pairs_after S b ys) (sym (append-nil before))
  pairs_after-append before (x ∷ xs) ys =
      ap (λ ps. pair x (named_in S before x.event) ∷ ps)
      (pairs_after-append (before ++ x ∷ []) xs ys
      ∙ ap (λ b. pairs_after S (before ++ x ∷ []) xs ++ pairs_after S b ys) (append_assoc before (x ∷ []) xs))

  -- a history that is one entry longer
  pub pairs_of-push : (history : List (Entry E)) (e : Entry E) → pairs_of S (history ++ e ∷ []) ≡ pairs_of S history ++ pair e (named_in S history e.event) ∷ []
  pairs_of-push history e = pairs_after-append [] history (e ∷ [])

  -- one more entry of this actor
  pub own-push_same : (id : ActorId) (history : List (Entry E)) (e : Entry E) → e.actor ≡ id → own S id (history ++ e ∷ []) ≡ own S id history ++ pair e (named_in S history e.event) ∷ []
  own-push_same id history e h =
      let p = pair e (named_in S history e.event) in
      let yes : same_id id e.actor ≡ true = same_id-equal id e.actor (sym h) in
      ap (λ ps. filter (λ q. same_id id q.entry.actor) ps) (pairs_of-push history e)
      ∙ (filter-append (λ q. same_id id q.entry.actor) (pairs_of S history) (p ∷ [])
      ∙ ap (λ b. own S id history ++ cond b (p ∷ []) []) yes)

  -- one more entry of another actor
  pub own-push_other : (id : ActorId) (history : List (Entry E)) (e : Entry E) → e.actor ≢ id → own S id (history ++ e ∷ []) ≡ own S id history
  own-push_other id history e h =
      let p = pair e (named_in S history e.event) in
      let no' : same_id id e.actor ≡ false = same_id-differ id e.actor (λ s. h (sym s)) in
      ap (λ ps. filter (λ q. same_id id q.entry.actor) ps) (pairs_of-push history e)
      ∙ (filter-append (λ q. same_id id q.entry.actor) (pairs_of S history) (p ∷ [])
      ∙ (ap (λ b. own S id history ++ cond b (p ∷ []) []) no' ∙ append-nil (own S id history)))

  pub fine_after-join : (before xs ys : List (Entry E)) → IsFineAfter S before xs → IsFineAfter S (before ++ xs) ys → IsFineAfter S before (xs ++ ys)
  fine_after-join before [] ys a b = subst (λ z. IsFineAfter S z ys) (append-nil before) b
  fine_after-join before (x ∷ xs) ys a b = (a.0, fine_after-join (before ++ x ∷ []) xs ys a.1 (subst (λ z. IsFineAfter S z ys) (sym (append_assoc before (x ∷ []) xs)) b))

  pub fine_after-front : (before xs ys : List (Entry E)) → IsFineAfter S before (xs ++ ys) → IsFineAfter S before xs
  fine_after-front before [] ys a = tt
  fine_after-front before (x ∷ xs) ys a = (a.0, fine_after-front (before ++ x ∷ []) xs ys a.1)

  pub fine_after-back : (before xs ys : List (Entry E)) → IsFineAfter S before (xs ++ ys) → IsFineAfter S (before ++ xs) ys
  fine_after-back before [] ys a = subst (λ z. IsFineAfter S z ys) (sym (append-nil before)) a
  fine_after-back before (x ∷ xs) ys a = subst (λ z. IsFineAfter S z ys) (append_assoc before (x ∷ []) xs) (fine_after-back (before ++ x ∷ []) xs ys a.1)

  -- an entry that may follow a fine history makes a fine one
  pub fine-push : (history : List (Entry E)) (e : Entry E) → IsFine S history → MayFollow S history e → IsFine S (history ++ e ∷ [])
  fine-push history e fine may = fine_after-join [] history (e ∷ []) fine (may, tt)

  -- a beginning of a fine history is fine
  pub fine-front : (front back : List (Entry E)) → IsFine S (front ++ back) → IsFine S front
  fine-front front back fine = fine_after-front [] front back fine

  -- in a fine history each entry may follow those before it
  pub fine-may : (front : List (Entry E)) (e : Entry E) (back : List (Entry E)) → IsFine S (front ++ e ∷ back) → MayFollow S front e
  fine-may front e back fine = (fine_after-back [] front (e ∷ back) fine).0

  step_at : (before entries : List (Entry E)) (place : ℕ) (e : Entry E) → IsFineAfter S before entries → slice_get entries place ≡ Some e → e.step ≡ length before + place
  step_at before [] place e fine at = absurd cc
  step_at before (x ∷ xs) zero e fine at = let same : x ≡ e = cc at in omega (arith, fine.0.step, ap (λ (z : Entry E). z.step) same)
  step_at before (x ∷ xs) (suc place) e fine at = omega (arith, step_at (before ++ x ∷ []) xs place e fine.1 at, length-append before (x ∷ []))

  -- in a fine history the entry at a place has that step
  pub fine-step : (history : List (Entry E)) (place : ℕ) (e : Entry E) → IsFine S history → slice_get history place ≡ Some e → e.step ≡ place
  fine-step history place e fine at = omega (arith, step_at [] history place e fine at)

  pairs_after-entries : (before xs : List (Entry E)) → entries_of (pairs_after S before xs) ≡ xs
  pairs_after-entries before [] = refl
  pairs_after-entries before (x ∷ xs) = ap (λ ys. x ∷ ys) (pairs_after-entries (before ++ x ∷ []) xs)

  -- the pairs of a history have its entries
  pub pairs_of-entries : (history : List (Entry E)) → entries_of (pairs_of S history) ≡ history
  pairs_of-entries history = pairs_after-entries [] history

  -- an actor's own entry stands in the history
  pub own-contains : (id : ActorId) (history : List (Entry E)) (p : Pair E) → Contains (own S id history) p → Contains history p.entry × (p.entry.actor ≡ id)
  own-contains id history p c =
      let r = contains_filter (λ q. same_id id q.entry.actor) (pairs_of S history) p c in (
        subst (λ z. Contains z p.entry) (pairs_of-entries history) (contains_map (λ (q : Pair E). q.entry) (pairs_of S history) p r.0),
        sym (same_id-true id p.entry.actor r.1),
      )

  -- each entry of the history is one of its actor's own
  pub contains-own : (history : List (Entry E)) (e : Entry E) → Contains history e → (p : Pair E) × Contains (own S e.actor history) p × (p.entry ≡ e)
  contains-own history e c =
      let r = contains_in_map (λ (q : Pair E). q.entry) (pairs_of S history) e (subst (λ z. Contains z e) (sym (pairs_of-entries history)) c) in
      (r.0, contains_in_filter (λ q. same_id e.actor q.entry.actor) (pairs_of S history) r.0 r.1 (same_id-equal e.actor r.0.entry.actor (ap (λ (z : Entry E). z.actor) (sym r.2))), r.2)

  -- a longer history has the own entries of the shorter one first
  pub own-push : (id : ActorId) (history : List (Entry E)) (e : Entry E) → (more : List (Pair E)) × (own S id (history ++ e ∷ []) ≡ own S id history ++ more)
  own-push id history e =
      let p = pair e (named_in S history e.event) in (
        filter (λ q. same_id id q.entry.actor) (p ∷ []),
        ap (λ ps. filter (λ q. same_id id q.entry.actor) ps) (pairs_of-push history e)
            ∙ filter-append (λ q. same_id id q.entry.actor) (pairs_of S history) (p ∷ []),
      )

  -- in a fine history each entry stands at the place of its step
  pub fine-place : (history : List (Entry E)) (e : Entry E) → IsFine S history → Contains history e → slice_get history e.step ≡ Some e
  fine-place history e fine c =
      let r = contains_get history e c in
      subst (λ i. slice_get history i ≡ Some e) (sym (fine-step history r.0 e fine r.1)) r.1

  pub fine-below : (history : List (Entry E)) (e : Entry E) → IsFine S history → Contains history e → e.step < length history
  fine-below history e fine c =
      let lt : c.0 < length history = c.1 in
      let r = contains_get history e c in
      let at : e.step ≡ r.0 = fine-step history r.0 e fine r.1 in
      omega (arith, get_within history r.0 e r.1)
    where
      get_within : (xs : List (Entry E)) (i : ℕ) (a : Entry E) → slice_get xs i ≡ Some a → i < length xs
      get_within [] i a h = absurd cc
      get_within (x ∷ xs) zero a h = omega arith
      get_within (x ∷ xs) (suc i) a h = omega (arith, get_within xs i a h)

  -- in a fine history one number is one entry
  pub fine-one : (history : List (Entry E)) (a b : Entry E) → IsFine S history → Contains history a → Contains history b → a.step ≡ b.step → a ≡ b
  fine-one history a b fine ca cb same =
      let left : slice_get history a.step ≡ Some a = fine-place history a fine ca in
      let right : slice_get history b.step ≡ Some b = fine-place history b fine cb in
      let both : Some a ≡ Some b = sym left ∙ (ap (λ i. slice_get history i) same ∙ right) in
      cc both

  kept_after : IsWorld S → (before xs : List (Entry E)) → IsFine S before → AllKept S before → IsFineAfter S before xs → AllKept S (before ++ xs)
  kept_after laws before [] fine kept after = subst (λ z. AllKept S z) (sym (append-nil before)) kept
  kept_after laws before (x ∷ xs) fine kept after =
      let may = after.0 in
      let here : S.kept x.step x.event = subst (λ n. S.kept n x.event) (sym may.step) (laws.keeps before x.event x.actor fine kept may.local may.caused) in
      let longer : AllKept S (before ++ x ∷ []) = All-push (λ e. S.kept e.step e.event) before x kept here in
      subst (λ z. AllKept S z) (append_assoc before (x ∷ []) xs) (kept_after laws (before ++ x ∷ []) xs (fine-push before x fine may) longer after.1)

  -- each entry of a fine history is kept
  pub fine-kept : IsWorld S → (history : List (Entry E)) → IsFine S history → AllKept S history
  fine-kept laws history fine = kept_after laws [] history tt (λ k d lt. absurd (omega arith)) fine

  -- an event that these entries cause names the same entry among them as in every fine history that has them all
  pub named-same : IsWorld S → (entries history : List (Entry E)) (event : E) (id : ActorId) → IsFine S history → HasAll entries history → S.caused entries event id → named_in S entries event ≡ named_in S history event
  named-same laws entries history event id fine has caused =
      elim (laws.names entries event id caused) [
        | inl nothing ↦ find_none (λ e. S.names event e) entries nothing ∙ sym (find_none (λ e. S.names event e) history nothing)
        | inr r ↦
            let a = find_some (λ e. S.names event e) entries r.0 r.1 r.2 in
            let b = find_some (λ e. S.names event e) history r.0 (has r.0 r.1) r.2 in
            let same : a.0 ≡ b.0 = laws.names_one history event fine a.0 b.0 (has a.0 a.2) b.2 a.3 b.3 in
            a.1 ∙ (ap Some same ∙ sym b.1)
      ]

  -- where an event names at most one of these entries, and names this one, this one is found
  pub named-one : (entries : List (Entry E)) (event : E) (e : Entry E) → NamesAtMostOne S entries event → Contains entries e → S.names event e ≡ true → named_in S entries event ≡ Some e
  named-one entries event e one has names =
      let a = find_some (λ x. S.names event x) entries e has names in
      a.1 ∙ ap Some (one a.0 e a.2 has a.3 names)

  -- where an event names none of these entries, none is found
  pub named-none : (entries : List (Entry E)) (event : E) → ((e : Entry E) → S.names event e ≡ false) → named_in S entries event ≡ None
  named-none entries event none' = find_none (λ x. S.names event x) entries none'

  -- what stands in a history stands in a longer one
  pub stands-push : (history : List (Entry E)) (e : Entry E) (k : Known E) → Stands S history k → Stands S (history ++ e ∷ []) k
  stands-push history e k stands =
      let longer = own-push k.entry.actor history e in
      let same : entries_of (own S k.entry.actor (history ++ e ∷ [])) ≡ entries_of (own S k.entry.actor history) ++ entries_of longer.0 =
      ap entries_of longer.1 ∙ map-append (λ (p : Pair E). p.entry) (own S k.entry.actor history) longer.0 in
      subst (λ es. slice_get es k.place ≡ Some k.entry) (sym same) (get_append (entries_of (own S k.entry.actor history)) (entries_of longer.0) k.place k.entry stands)

  pub stands-contains : (history : List (Entry E)) (k : Known E) → Stands S history k → Contains history k.entry
  stands-contains history k stands =
      let c : Contains (entries_of (own S k.entry.actor history)) k.entry = get_contains (entries_of (own S k.entry.actor history)) k.place k.entry stands in
      let r = contains_in_map (λ (p : Pair E). p.entry) (own S k.entry.actor history) k.entry c in
      subst (λ z. Contains history z) r.2 (own-contains k.entry.actor history r.0 r.1).0

-- the steps of these pairs rise, from n on
abbrev pub Rises : {E : Type 0} → ℕ → List (Pair E) → Type 0
Rises n [] = Unit {0}
Rises n (p ∷ ps) = (n ≤ p.entry.step) × Rises (p.entry.step + 1) ps

pub rises-weaker : {E : Type 0} (m n : ℕ) (ps : List (Pair E)) → m ≤ n → Rises n ps → Rises m ps
rises-weaker m n [] le r = tt
rises-weaker m n (p ∷ ps) le r = let first : n ≤ p.entry.step = r.0 in (omega arith, r.1)

pub rises-least : {E : Type 0} (n : ℕ) (ps : List (Pair E)) (p : Pair E) → Rises n ps → Contains ps p → n ≤ p.entry.step
rises-least n [] p r c = absurd (contains_nil p c)
rises-least n (q ∷ ps) p r c =
    let first : n ≤ q.entry.step = r.0 in
    elim (contains_cons q ps p c) [
      | inl same ↦ subst (λ (z : Pair _). n ≤ z.entry.step) same first
      | inr later ↦ let rest : q.entry.step + 1 ≤ p.entry.step = rises-least (q.entry.step + 1) ps p r.1 later in omega arith
    ]

module _ {E : Type 0} (S : Sense E) where
  own_rises_after : (id : ActorId) (before xs : List (Entry E)) → IsFineAfter S before xs → Rises (length before) (filter (λ p. same_id id p.entry.actor) (pairs_after S before xs))
  own_rises_after id before [] fine = tt
  own_rises_after id before (x ∷ xs) fine =
      let rest = own_rises_after id (before ++ x ∷ []) xs fine.1 in
      let long : length (before ++ x ∷ []) ≡ length before + 1 = length-append before (x ∷ []) in
      let at : x.step ≡ length before = fine.0.step in
      let ps = filter (λ p. same_id id p.entry.actor) (pairs_after S (before ++ x ∷ []) xs) in
      let by : (b : Bool) → Rises (length before) (cond b (pair x (named_in S before x.event) ∷ ps) ps) = elim [
        | true ↦ (omega arith, rises-weaker (x.step + 1) (length (before ++ x ∷ [])) ps (omega arith) rest)
        | false ↦ rises-weaker (length before) (length (before ++ x ∷ [])) ps (omega arith) rest
      ] in by (same_id id x.actor)

  -- an actor's own entries have rising numbers
  pub own-rises : (id : ActorId) (history : List (Entry E)) → IsFine S history → Rises 0 (own S id history)
  own-rises id history fine = own_rises_after id [] history fine
