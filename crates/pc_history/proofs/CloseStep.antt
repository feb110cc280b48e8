-- The opener closes the history.
use Rattle.std.proofs.Common.{◌≡◌, ℕ, zero, suc, ◌+◌, ◌≤◌, ◌<◌, inl, inr, Bool, true, false, cond, eqb, List, [], ◌∷◌, length, get_or, filter, refl, ap, sym, ◌∙◌, subst, arith, Contains, Some, Option, slice_get, slice_index, slice_set, sum_by}
use Rattle.std.proofs.lemmas.Bool.{cases_eq, eq-eqb, ne_eqb}
use Rattle.std.proofs.lemmas.List.{get_or-map, get_or_default, length-map}
use Rattle.std.proofs.lemmas.List.Sums.{sum_by-cons}
use Rattle.std.proofs.lemmas.List.Elements.{All-contains, Contains-get_or, filter_agree}
use Rattle.std.proofs.lemmas.Option.{get_or_from_slice_get, slice_get-get_or}
use mathlib.Core.Option as found
use lib.ListN.{get_elem?}
use Rattle.atomic_table.specs.Table.{Allows, keeps}
use Rattle.pc_base.specs.declared.ActorId.{ActorId}
use Rattle.pc_base.specs.declared.Entry.{Entry}
use Rattle.pc_history.specs.declared.pair.Pair.{Pair}
use Rattle.pc_history.specs.declared.view.Role.TheVariants.{Opening}
use Rattle.pc_history.specs.declared.view.Part.{Part}
use Rattle.pc_history.specs.declared.view.View.{View}
use Rattle.pc_history.specs.Sense.{Sense}
use Rattle.pc_history.specs.Own.{same_id, pairs_of, entries_of}
use Rattle.pc_history.specs.World.{IsWorld}
use Rattle.pc_history.specs.Closed.{Stands, ids_of, IsClosedPart, IsHistoryOf, AllHandedIn}
use Rattle.pc_history.specs.Parts.{uses_of}
use Rattle.pc_history.specs.Table.{IsHandedIn, Rules, IsStepTable, count_of, uses_in, view_uses}
use Rattle.pc_history.specs.Steps.{TellsClose, Closes, spent}
use Rattle.pc_history.specs.Ties.{lists_in}
use Rattle.pc_history.specs.Dealt.{HaveDealt, IsDealt, AreDealt, IsDealtBack}
use Rattle.pc_history.proofs.Histories.{fine-kept, fine-step, pairs_of-entries}
use Rattle.pc_history.proofs.Ids.{same_id-refl, same_id-true, same_id-equal, same_id-differ}
use Rattle.pc_history.proofs.Counts.{count_step, count-some}
use Rattle.pc_history.proofs.Merging.{any_of}
use Rattle.pc_history.proofs.NoteStep.{get-map}
use Rattle.pc_history.proofs.LookStep.{loaded}
use Rattle.pc_history.proofs.Fitting.{fits-opener, word-is}
use Rattle.pc_lists.proofs.Lists.{all_from_contains, contains_cons, contains_nil, sum_set}

-- one of those that are summed is at most the sum
one_within : {A : Type 0} (f : A → ℕ) (xs : List A) (x : A) → Contains xs x → f x ≤ sum_by f xs
one_within f [] x c = absurd (contains_nil x c)
one_within f (y ∷ ys) x c =
    let all : sum_by f (y ∷ ys) ≡ f y + sum_by f ys = sum_by-cons f y ys in
    elim (contains_cons y ys x c) [
      | inl same ↦ let here : f y ≡ f x = ap f same in omega arith
      | inr later ↦ let rest : f x ≤ sum_by f ys = one_within f ys x later in omega arith
    ]

module _ {W E : Type 0} (S : Sense E) (world : Option W) (words : List ℕ) (views : List (View W E)) where
  -- what one view has is within what all have
  view-within : (seat : ℕ) (v : View W E) (n : ℕ) → get_elem? views seat ≡ found.some v → view_uses n v ≤ uses_in n views
  view-within seat v n at =
      let without : uses_in n (slice_set views seat spent) + view_uses n v ≡ uses_in n views + view_uses n (spent {W = W} {E = E}) = sum_set (view_uses n) views seat v spent at in
      let z : view_uses n (spent {W = W} {E = E}) ≡ 0 = omega arith in
      omega arith

  closed-part : (table : IsStepTable S world words views) (seat : ℕ) (v : View W E) (part : Part E) → get_elem? views seat ≡ found.some v → Contains v.parts part → IsHandedIn S world table.history table.books part → IsClosedPart S table.history part
  closed-part table seat v part at-seat there h = record {
    list = sym h.part_is.list;
    stand = all_from_contains (Stands S table.history) part.known h.part_is.stand;
    uses = (λ place p at.
        let given = get_or_from_slice_get part.given place (table.books.given_of p.entry.step) 0
        (subst (λ gs. slice_get gs place ≡ Some (table.books.given_of p.entry.step)) (sym h.part_is.gifts) (get-map (λ (q : Pair E). table.books.given_of q.entry.step) part.own place p at)) in
        let all = table.uses p.entry.step in
        let mine = one_within (λ (q : Part E). uses_of p.entry.step q.known) v.parts part there in
        let within = view-within seat v p.entry.step at-seat in
        omega arith);
  }

  -- what a look at the table tells the opener once all actors were handed in
  pub table-closed : IsWorld S → (table : IsStepTable S world words views) (seat : ℕ) (v : View W E) → get_elem? views seat ≡ found.some v → v.role ≡ Opening → AllHandedIn v.seated v.parts
      → TellsClose S v.parts (slice_index words 0)
  table-closed laws table seat v at opens handed =
      let opener = fits-opener S world table.history table.books seat v opens (table.fits seat v at) in (
        table.history,
        sym (word-is S world words views table),
        record {
          fine = table.fine;
          kept = fine-kept S laws table.history table.fine;
          parts_are = all_from_contains (IsClosedPart S table.history) v.parts (λ p c. closed-part table seat v p at c (opener.parts_are p c));
          only = all_from_contains (λ e. Contains (ids_of v.parts) e.actor) table.history
              (λ e c. All-contains (λ id. Contains (ids_of v.parts) id) v.seated e.actor handed (subst (λ ids. Contains ids e.actor) (sym opener.seated_are) (table.actors e c)));
        },
        opener.distinct,
      )

module _ {X W E : Type 0} (sense : W → Sense E) (w : W) where
  pub close_allows : IsWorld (sense w) → (slots seat : ℕ) (v : View W E) (held : List (ℕ × X)) → v.role ≡ Opening → v.world ≡ Some w → AllHandedIn v.seated v.parts
      → Allows (Rules sense w) slots seat (v, held) 0 (λ n. n) (Closes sense (v, held))
  close_allows laws slots seat v held opens world handed s table homes at small = (
    v,
    keeps,
    tt,
    loaded sense w s seat v at table,
    (
      refl,
      (λ w' world'.
          let same : w ≡ w' = (let both : Some w ≡ Some w' = sym world ∙ world' in cc both) in
          subst (λ z. TellsClose (sense z) v.parts (slice_index s.words 0)) same (table-closed (sense w) (Some w) s.words s.views laws table seat v at opens handed)),
    ),
  )

-- the place of an id among these
abbrev place_in : List ActorId → ActorId → ℕ
place_in [] a = 0
place_in (id ∷ ids) a = cond (same_id id a) 0 (suc (place_in ids a))

place-within : (ids : List ActorId) (a : ActorId) → Contains ids a → place_in ids a < length ids
place-within [] a c = absurd (contains_nil a c)
place-within (id ∷ ids) a c =
    let by : (b : Bool) → same_id id a ≡ b → cond b 0 (suc (place_in ids a)) < length (id ∷ ids) = elim [
      | true ↦ λ e. omega arith
      | false ↦ λ e. elim (contains_cons id ids a c) [
        | inl same ↦ absurd (let yes' : same_id id a ≡ true = same_id-equal id a same in cc (yes', e))
        | inr later ↦ let r : place_in ids a < length ids = place-within ids a later in omega arith
      ]
    ] in
    by (same_id id a) refl

eqb-next : (m n : ℕ) → eqb (suc m) (suc n) ≡ eqb m n
eqb-next m n = elim (cases_eq m n) [
  | inl same ↦ eq-eqb (suc m) (suc n) (ap suc same) ∙ sym (eq-eqb m n same)
  | inr differ ↦ ne_eqb (suc m) (suc n) (λ e. differ (omega arith)) ∙ sym (ne_eqb m n differ)
]

-- where no id stands twice, an id is the one at a place just where that is its place
place-test : (ids : List ActorId) (a : ActorId) (at : ℕ) (d : ActorId) → ((id : ActorId) → count_of id ids ≤ 1) → at < length ids → same_id (get_or ids at d) a ≡ eqb (place_in ids a) at
place-test [] a at d once lt = absurd (omega arith)
place-test (id ∷ ids) a zero d once lt =
    let by : (b : Bool) → b ≡ eqb (cond b 0 (suc (place_in ids a))) 0 = elim [
      | true ↦ refl
      | false ↦ sym (ne_eqb (suc (place_in ids a)) 0 (λ e. let no : ⊥ = omega arith in no))
    ] in
    by (same_id id a)
place-test (id ∷ ids) a (suc at) d once lt =
    let below : at < length ids = omega arith in
    let rest : same_id (get_or ids at d) a ≡ eqb (place_in ids a) at = place-test ids a at d (λ x. let few : count_of x (id ∷ ids) ≤ 1 = once x in let step = count_step x id ids in omega arith) below in
    let twice : get_or ids at d ≡ id → ⊥ = λ same.
    let some' : 1 ≤ count_of id ids = count-some id ids (subst (λ x. Contains ids x) same (Contains-get_or ids at d below)) in
    let few : count_of id (id ∷ ids) ≤ 1 = once id in
    let step : count_of id (id ∷ ids) ≡ 1 + count_of id ids = subst (λ b. count_of id (id ∷ ids) ≡ cond b 1 0 + count_of id ids) (same_id-refl id) (count_step id id ids) in
    let no : ⊥ = omega arith in no in
    let by : (b : Bool) → same_id id a ≡ b → same_id (get_or ids at d) a ≡ eqb (cond b 0 (suc (place_in ids a))) (suc at) = elim [
      | true ↦ λ e. same_id-differ (get_or ids at d) a (λ same. twice (same ∙ sym (same_id-true id a e))) ∙ sym (ne_eqb 0 (suc at) (λ z. let no : ⊥ = omega arith in no))
      | false ↦ λ e. rest ∙ sym (eqb-next (place_in ids a) at)
    ] in
    by (same_id id a) refl

kept-entries : {E : Type 0} (id : ActorId) (ps : List (Pair E)) → entries_of (filter (λ p. same_id id p.entry.actor) ps) ≡ filter (λ e. same_id id e.actor) (entries_of ps)
kept-entries id [] = refl
kept-entries id (p ∷ ps) =
    let kept = filter (λ q. same_id id q.entry.actor) ps in
    let entries = filter (λ e. same_id id e.actor) (entries_of ps) in
    let r : entries_of kept ≡ entries = kept-entries id ps in
    let by : (b : Bool) → entries_of (cond b (p ∷ kept) kept) ≡ cond b (p.entry ∷ entries) entries = elim [ true ↦ ap (λ es. p.entry ∷ es) r | false ↦ r ] in
    by (same_id id p.entry.actor)

module _ {E : Type 0} (S : Sense E) (parts : List (Part E)) (steps : ℕ) (lists : List (List (Entry E))) (tells : TellsClose S parts steps) (are : lists ≡ lists_in parts) where
  abbrev place_of : Entry E → ℕ
  place_of e = place_in (ids_of parts) e.actor

  lists-many : length lists ≡ length parts
  lists-many = ap length are ∙ length-map parts (λ (p : Part E). entries_of p.own)

  -- each list has what the history has of its actor
  have_dealt : HaveDealt tells.0 place_of lists
  have_dealt at lt =
      let history = tells.0 in
      let ids = ids_of parts in
      let within : at < length parts = let many = lists-many in omega arith in
      let below : at < length ids = let many = length-map parts (λ (p : Part E). p.id) in omega arith in
      let p = get_or parts at (any_of parts at within) in
      let mine : get_or ids at p.id ≡ p.id = get_or-map (λ (q : Part E). q.id) parts at p p.id within ∙ ap (λ (q : Part E). q.id) (get_or_default parts at p (any_of parts at within) within) in
      ap (λ ls. get_or ls at []) are
      ∙ (get_or-map (λ (q : Part E). entries_of q.own) parts at (any_of parts at within) [] within
      ∙ (ap entries_of (sym (tells.2.parts_are at (any_of parts at within) within).list)
      ∙ (kept-entries p.id (pairs_of S history)
      ∙ (ap (λ es. filter (λ e. same_id p.id e.actor) es) (pairs_of-entries S history)
      ∙ filter_agree (λ (e : Entry E). same_id p.id e.actor) (λ (e : Entry E). eqb (place_of e) at)
      (λ e. ap (λ id. same_id id e.actor) (sym mine) ∙ place-test ids e.actor at p.id tells.3 below) history))))

  -- the history is dealt out to the lists of the parts
  dealt : IsDealt tells.0 place_of lists steps
  dealt = record {
    whole = tells.1;
    numbered = (λ k d lt. fine-step S tells.0 k (get_or tells.0 k d) tells.2.fine (slice_get-get_or tells.0 k d lt));
    placed = (λ k d lt.
        let low = place-within (ids_of parts) (get_or tells.0 k d).actor (tells.2.only k d lt) in
        let many = length-map parts (λ (p : Part E). p.id) in
        let same = lists-many in
        omega arith);
    have = have_dealt;
  }

  pub closed-lists : AreDealt lists steps
  closed-lists = (tells.0, place_of, dealt)

  -- what is dealt back of them is the history
  pub closed-history : (entries : List (Entry E)) → IsDealtBack entries lists steps → IsHistoryOf S entries parts
  closed-history entries back = subst (λ es. IsHistoryOf S es parts) (sym (back tells.0 place_of dealt)) tells.2
