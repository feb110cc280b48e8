-- How the moves of clients make the order of the history.
use Rattle.std.proofs.Common.{◌≡◌, ℕ, ◌+◌, ◌≤◌, ◌<◌, ◌⊎◌, inl, inr, Bool, true, false, cond, List, [], ◌∷◌, ◌++◌, Contains, All, filter, refl, sym, ap, subst, ◌∙◌, arith}
use Rattle.std.proofs.lemmas.Bool.{false≢true}
use Rattle.std.proofs.lemmas.List.Elements.{All-contains, Contains-append_cases}
use Rattle.pc_base.specs.declared.actor.ActorId.TheVariants.{Session}
use Rattle.pc_base.specs.declared.entry.Entry.{Entry}
use Rattle.pc_history.proofs.Ids.{same_id-true}
use Rattle.pc_history.specs.declared.pair.Pair.{Pair}
use Rattle.pc_history.specs.declared.view.Part.{Part}
use Rattle.pc_history.specs.Own.{own, pairs_of, same_id}
use Rattle.pc_lists.proofs.Lists.{all_from_contains, contains_cons, contains_head, contains_nil, contains_tail}
use Rattle.pc_proto.specs.declared.event.Event.{Event}
use Rattle.pc_world.specs.Local.{Head}
use Rattle.pc_world.specs.Run.{protocol}
use Rattle.pc_turns.proofs.Order.{beginnings_come_first, clients_keep_order}
use Rattle.pc_turns.proofs.Rising.{rises_across}
use Rattle.pc_turns.specs.Clients.{IsAfterAll, RisesFrom, client_pairs, is_client}
use Rattle.pc_turns.specs.Laws.{AreAboveKnown, HasGoneAlone, HasMark, MarksKeepOrder, MarksPutAfter, ThreadsGoOn, TurnsAreKept}
use Rattle.pc_turns.specs.Order.{GoInTurns, GoesByItself, entries_by, is_at_end}

rises_raise : (n m : ℕ) (ys : List (Pair Event)) → RisesFrom m ys → ((y : Pair Event) → Contains ys y → n ≤ y.entry.step) → RisesFrom n ys
rises_raise n m [] r least = tt
rises_raise n m (y ∷ ys) r least = (least y (contains_head y ys), r.1)

rises_join : (n m : ℕ) (xs ys : List (Pair Event)) → RisesFrom n xs → RisesFrom m ys → ((y : Pair Event) → Contains ys y → n ≤ y.entry.step)
    → ((x y : Pair Event) → Contains xs x → Contains ys y → x.entry.step < y.entry.step) → RisesFrom n (xs ++ ys)
rises_join n m [] ys rx ry least across = rises_raise n m ys ry least
rises_join n m (x ∷ xs) ys rx ry least across = (
  rx.0,
  rises_join (x.entry.step + 1) m xs ys rx.1 ry
      (λ y c. let l : x.entry.step < y.entry.step = across x y (contains_head x xs) c in omega arith)
      (λ a y ca cy. across a y (contains_tail x xs a ca) cy),
)

-- a list has a last element, or none
record HasLast (xs : List (Pair Event)) : Type 0 where
  front : List (Pair Event)
  last : Pair Event
  whole : xs ≡ front ++ last ∷ []

last_of : (xs : List (Pair Event)) → (xs ≡ []) ⊎ HasLast xs
last_of [] = inl refl
last_of (x ∷ xs) = elim (last_of xs) [
  | inl none ↦ inr (record { front = []; last = x; whole = ap (λ ys. x ∷ ys) none })
  | inr some ↦ inr (record { front = x ∷ some.front; last = some.last; whole = ap (λ ys. x ∷ ys) some.whole })
]

module _ (order part : List (Pair Event)) (known : List (Entry Event)) (rises : RisesFrom 0 order)
    (mark : HasMark order known) (above : AreAboveKnown known part) where
  after_mark : (x y : Pair Event) → Contains order x → Contains part y → x.entry.step < y.entry.step
  after_mark x y cx cy =
      elim (last_of order) [
        | inl none ↦ absurd (contains_nil x (subst (λ ps. Contains ps x) none cx))
        | inr some ↦
            (let told : some.last.entry.step < y.entry.step = All-contains (λ (e : Entry Event). e.step < y.entry.step) known some.last.entry (All-contains (λ (p : Pair Event). All (λ (e : Entry Event). e.step < p.entry.step) known) part y above cy) (mark some.front some.last some.whole) in
            elim (Contains-append_cases some.front (some.last ∷ []) x (subst (λ ps. Contains ps x) some.whole cx)) [
              | inl before ↦
                  (let low : x.entry.step < some.last.entry.step = rises_across 0 some.front (some.last ∷ []) x some.last (subst (RisesFrom 0) some.whole rises) before (contains_head some.last []) in omega arith)
              | inr here ↦ elim (contains_cons some.last [] x here) [
                | inl same ↦ subst (λ (p : Pair Event). p.entry.step < y.entry.step) same told
                | inr none ↦ absurd (contains_nil x none)
              ]
            ])
      ]

pub marks_put_after : MarksPutAfter
marks_put_after order part known rises mark above =
    all_from_contains (IsAfterAll order) part (λ y cy. all_from_contains (λ (q : Pair Event). q.entry.step < y.entry.step) order (λ x cx. after_mark order part known rises mark above x y cx cy))

pub marks_keep_order : MarksKeepOrder
marks_keep_order order part known rises more mark above = rises_join 0 0 order part rises more (λ y c. omega arith) (after_mark order part known rises mark above)

pub turns_are_kept : TurnsAreKept
turns_are_kept head history parts order next ended recoverer_ended rounds opened stated stored makes goes =
    subst (GoInTurns next ended recoverer_ended rounds opened stated head.sessions head.recoverers) (sym (clients_keep_order head history parts order stored makes)) goes

-- choosing from what was chosen already
module _ (p q : Pair Event → Bool) (within : (x : Pair Event) → p x ≡ true → q x ≡ true) where
  chosen_again : (xs : List (Pair Event)) → filter p (filter q xs) ≡ filter p xs
  chosen_again [] = refl
  chosen_again (x ∷ xs) =
      let rest = chosen_again xs in
      let by : (b c : Bool) → (b ≡ true → c ≡ true) → p x ≡ b → filter p (cond c (x ∷ filter q xs) (filter q xs)) ≡ cond b (x ∷ filter p xs) (filter p xs) = choose x xs rest in
      by (p x) (q x) (within x) refl
    where
      choose : (x : Pair Event) (xs : List (Pair Event)) → filter p (filter q xs) ≡ filter p xs → (b c : Bool) → (b ≡ true → c ≡ true) → p x ≡ b
          → filter p (cond c (x ∷ filter q xs) (filter q xs)) ≡ cond b (x ∷ filter p xs) (filter p xs)
      choose x xs rest true true w is = ap (λ t. cond t (x ∷ filter p (filter q xs)) (filter p (filter q xs))) is ∙ ap (λ ys. x ∷ ys) rest
      choose x xs rest true false w is = absurd (false≢true (w refl))
      choose x xs rest false true w is = ap (λ t. cond t (x ∷ filter p (filter q xs)) (filter p (filter q xs))) is ∙ rest
      choose x xs rest false false w is = rest

-- a session's own entries, chosen from the clients'
own_share : (head : Head) (history : List (Entry Event)) (number : ℕ) → entries_by number (client_pairs head history) ≡ own (protocol head) (Session number) history
own_share head history number =
    chosen_again (λ (p : Pair Event). same_id (Session number) p.entry.actor) (λ (p : Pair Event). is_client p.entry.actor)
    (λ p is. ap is_client (sym (same_id-true (Session number) p.entry.actor is))) (pairs_of (protocol head) history)

pub threads_go_on : ThreadsGoOn
threads_go_on head history parts opening next ended opened stored begins opens each =
    let front = beginnings_come_first head history parts opening stored begins in record {
      opening = opening;
      rest = front.0;
      whole = front.1;
      opens = opens;
      each = λ number from to. (
          let gone : HasGoneAlone next ended parts number = each number from to in
          let list : own (protocol head) gone.0.id history ≡ gone.0.own = All-contains (λ (part : Part Event). own (protocol head) part.id history ≡ part.own) parts gone.0 stored.lists gone.1 in
          let mine : entries_by number (client_pairs head history) ≡ gone.0.own = own_share head history number ∙ (ap (λ id. own (protocol head) id history) (sym gone.2) ∙ list) in
          subst (λ ps. GoesByItself next ended number (is_at_end next number) [] ps) (sym mine) gone.3);
    }
