-- Lists, and what is sent under a number.
use Rattle.std.proofs.Common.{◌≡◌, ℕ, ◌+◌, ◌<◌, ◌==◌, ◌||◌, Bool, true, false, cond, inl, inr, List, [], ◌∷◌, ◌++◌, find, Some, None, refl, sym, ap, ◌∙◌, subst, arith, All, Any, Contains}
use Rattle.std.proofs.lemmas.Bool.{eq-eqb, eqb-true, ne_eqb}
use Rattle.std.proofs.lemmas.List.{append_assoc, append-nil}
use Rattle.std.proofs.lemmas.List.Elements.{All-head, All-tail}
use Rattle.std.proofs.lemmas.Option.{same_Some}
use Rattle.std.specs.List.{list_any}
use Rattle.std.specs.Option.{option_map}
use Rattle.pc_desk.specs.Keeping.{EachAfter}
use Rattle.pc_history.specs.declared.pair.Pair.{Pair}
use Rattle.pc_lists.proofs.Lists.{contains_cons, contains_head, contains_nil, contains_tail}
use Rattle.pc_proto.specs.declared.event.Event.{Event}
use Rattle.pc_proto.specs.declared.request.Request.{Request}
use Rattle.pc_world.specs.Known.Traffic.{Sent, request_sent}

module _ (P : List (Pair Event) → Pair Event → Type 0) where
  -- what is so of each later entry is so of those behind some
  pub each_behind : (before front rest : List (Pair Event)) → EachAfter P before (front ++ rest) → EachAfter P (before ++ front) rest
  each_behind before [] rest each = subst (λ l. EachAfter P l rest) (sym (append-nil before)) each
  each_behind before (x ∷ front) rest each = subst (λ l. EachAfter P l rest) (append_assoc before (x ∷ []) front) (each_behind (before ++ x ∷ []) front rest each.1)

  -- and of those before others
  pub each_front : (before front rest : List (Pair Event)) → EachAfter P before (front ++ rest) → EachAfter P before front
  each_front before [] rest each = tt
  each_front before (x ∷ front) rest each = (each.0, each_front (before ++ x ∷ []) front rest each.1)

module _ {X : Type 0} (P : X → Type 0) where
  -- an element that is so
  pub some_so : (xs : List X) → Any P xs → (x : X) × Contains xs x × P x
  some_so xs some = (some.1, (some.0, some.2, some.3), some.4)

  pub so_there : (xs : List X) (x : X) → Contains xs x → P x → Any P xs
  so_there xs x there so = (there.0, x, there.1, there.2, so)

-- a list that is not empty has an element
pub first_there : {X : Type 0} (xs : List X) → (xs ≡ [] → ⊥) → (x : X) × Contains xs x
first_there [] some = absurd (some refl)
first_there (x ∷ xs) some = (x, contains_head x xs)

-- what was said under a number was sent
pub said_there : (n : ℕ) (xs : List Sent) (r : Request) → request_sent n xs ≡ Some r → (m : Sent) × Contains xs m × (m.number ≡ n) × (m.request ≡ r)
said_there n [] r e = absurd cc
said_there n (x ∷ xs) r e = by (x.number == n) refl e (λ e. said_there n xs r e)
  where
    by : (b : Bool) → (x.number == n) ≡ b → option_map (λ (s : Sent). s.request) (cond b (Some x) (find (λ s. s.number == n) xs)) ≡ Some r → (request_sent n xs ≡ Some r → (m : Sent) × Contains xs m × (m.number ≡ n) × (m.request ≡ r))
        → (m : Sent) × Contains (x ∷ xs) m × (m.number ≡ n) × (m.request ≡ r)
    by true is e more = (x, contains_head x xs, eqb-true x.number n is, same_Some x.request r e)
    by false is e more = let f = more e in (f.0, contains_tail x xs f.0 f.1, f.2, f.3)

-- a message under a number above those of all others is found by it
pub said_last : (xs : List Sent) (m : Sent) → All (λ x. x.number < m.number) xs → request_sent m.number (xs ++ m ∷ []) ≡ Some m.request
said_last [] m low = ap (λ b. option_map (λ (s : Sent). s.request) (cond b (Some m) None)) (eq-eqb m.number m.number refl)
said_last (x ∷ xs) m low =
    let less = All-head (λ (x : Sent). x.number < m.number) x xs low in
    ap (λ b. option_map (λ (s : Sent). s.request) (cond b (Some x) (find (λ s. s.number == m.number) (xs ++ m ∷ [])))) (ne_eqb x.number m.number (λ same. absurd (omega (arith, less, same))))
    ∙ said_last xs m (All-tail (λ (x : Sent). x.number < m.number) x xs low)

-- a test that holds of an element holds of some
pub listed_true : {X : Type 0} (test : X → Bool) (xs : List X) (x : X) → Contains xs x → test x ≡ true → list_any test xs ≡ true
listed_true test [] x there is = absurd (contains_nil x there)
listed_true test (y ∷ xs) x there is =
    elim (contains_cons y xs x there) [ inl same ↦ ap (λ b. b || list_any test xs) (ap test same ∙ is) | inr more ↦ by (test y) (listed_true test xs x more is) ]
  where
    by : (b : Bool) → list_any test xs ≡ true → (b || list_any test xs) ≡ true
    by true e = refl
    by false e = e
