-- Messages that are numbered one by one stand at the places of their numbers.
use Rattle.std.proofs.Common.{◌≡◌, ◌↔◌, ℕ, zero, suc, ◌+◌, ◌≤◌, ◌==◌, ◌||◌, ◌++◌, All, slice_set, Bool, true, false, cond, not, List, [], ◌∷◌, Option, None, Some, find, slice_get, length, refl, ap, sym, ◌∙◌, arith, is_some}
use Rattle.std.proofs.lemmas.Bool.{eq-eqb, ne_eqb, not-true}
use Rattle.std.proofs.lemmas.List.Elements.{All-weaker}
use Rattle.std.proofs.lemmas.List.Folds.{list_any-append, list_any_none}
use Rattle.std.specs.List.{list_any}
use Rattle.std.specs.Option.{option_map}
use Rattle.pc_known.specs.declared.sends.Sends.{Sends}
use Rattle.pc_known.specs.Sends.{StandByNumber, KeepsSends, MarkHeard}
use Rattle.pc_world.specs.Known.{Known}
use Rattle.pc_world.specs.Known.Traffic.{Heard, Sent, request_sent}
use Rattle.pc_world.specs.Local.{MayHear}

pub found-at : (last : ℕ) (sent : List Sent) (place number : ℕ) → number ≡ last + 1 + place → StandByNumber last sent → find (λ m. m.number == number) sent ≡ slice_get sent place
found-at last [] place number is numbered = refl
found-at last (m ∷ sent) zero number is numbered =
    let here : (m.number == number) ≡ true = eq-eqb m.number number (omega (arith, numbered.0)) in
    ap (λ b. cond b (Some m) (find (λ m. m.number == number) sent)) here
found-at last (m ∷ sent) (suc place) number is numbered =
    let here : (m.number == number) ≡ false = ne_eqb m.number number (λ e. omega (arith, numbered.0)) in
    ap (λ b. cond b (Some m) (find (λ m. m.number == number) sent)) here ∙ found-at (last + 1) sent place number (omega arith) numbered.1

any-at : (last : ℕ) (sent : List Sent) (place number : ℕ) → number ≡ last + 1 + place → StandByNumber last sent → list_any (λ m. m.number == number) sent ≡ is_some (slice_get sent place)
any-at last [] place number is numbered = refl
any-at last (m ∷ sent) zero number is numbered =
    let here : (m.number == number) ≡ true = eq-eqb m.number number (omega (arith, numbered.0)) in
    grind arith
any-at last (m ∷ sent) (suc place) number is numbered =
    let here : (m.number == number) ≡ false = ne_eqb m.number number (λ e. omega (arith, numbered.0)) in
    let later = any-at (last + 1) sent place number (omega arith) numbered.1 in
    grind arith

none-at-zero : (last : ℕ) (sent : List Sent) → StandByNumber last sent → list_any (λ m. m.number == 0) sent ≡ false
none-at-zero last [] numbered = refl
none-at-zero last (m ∷ sent) numbered =
    let here : (m.number == 0) ≡ false = ne_eqb m.number 0 (λ e. omega (arith, numbered.0)) in
    let later = none-at-zero (last + 1) sent numbered.1 in
    grind arith

none-found-at-zero : (last : ℕ) (sent : List Sent) → StandByNumber last sent → find (λ m. m.number == 0) sent ≡ None
none-found-at-zero last [] numbered = refl
none-found-at-zero last (m ∷ sent) numbered =
    let here : (m.number == 0) ≡ false = ne_eqb m.number 0 (λ e. omega (arith, numbered.0)) in
    ap (λ b. cond b (Some m) (find (λ m. m.number == 0) sent)) here ∙ none-found-at-zero (last + 1) sent numbered.1

pub mark-at : (heard : List Heard) (last : ℕ) (sent : List Sent) (marks : List Bool) (place number : ℕ) → number ≡ last + 1 + place → MarkHeard heard last sent marks
    → slice_get marks place ≡ option_map (λ m. list_any (λ h. h.number == number) heard) (slice_get sent place)
mark-at heard last [] [] place number is marked = refl
mark-at heard last [] (mark ∷ marks) place number is marked = absurd marked
mark-at heard last (m ∷ sent) [] place number is marked = absurd marked
mark-at heard last (m ∷ sent) (mark ∷ marks) zero number is marked =
    let same : last + 1 ≡ number = omega arith in
    ap Some (marked.0 ∙ ap (λ n. list_any (λ h. h.number == n) heard) same)
mark-at heard last (m ∷ sent) (mark ∷ marks) (suc place) number is marked = mark-at heard (last + 1) sent marks place number (omega arith) marked.1

-- what the message of a number said
pub request_at : (k : Known) (x : Sends) (number place : ℕ) → KeepsSends k x → number ≡ place + 1 → request_sent number k.sent ≡ option_map (λ m. m.request) (slice_get x.messages.items place)
request_at k x number place keeps is =
    ap (option_map (λ m. m.request)) (found-at 0 k.sent place number (omega arith) keeps.numbered ∙ ap (λ ms. slice_get ms place) (sym keeps.sent))

-- no message has the number 0
pub no_request : (k : Known) (x : Sends) → KeepsSends k x → request_sent 0 k.sent ≡ None
no_request k x keeps = ap (option_map (λ m. m.request)) (none-found-at-zero 0 k.sent keeps.numbered)

-- the message of a number may be heard where its mark is there and not set
pub may_hear_at : (k : Known) (x : Sends) (number place : ℕ) → KeepsSends k x → number ≡ place + 1 → (slice_get x.heard.items place ≡ Some false) ↔ MayHear k number
may_hear_at k x number place keeps is = (there, back)
  where
    marks : slice_get x.heard.items place ≡ option_map (λ m. list_any (λ h. h.number == number) k.heard) (slice_get k.sent place)
    marks = mark-at k.heard 0 k.sent x.heard.items place number (omega arith) keeps.marks

    sent : list_any (λ m. m.number == number) k.sent ≡ is_some (slice_get k.sent place)
    sent = any-at 0 k.sent place number (omega arith) keeps.numbered

    by : (m : Option Sent) → slice_get k.sent place ≡ m → option_map (λ m. list_any (λ h. h.number == number) k.heard) m ≡ Some false → MayHear k number
    by None at is = absurd cc
    by (Some m) at is =
        let isnt : list_any (λ h. h.number == number) k.heard ≡ false = cc in record { sent = sent ∙ ap is_some at; unheard = ap not isnt }

    there : slice_get x.heard.items place ≡ Some false → MayHear k number
    there mark = by (slice_get k.sent place) refl (sym marks ∙ mark)

    from : (m : Option Sent) → slice_get k.sent place ≡ m → MayHear k number → option_map (λ m. list_any (λ h. h.number == number) k.heard) m ≡ Some false
    from None at may = let no : false ≡ true = sym (sent ∙ ap is_some at) ∙ may.sent in absurd cc
    from (Some m) at may = ap (λ b. Some b) (not-true (list_any (λ h. h.number == number) k.heard) may.unheard)

    back : MayHear k number → slice_get x.heard.items place ≡ Some false
    back may = marks ∙ from (slice_get k.sent place) refl may

-- nothing of the number 0 may be heard
pub none_to_hear : (k : Known) (x : Sends) → KeepsSends k x → MayHear k 0 → ⊥
none_to_hear k x keeps may = let no : false ≡ true = sym (none-at-zero 0 k.sent keeps.numbered) ∙ may.sent in absurd cc

-- one more message
pub numbered-push : (last : ℕ) (sent : List Sent) (m : Sent) → m.number ≡ last + length sent + 1 → StandByNumber last sent → StandByNumber last (sent ++ m ∷ [])
numbered-push last [] m is numbered = (omega arith, tt)
numbered-push last (s ∷ sent) m is numbered = (numbered.0, numbered-push (last + 1) sent m (omega arith) numbered.1)

any-push : (heard : List Heard) (h : Heard) (n : ℕ) → list_any (λ h. h.number == n) (heard ++ h ∷ []) ≡ (list_any (λ h. h.number == n) heard || h.number == n)
any-push heard h n =
    let more = list_any-append (λ h. h.number == n) heard (h ∷ []) in
    by (list_any (λ h. h.number == n) heard) (h.number == n) more
  where
    by : (a b : Bool) → list_any (λ h. h.number == n) (heard ++ h ∷ []) ≡ (a || (b || false)) → list_any (λ h. h.number == n) (heard ++ h ∷ []) ≡ (a || b)
    by true b e = e
    by false true e = e
    by false false e = e

-- a message that was not heard is marked so
pub marks-push : (heard : List Heard) (last : ℕ) (sent : List Sent) (marks : List Bool) (m : Sent) → All (λ h. h.number ≤ last + length sent) heard → MarkHeard heard last sent marks
    → MarkHeard heard last (sent ++ m ∷ []) (marks ++ false ∷ [])
marks-push heard last [] [] m low marked =
    (sym (list_any_none (λ h. h.number == last + 1) heard (All-weaker (λ h. h.number ≤ last + 0) (λ h. (h.number == last + 1) ≡ false) (λ (h : Heard) (le : h.number ≤ last + 0). ne_eqb h.number (last + 1) (λ (e : h.number ≡ last + 1). omega arith)) heard low)), tt)
marks-push heard last [] (mark ∷ marks) m low marked = absurd marked
marks-push heard last (s ∷ sent) [] m low marked = absurd marked
marks-push heard last (s ∷ sent) (mark ∷ marks) m low marked =
    (marked.0, marks-push heard (last + 1) sent marks m (All-weaker (λ h. h.number ≤ last + suc (length sent)) (λ h. h.number ≤ last + 1 + length sent) (λ (h : Heard) (le : h.number ≤ last + suc (length sent)). omega arith) heard low) marked.1)

-- a reply to an earlier message leaves the marks
marks-behind : (heard : List Heard) (h : Heard) (last : ℕ) (sent : List Sent) (marks : List Bool) → h.number ≤ last → MarkHeard heard last sent marks → MarkHeard (heard ++ h ∷ []) last sent marks
marks-behind heard h last [] [] low marked = tt
marks-behind heard h last [] (mark ∷ marks) low marked = absurd marked
marks-behind heard h last (s ∷ sent) [] low marked = absurd marked
marks-behind heard h last (s ∷ sent) (mark ∷ marks) low marked =
    let other : (h.number == last + 1) ≡ false = ne_eqb h.number (last + 1) (λ e. omega arith) in (
      marked.0 ∙ sym (any-push heard h (last + 1) ∙ ap (λ b. list_any (λ h. h.number == last + 1) heard || b) other ∙ or-false (list_any (λ h. h.number == last + 1) heard)),
      marks-behind heard h (last + 1) sent marks (omega arith) marked.1,
    )
  where
    or-false : (b : Bool) → (b || false) ≡ b
    or-false true = refl
    or-false false = refl

-- a reply to the message at a place sets its mark
pub marks-set : (heard : List Heard) (h : Heard) (last : ℕ) (sent : List Sent) (marks : List Bool) (place : ℕ) → h.number ≡ last + 1 + place → MarkHeard heard last sent marks
    → MarkHeard (heard ++ h ∷ []) last sent (slice_set marks place true)
marks-set heard h last [] [] place is marked = tt
marks-set heard h last [] (mark ∷ marks) place is marked = absurd marked
marks-set heard h last (s ∷ sent) [] place is marked = absurd marked
marks-set heard h last (s ∷ sent) (mark ∷ marks) zero is marked =
    let here : (h.number == last + 1) ≡ true = eq-eqb h.number (last + 1) (omega arith) in (
      sym (any-push heard h (last + 1) ∙ ap (λ b. list_any (λ h. h.number == last + 1) heard || b) here ∙ or-true (list_any (λ h. h.number == last + 1) heard)),
      marks-behind heard h (last + 1) sent marks (omega arith) marked.1,
    )
  where
    or-true : (b : Bool) → (b || true) ≡ true
    or-true true = refl
    or-true false = refl
marks-set heard h last (s ∷ sent) (mark ∷ marks) (suc place) is marked =
    let other : (h.number == last + 1) ≡ false = ne_eqb h.number (last + 1) (λ e. omega arith) in (
      marked.0 ∙ sym (any-push heard h (last + 1) ∙ ap (λ b. list_any (λ h. h.number == last + 1) heard || b) other ∙ or-false (list_any (λ h. h.number == last + 1) heard)),
      marks-set heard h (last + 1) sent marks place (omega arith) marked.1,
    )
  where
    or-false : (b : Bool) → (b || false) ≡ b
    or-false true = refl
    or-false false = refl
