-- Which messages were heard, and which were sent in the open call, by their numbers.
use Rattle.std.proofs.Common.{◌≡◌, ◌≢◌, ◌↔◌, ℕ, zero, suc, ◌+◌, ◌<◌, ◌≤◌, ◌==◌, ◌||◌, nat_le, nat_lt, drop, Bool, true, false, List, [], ◌∷◌, Option, None, Some, IsTrue, slice_get, length, refl, ap, sym, subst, inl, inr, ◌∙◌, arith}
use Rattle.std.proofs.lemmas.Bool.{and_from, and_left, and_right, cases_lt, eqb-false, le-leb, le-ltb, lt-leb, lt-ltb, ne_eqb}
use Rattle.std.proofs.lemmas.List.Elements.{All-weaker}
use Rattle.std.proofs.lemmas.List.Folds.{list_any_none}
use Rattle.std.specs.List.{list_any}
use Rattle.std.specs.Option.{option_map}
use Rattle.pc_known.proofs.Numbered.{mark-at}
use Rattle.pc_known.specs.declared.sends.Sends.{Sends}
use Rattle.pc_known.specs.Sends.{KeepsSends, StandByNumber, is_number_now}
use Rattle.pc_world.specs.Known.{Known}
use Rattle.pc_world.specs.Known.Traffic.{Heard, Sent}

past : (xs : List Sent) (i : ℕ) → slice_get xs i ≡ None → length xs ≤ i
past [] i e = omega arith
past (x ∷ xs) zero e = absurd cc
past (x ∷ xs) (suc i) e = let low = past xs i e in omega arith

none-heard : (k : Known) (x : Sends) (number : ℕ) → KeepsSends k x → (number ≡ 0) → list_any (λ h. h.number == number) k.heard ≡ false
none-heard k x number keeps is =
    list_any_none (λ h. h.number == number) k.heard
    (All-weaker (λ h. (1 ≤ h.number) × (h.number ≤ length k.sent)) (λ h. (h.number == number) ≡ false) (λ (h : Heard) (t : (1 ≤ h.number) × (h.number ≤ length k.sent)). ne_eqb h.number number (λ (e : h.number ≡ number). let low = t.0 in omega arith)) k.heard keeps.only_sent)

-- nothing of the number 0 was heard
pub none_heard : (k : Known) (x : Sends) (number : ℕ) → KeepsSends k x → number ≡ 0 → false ≡ list_any (λ h. h.number == number) k.heard
none_heard k x number keeps is = sym (none-heard k x number keeps is)

none-past : (k : Known) (x : Sends) (number : ℕ) → KeepsSends k x → length k.sent < number → list_any (λ h. h.number == number) k.heard ≡ false
none-past k x number keeps above =
    list_any_none (λ h. h.number == number) k.heard
    (All-weaker (λ h. (1 ≤ h.number) × (h.number ≤ length k.sent)) (λ h. (h.number == number) ≡ false) (λ (h : Heard) (t : (1 ≤ h.number) × (h.number ≤ length k.sent)). ne_eqb h.number number (λ (e : h.number ≡ number). let high = t.1 in omega arith)) k.heard keeps.only_sent)

-- the mark of a message says whether a reply to it was heard
pub heard_at : (k : Known) (x : Sends) (number place : ℕ) (b : Bool) → KeepsSends k x → number ≡ place + 1 → IsTrue b ↔ (slice_get x.heard.items place ≡ Some true) → b ≡ list_any (λ h. h.number == number) k.heard
heard_at k x number place b keeps is same = by (slice_get k.sent place) refl
  where
    marks : slice_get x.heard.items place ≡ option_map (λ m. list_any (λ h. h.number == number) k.heard) (slice_get k.sent place)
    marks = mark-at k.heard 0 k.sent x.heard.items place number (omega arith) keeps.marks

    is_so : (v : Bool) → IsTrue b ↔ (Some v ≡ Some true) → b ≡ v
    is_so true one = one.1 refl
    is_so false one = off b (λ h. let no : Some false ≡ Some true = one.0 h in absurd cc)
      where
        off : (c : Bool) → (IsTrue c → ⊥) → c ≡ false
        off true h = absurd (h refl)
        off false h = refl

    by : (m : Option Sent) → slice_get k.sent place ≡ m → b ≡ list_any (λ h. h.number == number) k.heard
    by None at =
        let nothing : slice_get x.heard.items place ≡ None = marks ∙ ap (option_map (λ m. list_any (λ h. h.number == number) k.heard)) at in
        let low = past k.sent place at in
        let no : list_any (λ h. h.number == number) k.heard ≡ false = none-past k x number keeps (omega arith) in
        is_so false (λ h. let some = same.0 h in absurd cc, λ e. absurd cc) ∙ sym no
    by (Some m) at =
        let one : slice_get x.heard.items place ≡ Some (list_any (λ h. h.number == number) k.heard) = marks ∙ ap (option_map (λ m. list_any (λ h. h.number == number) k.heard)) at in
        is_so (list_any (λ h. h.number == number) k.heard) (λ h. sym one ∙ same.0 h, λ e. same.1 (one ∙ e))

any-in-by : (last : ℕ) (m : Sent) (sent : List Sent) (n : ℕ) → m.number ≡ last + 1 → last < n → n ≤ last + suc (length sent) → (last + 1 < n → n ≤ last + 1 + length sent → list_any (λ m. m.number == n) sent ≡ true)
    → (b : Bool) → (m.number == n) ≡ b → list_any (λ m. m.number == n) (m ∷ sent) ≡ true
any-in-by last m sent n is low high later true here = ap (λ b. b || list_any (λ m. m.number == n) sent) here
any-in-by last m sent n is low high later false here =
    let other : m.number ≢ n = eqb-false m.number n here in
    ap (λ b. b || list_any (λ m. m.number == n) sent) here ∙ later (omega arith) (omega arith)

any-in : (last : ℕ) (sent : List Sent) (n : ℕ) → StandByNumber last sent → last < n → n ≤ last + length sent → list_any (λ m. m.number == n) sent ≡ true
any-in last [] n numbered low high = absurd (omega arith)
any-in last (m ∷ sent) n numbered low high =
    any-in-by last m sent n numbered.0 low high (λ above below. any-in (last + 1) sent n numbered.1 above below) (m.number == n) refl

any-out : (last : ℕ) (sent : List Sent) (n : ℕ) → StandByNumber last sent → n ≤ last → list_any (λ m. m.number == n) sent ≡ false
any-out last [] n numbered low = refl
any-out last (m ∷ sent) n numbered low =
    let here : (m.number == n) ≡ false = ne_eqb m.number n (λ e. omega (arith, numbered.0)) in
    ap (λ b. b || list_any (λ m. m.number == n) sent) here ∙ any-out (last + 1) sent n numbered.1 (omega arith)

any-past : (last : ℕ) (sent : List Sent) (n : ℕ) → StandByNumber last sent → last + length sent < n → list_any (λ m. m.number == n) sent ≡ false
any-past last [] n numbered high = refl
any-past last (m ∷ sent) n numbered high =
    let here : (m.number == n) ≡ false = ne_eqb m.number n (λ e. omega (arith, numbered.0)) in
    ap (λ b. b || list_any (λ m. m.number == n) sent) here ∙ any-past (last + 1) sent n numbered.1 (omega arith)

numbered-drop : (n last at : ℕ) (sent : List Sent) → at ≡ last + n → StandByNumber last sent → StandByNumber at (drop n sent)
numbered-drop zero last at sent is numbered = let same : last ≡ at = omega arith in subst (λ n. StandByNumber n sent) same numbered
numbered-drop (suc n) last at [] is numbered = tt
numbered-drop (suc n) last at (m ∷ sent) is numbered = numbered-drop n (last + 1) at sent (omega arith) numbered.1

dropped-length : (n : ℕ) (sent : List Sent) → n ≤ length sent → n + length (drop n sent) ≡ length sent
dropped-length zero sent h = omega arith
dropped-length (suc n) [] h = absurd (omega arith)
dropped-length (suc n) (m ∷ sent) h = let later = dropped-length n sent (omega arith) in omega arith

module _ (k : Known) (x : Sends) (n : ℕ) (keeps : KeepsSends k x) where
  since : StandByNumber x.before (drop x.before k.sent)
  since = numbered-drop x.before 0 x.before k.sent (omega arith) keeps.numbered

  long : x.before + length (drop x.before k.sent) ≡ length k.sent
  long = dropped-length x.before k.sent keeps.before

  -- a message of a number past those before the call, and no later one
  pub sent_now_in : x.before < n → n ≤ length k.sent → list_any (λ m. m.number == n) k.sent_now ≡ true
  sent_now_in low high = rw (← keeps.now) (any-in x.before (drop x.before k.sent) n since low (omega (arith, long)))

  pub sent_now_past : length k.sent < n → list_any (λ m. m.number == n) k.sent_now ≡ false
  sent_now_past high = rw (← keeps.now) (any-past x.before (drop x.before k.sent) n since (omega (arith, long)))

  pub sent_now_out : n ≤ x.before → list_any (λ m. m.number == n) k.sent_now ≡ false
  sent_now_out low = rw (← keeps.now) (any-out x.before (drop x.before k.sent) n since low)

-- a message of the open call, by its number
pub number_now : (k : Known) (x : Sends) (n : ℕ) → KeepsSends k x → is_number_now x n ≡ list_any (λ m. m.number == n) k.sent_now
number_now k x n keeps =
    elim (cases_lt x.before n) [
      | inl low ↦ elim (cases_lt (length k.sent) n) [
        | inl past ↦ and_right (nat_lt x.before n) (nat_le n (length x.messages.items)) (lt-leb n (length x.messages.items) (omega (arith, long))) ∙ sym (sent_now_past k x n keeps past)
        | inr high ↦ and_from (nat_lt x.before n) (nat_le n (length x.messages.items)) (lt-ltb x.before n low) (le-leb n (length x.messages.items) (omega (arith, long))) ∙ sym (sent_now_in k x n keeps low high)
      ]
      | inr below ↦ and_left (nat_lt x.before n) (nat_le n (length x.messages.items)) (le-ltb x.before n below) ∙ sym (sent_now_out k x n keeps below)
    ]
  where
    long : length x.messages.items ≡ length k.sent
    long = ap length keeps.sent
