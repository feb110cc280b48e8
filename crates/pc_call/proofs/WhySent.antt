-- Why a commit gives up stays so while it sends one more message.
use Rattle.std.proofs.Common.{◌≡◌, ℕ, zero, suc, ◌+◌, ◌≤◌, Bool, true, false, ◌||◌, ◌==◌, inl, inr, List, [], ◌∷◌, length, map, fold, refl, sym, ap, ◌∙◌, subst, arith, All}
use Rattle.std.specs.List.{list_any}
use Rattle.std.proofs.lemmas.Bool.{and_from, and_parts, eqb-true}
use Rattle.std.proofs.lemmas.List.Elements.{All-cons, All-head, All-nil, All-tail}
use Rattle.std.proofs.lemmas.List.Folds.{list_any-append}
use Rattle.pc_base.specs.declared.limits.TheConstants.{MOST_REFUSALS}
use Rattle.pc_call.proofs.Facts.{open_is}
use Rattle.pc_call.proofs.WhyStays.{next_on, passed_on}
use Rattle.pc_call.specs.GivingUp.{IsWhy}
use Rattle.pc_call.specs.Learned.{known_sent}
use Rattle.pc_call.specs.Serving.{IsOpenIn}
use Rattle.pc_follows.specs.Eighth.{WasMovedEighth}
use Rattle.pc_follows.specs.RoundsMade.{RoundCount, no_rounds, rounds_after, rounds_made}
use Rattle.pc_proto.specs.declared.answer.Answer.{Answer}
use Rattle.pc_proto.specs.declared.answer.Answer.TheVariants as answers
use Rattle.pc_proto.specs.declared.request.Request.{Request}
use Rattle.pc_proto.specs.Replies.{status_ts}
use Rattle.pc_world.specs.Counting.{AtLeast, LastIs}
use Rattle.pc_world.specs.Known.{Known}
use Rattle.pc_world.specs.Known.Traffic.{Heard, Sent}
use Rattle.pc_world.specs.Known.Transactions.{Txn, txn_sent}
use Rattle.pc_world.specs.Tell.Data.{was_sent_now}
use Rattle.pc_world.specs.Tell.Refusal.{WasMoved, is_moved}

module _ {X : Type 0} (R P Q : X → Type 0) (on : (x : X) → R x → P x → Q x) where
  at_least_on : (n : ℕ) (xs : List X) → All R xs → AtLeast P n xs → AtLeast Q n xs
  at_least_on zero xs a h = tt
  at_least_on (suc n) [] a h = absurd h
  at_least_on (suc n) (x ∷ xs) a (inl (p, h)) = inl (on x (All-head R x xs a) p, at_least_on n xs (All-tail R x xs a) h)
  at_least_on (suc n) (x ∷ xs) a (inr h) = inr (at_least_on (suc n) xs (All-tail R x xs a) h)

module _ {X : Type 0} (R P Q S : X → Type 0) (on : (x : X) → R x → P x → Q x) (back : (x : X) → R x → Q x → P x) where
  none_on : (xs : List X) → All R xs → All (λ x. P x → ⊥) xs → All (λ x. Q x → ⊥) xs
  none_on [] a none = All-nil (λ x. Q x → ⊥)
  none_on (x ∷ xs) a none =
      All-cons (λ x. Q x → ⊥) x xs (λ q. All-head (λ x. P x → ⊥) x xs none (back x (All-head R x xs a) q)) (none_on xs (All-tail R x xs a) (All-tail (λ x. P x → ⊥) x xs none))

  last_on : (xs : List X) → All R xs → LastIs P S xs → LastIs Q S xs
  last_on [] a l = absurd l
  last_on (x ∷ xs) a (inl later) = inl (last_on xs (All-tail R x xs a) later)
  last_on (x ∷ xs) a (inr here) = inr (on x (All-head R x xs a) here.0, here.1, none_on xs (All-tail R x xs a) here.2)

or_none : (a b : Bool) → b ≡ false → (a || b) ≡ true → a ≡ true
or_none true b none e = refl
or_none false b none e = absurd cc

or_first : (a b : Bool) → a ≡ true → (a || b) ≡ true
or_first true b e = refl
or_first false b e = absurd cc

module _ (k : Known) (t : Txn) (open_in : IsOpenIn k t) (number range : ℕ) (request : Request) (new : length k.sent + 1 ≤ number) (low : All (λ h. h.number ≤ length k.sent) k.heard_now) where
  abbrev k2 : Known
  k2 = known_sent number range request k

  abbrev t2 : Txn
  t2 = txn_sent request t

  opened2 : IsOpenIn k2 t2
  opened2 = record { others = map (txn_sent request) open_in.others; is_open = open_in.is_open; first = ap (map (txn_sent request)) open_in.first }

  -- the rounds stand as before
  pub rounds_sent : rounds_made k2 ≡ rounds_made k
  rounds_sent =
      ap (λ o. fold (rounds_after o) no_rounds k.heard_now) (open_is k2 t2 opened2)
      ∙ ap (λ o. fold (rounds_after o) no_rounds k.heard_now) (sym (open_is k t open_in))

  -- what was moved before is moved
  moved_up : (h : Heard) → h.number ≤ length k.sent → WasMoved k h → WasMoved k2 h
  moved_up h old was =
      let parts = and_parts (was_sent_now k h) (is_moved h.request h.reply) was in
      and_from (was_sent_now k2 h) (is_moved h.request h.reply)
      (list_any-append (λ (m : Sent). m.number == h.number) k.sent_now (record { number = number; range = range; request = request } ∷ []) ∙ or_first (was_sent_now k h) _ parts.0) parts.1

  -- and nothing else
  moved_down : (h : Heard) → h.number ≤ length k.sent → WasMoved k2 h → WasMoved k h
  moved_down h old was =
      let parts = and_parts (was_sent_now k2 h) (is_moved h.request h.reply) was in
      let whole : (was_sent_now k h || ((number == h.number) || false)) ≡ true =
      sym (list_any-append (λ (m : Sent). m.number == h.number) k.sent_now (record { number = number; range = range; request = request } ∷ [])) ∙ parts.0 in
      and_from (was_sent_now k h) (is_moved h.request h.reply) (or_none (was_sent_now k h) ((number == h.number) || false) (other (number == h.number) refl) whole) parts.1
    where
      other : (b : Bool) → (number == h.number) ≡ b → (b || false) ≡ false
      other false differ = refl
      other true same = let e : number ≡ h.number = eqb-true number h.number same in absurd (omega (arith, e, old, new))

  pub moved_eighth : WasMovedEighth k2 → WasMovedEighth k
  moved_eighth eight = at_least_on (λ h. h.number ≤ length k.sent) (WasMoved k2) (WasMoved k) moved_down MOST_REFUSALS k.heard_now low eight

  pub why_sent : (answer : Answer) → IsWhy k answer → IsWhy k2 answer
  why_sent (answers.Restart key ts) w = record {
    first = record { span = w.first.span; met = w.first.met; first = w.first.first };
    low = let low = w.low in omega (arith, low);
    fewer = λ eight. w.fewer (moved_eighth eight);
  }
  why_sent (answers.Blocked holder) w = record {
    next =
        elim w.next [
          | inl next ↦ inl (next_on k k2 (λ r e. e) (λ r e. e) holder (ap (λ (r : RoundCount). r.waiting) rounds_sent) (ap (λ (r : RoundCount). r.push) rounds_sent) next)
          | inr passed ↦ inr (passed_on k k2 (λ r e. e) (λ r e. e) holder (ap (λ (r : RoundCount). r.passed) rounds_sent) passed)
        ];
    why = w.why;
    fewer = λ eight. w.fewer (moved_eighth eight);
  }
  why_sent (answers.Moved ts) w = record {
    eight = at_least_on (λ h. h.number ≤ length k.sent) (WasMoved k) (WasMoved k2) moved_up MOST_REFUSALS k.heard_now low w.eight;
    last = last_on (λ h. h.number ≤ length k.sent) (WasMoved k) (WasMoved k2) (λ h. status_ts h.reply ≡ ts) moved_up moved_down k.heard_now low w.last;
  }
  why_sent answer w = absurd w
