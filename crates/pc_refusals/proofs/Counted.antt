-- Why the count of moves stands on.
use Rattle.std.proofs.Common.{◌≡◌, ℕ, zero, suc, ◌+◌, ◌≤◌, ◌<◌, nat_le, nat_lt, Bool, true, false, cond, ◌&&◌, ◌||◌, ◌==◌, inl, inr, List, [], ◌∷◌, ◌++◌, length, refl, sym, ap, ◌∙◌, subst, All, IsTrue, arith}
use Rattle.std.specs.List.{list_any}
use Rattle.std.proofs.lemmas.Bool.{eqb-true, leb-false, ltb-false, ltb-true}
use Rattle.std.proofs.lemmas.List.{append-nil}
use Rattle.std.proofs.lemmas.List.Elements.{All-cons, All-head, All-nil, All-tail, All-weaker}
use Rattle.std.proofs.lemmas.List.Folds.{list_any-append}
use Rattle.pc_base.specs.declared.limits.TheConstants.{MOST_REFUSALS}
use Rattle.pc_proto.specs.declared.reply.Reply.{Reply}
use Rattle.pc_proto.specs.declared.request.Request.{Request}
use Rattle.pc_proto.specs.declared.request.Request.TheVariants as requests
use Rattle.pc_proto.specs.Replies.{is_undecided_status, status_ts}
use Rattle.pc_refusals.specs.Moves.{CountsMoves, DecidesAt, IsNoMove, RefusalsGoOn, ShowsRecord, moves_with}
use Rattle.pc_wave.proofs.Lists.{any_true_kept, at_least-before, at_least-fewer, at_least-kept, at_least-pop, at_least-push, last-in}
use Rattle.pc_wave.specs.Standing.{HasMore}
use Rattle.pc_world.specs.Counting.{AtLeast, LastIs}
use Rattle.pc_follows.specs.Eighth.{WasMovedEighth}
use Rattle.pc_world.specs.Known.{Known}
use Rattle.pc_world.specs.Known.Traffic.{Heard, Sent}
use Rattle.pc_world.specs.Tell.Data.{was_sent_now}
use Rattle.pc_world.specs.Tell.Refusal.{WasMoved, is_moved}

module _ {X : Type 0} (R P Q : X → Type 0) (on : (x : X) → R x → P x → Q x) where
  at_least_on : (n : ℕ) (xs : List X) → All R xs → AtLeast P n xs → AtLeast Q n xs
  at_least_on zero xs a h = tt
  at_least_on (suc n) [] a h = absurd h
  at_least_on (suc n) (x ∷ xs) a (inl (p, h)) = inl (on x (All-head R x xs a) p, at_least_on n xs (All-tail R x xs a) h)
  at_least_on (suc n) (x ∷ xs) a (inr h) = inr (at_least_on (suc n) xs (All-tail R x xs a) h)

both_parts : (a b : Bool) → (a && b) ≡ true → (a ≡ true) × (b ≡ true)
both_parts true b e = (refl, e)
both_parts false b e = absurd cc

or_none : (a b : Bool) → b ≡ false → (a || b) ≡ true → a ≡ true
or_none true b none e = refl
or_none false b none e = absurd cc

none_numbered : (n : ℕ) (low : ℕ) (ms : List Sent) → n ≤ low → All (λ m. low + 1 ≤ m.number) ms → list_any (λ m. m.number == n) ms ≡ false
none_numbered n low [] h a = refl
none_numbered n low (m ∷ ms) h a = by (m.number == n) refl (none_numbered n low ms h (All-tail (λ m. low + 1 ≤ m.number) m ms a))
  where
    by : (b : Bool) → (m.number == n) ≡ b → list_any (λ m. m.number == n) ms ≡ false → (b || list_any (λ m. m.number == n) ms) ≡ false
    by true is later =
        let e : m.number ≡ n = eqb-true m.number n is in
        let l : low + 1 ≤ m.number = All-head (λ m. low + 1 ≤ m.number) m ms a in
        absurd (omega arith)
    by false is later = later

no_move : (k : Known) (h : Heard) → IsNoMove h → WasMoved k h → ⊥
no_move k h none moved = let parts = both_parts (was_sent_now k h) (is_moved h.request h.reply) moved in absurd cc

module _ (n : ℕ) (k now : Known) (sent_more : List Sent) (heard_more : List Heard) (c : CountsMoves k n) (more : HasMore k now sent_more heard_more) (low : All (λ h. h.number ≤ length k.sent) k.heard_now) (high : All (λ m. length k.sent + 1 ≤ m.number) sent_more) where
  sent_on : (h : Heard) → was_sent_now k h ≡ true → was_sent_now now h ≡ true
  sent_on h is = ap (list_any (λ m. m.number == h.number)) more.sent_now ∙ any_true_kept (λ m. m.number == h.number) k.sent_now sent_more is

  sent_back : (h : Heard) → h.number ≤ length k.sent → was_sent_now now h ≡ true → was_sent_now k h ≡ true
  sent_back h l is =
      or_none (list_any (λ m. m.number == h.number) k.sent_now) (list_any (λ m. m.number == h.number) sent_more)
      (none_numbered h.number (length k.sent) sent_more l high)
      (sym (ap (list_any (λ m. m.number == h.number)) more.sent_now ∙ list_any-append (λ m. m.number == h.number) k.sent_now sent_more) ∙ is)

  moved_on : (h : Heard) → h.number ≤ length k.sent → WasMoved k h → WasMoved now h
  moved_on h l m = let parts = both_parts (was_sent_now k h) (is_moved h.request h.reply) m in ap (λ b. b && is_moved h.request h.reply) (sent_on h parts.0) ∙ parts.1

  moved_back : (h : Heard) → h.number ≤ length k.sent → WasMoved now h → WasMoved k h
  moved_back h l m = let parts = both_parts (was_sent_now now h) (is_moved h.request h.reply) m in ap (λ b. b && is_moved h.request h.reply) (sent_back h l parts.0) ∙ parts.1

  before_on : (m : ℕ) → AtLeast (WasMoved k) m k.heard_now → AtLeast (WasMoved now) m k.heard_now
  before_on m a = at_least_on (λ h. h.number ≤ length k.sent) (WasMoved k) (WasMoved now) moved_on m k.heard_now low a

  before_back : (m : ℕ) → AtLeast (WasMoved now) m k.heard_now → AtLeast (WasMoved k) m k.heard_now
  before_back m a = at_least_on (λ h. h.number ≤ length k.sent) (WasMoved now) (WasMoved k) moved_back m k.heard_now low a

  pub goes_on : All IsNoMove heard_more → CountsMoves now n
  goes_on none = record {
    moved = subst (λ hs. AtLeast (WasMoved now) n hs) (sym more.heard_now) (at_least-kept (WasMoved now) n k.heard_now heard_more (before_on n c.moved));
    no_more = λ a.
        let others : All (λ h. WasMoved now h → ⊥) heard_more = All-weaker IsNoMove (λ h. WasMoved now h → ⊥) (λ h. no_move now h) heard_more none in
        c.no_more (before_back (n + 1) (at_least-before (WasMoved now) (n + 1) k.heard_now heard_more others (subst (λ hs. AtLeast (WasMoved now) (n + 1) hs) more.heard_now a)));
  }

pub refusals_go : RefusalsGoOn
refusals_go n k now sent_more heard_more c more low high none = goes_on n k now sent_more heard_more c more low high none

decided_moved : (ts : ℕ) (request : Request) (reply : Reply) → DecidesAt ts request → is_moved request reply ≡ (is_undecided_status reply && nat_lt ts (status_ts reply))
decided_moved ts (requests.Stage meta at now writes locks) reply is = ap (λ t. is_undecided_status reply && nat_lt t (status_ts reply)) is
decided_moved ts (requests.Commit meta at locks) reply is = ap (λ t. is_undecided_status reply && nat_lt t (status_ts reply)) is
decided_moved ts request reply is = absurd is

module _ (k now : Known) (ts recorded : ℕ) (h : Heard) (shows : ShowsRecord k ts recorded h) (more : HasMore k now [] (h ∷ [])) where
  same_sent : now.sent_now ≡ k.sent_now
  same_sent = more.sent_now ∙ append-nil k.sent_now

  moves_as : is_moved h.request h.reply ≡ nat_lt ts recorded
  moves_as =
      decided_moved ts h.request h.reply shows.asked
      ∙ ap (λ b. b && nat_lt ts (status_ts h.reply)) shows.undecided
      ∙ ap (nat_lt ts) shows.shown

  now_sent : was_sent_now now h ≡ true
  now_sent = ap (list_any (λ m. m.number == h.number)) same_sent ∙ shows.now

  was_moved : nat_lt ts recorded ≡ true → WasMoved now h
  was_moved low = ap (λ b. b && is_moved h.request h.reply) now_sent ∙ moves_as ∙ low

  on : (x : Heard) → WasMoved k x → WasMoved now x
  on x m = subst (λ ms. IsTrue (list_any (λ m. m.number == x.number) ms && is_moved x.request x.reply)) (sym same_sent) m

  back : (x : Heard) → WasMoved now x → WasMoved k x
  back x m = subst (λ ms. IsTrue (list_any (λ m. m.number == x.number) ms && is_moved x.request x.reply)) same_sent m

  any : (xs : List Heard) → All (λ x. Unit {0}) xs
  any [] = All-nil (λ x. Unit {0})
  any (x ∷ xs) = All-cons (λ x. Unit {0}) x xs tt (any xs)

  at_on : (m : ℕ) (xs : List Heard) → AtLeast (WasMoved k) m xs → AtLeast (WasMoved now) m xs
  at_on m xs a = at_least_on (λ x. Unit {0}) (WasMoved k) (WasMoved now) (λ x u p. on x p) m xs (any xs) a

  at_back : (m : ℕ) (xs : List Heard) → AtLeast (WasMoved now) m xs → AtLeast (WasMoved k) m xs
  at_back m xs a = at_least_on (λ x. Unit {0}) (WasMoved now) (WasMoved k) (λ x u p. back x p) m xs (any xs) a

  suc_is : (n : ℕ) → suc n ≡ n + 1
  suc_is n = omega arith

  counts_by : (n : ℕ) → CountsMoves k n → n < MOST_REFUSALS → (a b : Bool) → nat_lt ts recorded ≡ a → nat_lt n MOST_REFUSALS ≡ b → CountsMoves now (cond (a && b) (n + 1) n)
  counts_by n c few true true low is = record {
    moved =
        subst (λ hs. AtLeast (WasMoved now) (n + 1) hs) (sym more.heard_now)
        (subst (λ m. AtLeast (WasMoved now) m (k.heard_now ++ h ∷ [])) (suc_is n) (at_least-push (WasMoved now) n k.heard_now h (at_on n k.heard_now c.moved) (was_moved low)));
    no_more = λ a.
        c.no_more (at_back (n + 1) k.heard_now
        (at_least-pop (WasMoved now) (n + 1) k.heard_now h (subst (λ m. AtLeast (WasMoved now) m (k.heard_now ++ h ∷ [])) (sym (suc_is (n + 1))) (subst (λ hs. AtLeast (WasMoved now) (n + 1 + 1) hs) more.heard_now a))));
  }
  counts_by n c few true false low is = let many : MOST_REFUSALS ≤ n = ltb-false n MOST_REFUSALS is in absurd (omega arith)
  counts_by n c few false b high is =
      let none : WasMoved now h → ⊥ = λ m. no_move now h (moves_as ∙ high) m in
      record {
        moved = subst (λ hs. AtLeast (WasMoved now) n hs) (sym more.heard_now) (at_least-kept (WasMoved now) n k.heard_now (h ∷ []) (at_on n k.heard_now c.moved));
        no_more = λ a.
            c.no_more (at_back (n + 1) k.heard_now
            (at_least-before (WasMoved now) (n + 1) k.heard_now (h ∷ []) (All-cons (λ x. WasMoved now x → ⊥) h [] none (All-nil (λ x. WasMoved now x → ⊥))) (subst (λ hs. AtLeast (WasMoved now) (n + 1) hs) more.heard_now a)));
      }

  pub counts_heard : (n : ℕ) → CountsMoves k n → n < MOST_REFUSALS → CountsMoves now (moves_with ts recorded n)
  counts_heard n c few = counts_by n c few (nat_lt ts recorded) (nat_lt n MOST_REFUSALS) refl refl

  pub last_heard : nat_lt ts recorded ≡ true → LastIs (WasMoved now) (λ h. status_ts h.reply ≡ recorded) now.heard_now
  last_heard low =
      subst (λ hs. LastIs (WasMoved now) (λ h. status_ts h.reply ≡ recorded) hs) (sym more.heard_now)
      (last-in (WasMoved now) (λ h. status_ts h.reply ≡ recorded) k.heard_now h [] (was_moved low) shows.shown (All-nil (λ x. WasMoved now x → ⊥)))

-- nothing was moved where nothing was heard
pub counts_none : (k : Known) → k.heard_now ≡ [] → CountsMoves k 0
counts_none k none = record { moved = tt; no_more = λ a. subst (λ hs. AtLeast (WasMoved k) 1 hs) none a }

-- as many are the most exactly where there are eight
pub many_eighth : (k : Known) (n : ℕ) → CountsMoves k n → MOST_REFUSALS ≤ n → WasMovedEighth k
many_eighth k n c many = at_least-fewer (WasMoved k) MOST_REFUSALS n k.heard_now many c.moved

pub eighth_many : (k : Known) (n : ℕ) → CountsMoves k n → WasMovedEighth k → MOST_REFUSALS ≤ n
eighth_many k n c eight = by (nat_lt n MOST_REFUSALS) refl
  where
    by : (b : Bool) → nat_lt n MOST_REFUSALS ≡ b → MOST_REFUSALS ≤ n
    by true few =
        let low : n < MOST_REFUSALS = ltb-true n MOST_REFUSALS few in
        let more : n + 1 ≤ MOST_REFUSALS = omega arith in
        absurd (c.no_more (at_least-fewer (WasMoved k) (n + 1) MOST_REFUSALS k.heard_now more eight))
    by false many = ltb-false n MOST_REFUSALS many

pub lt_true : (a b : ℕ) → a < b → nat_lt a b ≡ true
lt_true a b low = by (nat_lt a b) refl
  where
    by : (c : Bool) → nat_lt a b ≡ c → nat_lt a b ≡ true
    by true is = is
    by false is = let h : b ≤ a = ltb-false a b is in absurd (omega arith)

pub le_true : (a b : ℕ) → a ≤ b → nat_le a b ≡ true
le_true a b low = by (nat_le a b) refl
  where
    by : (c : Bool) → nat_le a b ≡ c → nat_le a b ≡ true
    by true is = is
    by false is = let h : b < a = leb-false a b is in absurd (omega arith)
