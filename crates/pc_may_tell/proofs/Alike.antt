-- Messages of one request, and what is so of one of them.
use Rattle.std.proofs.Common.{◌≡◌, ◌↔◌, ◌⊎◌, ◌-◌, ◌<◌, ◌≤◌, ◌&&◌, ◌==◌, ℕ, zero, suc, Bool, true, false, if◌then◌else◌, Any, IsTrue, List, [], ◌∷◌, ◌++◌, not, reverse, refl, sym, subst, ◌∙◌, inl, inr, arith}
use Rattle.std.proofs.lemmas.List.{reverse-append}
use Rattle.std.proofs.lemmas.List.Elements.{All-weaker}
use Rattle.pc_base.specs.declared.limits.TheConstants.{MOST_CONFLICTS, MOST_REFUSALS}
use Rattle.pc_base.specs.declared.transaction.TxnId.{TxnId}
use Rattle.pc_base.specs.Transaction.{same_txn}
use Rattle.pc_may_tell.specs.Losing.{WasSentLost}
use Rattle.pc_known.proofs.Marked.{number_now}
use Rattle.pc_known.specs.declared.sends.Sends.{Sends}
use Rattle.pc_known.specs.Sends.{KeepsSends}
use Rattle.pc_may_tell.specs.Moving.{IsMovedNow, MetEightOf}
use Rattle.pc_proto.specs.declared.request.Request.{Request}
use Rattle.pc_proto.specs.declared.request.Request.TheVariants as requests
use Rattle.pc_proto.specs.Replies.{is_conflict_with, status_ts}
use Rattle.pc_proto.specs.Requests.{is_put_of}
use Rattle.pc_world.specs.Counting.{AtLeast, LastIs}
use Rattle.pc_world.specs.Known.{Known}
use Rattle.pc_world.specs.Known.Traffic.{Heard, Sent}
use Rattle.pc_world.specs.SameRequest.{IsSameMessage, IsSamePut, IsSameRequest}
use Rattle.pc_world.specs.Tell.Refusal.{AreLastLost, IsConflictOf, IsUnprovedPut, MetEight, WasLost, WasMoved, is_heard, is_moved}

request-sym : (one other : Request) → IsSameRequest one other → IsSameRequest other one
request-sym one other (inl e) = inl (sym e)
request-sym (requests.Put meta seq ts key value) (requests.Put to at when place what) (inr (a, b, c)) = inr (sym a, sym b, sym c)
request-sym one other (inr same) = absurd same

put-trans : (one two three : Request) → IsSamePut one two → IsSamePut two three → IsSamePut one three
put-trans (requests.Put a b c d e) (requests.Put f g h i j) (requests.Put l m n o p) x y = (x.0 ∙ y.0, x.1 ∙ y.1, x.2 ∙ y.2)
put-trans (requests.Put a b c d e) (requests.Put f g h i j) three x y = absurd y
put-trans (requests.Put a b c d e) two three x y = absurd x
put-trans one two three x y = absurd x

request-trans : (one two three : Request) → IsSameRequest one two → IsSameRequest two three → IsSameRequest one three
request-trans one two three (inl e) h = subst (λ r. IsSameRequest r three) (sym e) h
request-trans one two three (inr put) (inl e) = subst (λ r. IsSameRequest one r) e (inr put)
request-trans one two three (inr put) (inr other) = inr (put-trans one two three put other)

pub message_sym : (one other : Sent) → IsSameMessage one other → IsSameMessage other one
message_sym one other h = record { range = sym h.range; request = request-sym one.request other.request h.request }

pub message_trans : (one two three : Sent) → IsSameMessage one two → IsSameMessage two three → IsSameMessage one three
message_trans one two three x y = record { range = x.range ∙ y.range; request = request-trans one.request two.request three.request x.request y.request }

-- ---- which request met its eighth intent

module _ {X : Type 0} (P Q R : X → Type 0) (all : (x : X) → P x → Q x) (back : (x : X) → Q x → P x) where
  at-least-as : (n : ℕ) (xs : List X) → AtLeast P n xs → AtLeast Q n xs
  at-least-as zero xs a = tt
  at-least-as (suc n) [] a = a
  at-least-as (suc n) (x ∷ xs) (inl (p, rest)) = inl (all x p, at-least-as n xs rest)
  at-least-as (suc n) (x ∷ xs) (inr rest) = inr (at-least-as (suc n) xs rest)

  last-is-as : (xs : List X) → LastIs P R xs → LastIs Q R xs
  last-is-as [] h = h
  last-is-as (x ∷ xs) (inl later) = inl (last-is-as xs later)
  last-is-as (x ∷ xs) (inr now) = inr (all x now.0, now.1, All-weaker (λ y. P y → ⊥) (λ y. Q y → ⊥) (λ y none q. none (back y q)) xs now.2)

module _ {X : Type 0} (P R : X → Type 0) where
  last-there : (xs : List X) → LastIs P R xs → Any P xs
  last-there [] h = absurd h
  last-there (x ∷ xs) (inl later) = let a = last-there xs later in (suc a.0, a.1, omega (arith, a.2), a.3, a.4)
  last-there (x ∷ xs) (inr now) = (zero, x, omega arith, refl, now.0)

-- the request is that of a reply that was heard
pub met_eight_iff : (holder : TxnId) (heard : List Heard) → Any (λ h. MetEightOf holder heard h.request) heard ↔ MetEight holder heard
met_eight_iff holder heard = (
  λ a. record { request = a.1.request; eight = a.4.eight; last = a.4.last },
  λ (m : MetEight holder heard).
      let a = last-there (IsConflictOf m.request) (λ h. IsTrue (is_conflict_with holder h.reply)) heard m.last in
      let P = IsConflictOf m.request in
      let Q = IsConflictOf a.1.request in
      let on : (h : Heard) → P h → Q h = λ h p. record { same = request-trans a.1.request m.request h.request (request-sym m.request a.1.request a.4.same) p.same; conflict = p.conflict } in
      let back : (h : Heard) → Q h → P h = λ h q. record { same = request-trans m.request a.1.request h.request a.4.same q.same; conflict = q.conflict } in (
        a.0,
        a.1,
        a.2,
        a.3,
        record {
          eight = at-least-as P Q (λ h. IsTrue (is_conflict_with holder h.reply)) on back MOST_CONFLICTS heard m.eight;
          last = last-is-as P Q (λ h. IsTrue (is_conflict_with holder h.reply)) on back heard m.last;
        },
      ),
)

-- ---- which sends were lost

module _ (heard : List Heard) (m : Sent) where
  left-by : (n : ℕ) (same : Bool) → (if same then suc n - 1 else suc n) ≡ (if same then n else suc n)
  left-by n true = omega arith
  left-by n false = refl

  lost-by : (n left : ℕ) (x : Sent) (xs : List Sent) (same : Bool) → left ≡ (if same then n else suc n) → IsTrue same ↔ IsSameMessage m x → (IsTrue same → IsTrue (not (is_heard heard x)))
      → AreLastLost heard m xs left ↔ AreLastLost heard m (x ∷ xs) (suc n)
  lost-by n left x xs true is it unheard =
      subst (λ l. AreLastLost heard m xs l ↔ AreLastLost heard m (x ∷ xs) (suc n)) (sym is)
      (λ h. inl (it.0 refl, unheard refl, h), λ h. elim h [ inl now ↦ now.2 | inr other ↦ absurd (other.0 (it.0 refl)) ])
  lost-by n left x xs false is it unheard =
      subst (λ l. AreLastLost heard m xs l ↔ AreLastLost heard m (x ∷ xs) (suc n)) (sym is)
      (λ h. inr ((λ s. let t : false ≡ true = it.1 s in absurd (cc t)), h), λ h. elim h [ inl now ↦ absurd (let t : false ≡ true = it.1 now.0 in cc t) | inr other ↦ other.1 ])

  none-left : (xs : List Sent) → AreLastLost heard m xs zero
  none-left [] = tt
  none-left (x ∷ xs) = tt

  -- one more message is looked at
  pub lost_next : (left : ℕ) (x : Sent) (xs : List Sent) (same : Bool) → IsTrue same ↔ IsSameMessage m x → (0 < left → IsTrue same → IsTrue (not (is_heard heard x)))
      → AreLastLost heard m xs (if same then left - 1 else left) ↔ AreLastLost heard m (x ∷ xs) left
  lost_next zero x xs true it unheard = (λ h. tt, λ h. none-left xs)
  lost_next zero x xs false it unheard = (λ h. tt, λ h. none-left xs)
  lost_next (suc n) x xs same it unheard = lost-by n (if same then suc n - 1 else suc n) x xs same (left-by n same) it (unheard (omega arith))

  -- where one of them was heard, they were not lost
  pub not_lost : (left : ℕ) (x : Sent) (xs : List Sent) → 0 < left → IsSameMessage m x → is_heard heard x ≡ true → AreLastLost heard m (x ∷ xs) left → ⊥
  not_lost zero x xs some same is h = omega arith
  not_lost (suc n) x xs some same is (inl now) = let t : not true ≡ true = subst (λ b. not b ≡ true) is now.1 in cc t
  not_lost (suc n) x xs some same is (inr other) = other.0 same

  -- of one message, if of more
  pub lost_one : (n : ℕ) (xs : List Sent) → AreLastLost heard m xs (suc n) → AreLastLost heard m xs 1
  lost_one n [] h = h
  lost_one n (x ∷ xs) (inl now) = inl (now.0, now.1, none-left xs)
  lost_one n (x ∷ xs) (inr other) = inr (other.0, lost_one n xs other.1)

  pub none_sent : (n : ℕ) → 0 < n → AreLastLost heard m [] n → ⊥
  none_sent zero some h = omega arith
  none_sent (suc n) some h = h

  -- the last of them
  pub lost_there : (n : ℕ) (xs : List Sent) → AreLastLost heard m xs (suc n) → Any (IsSameMessage m) xs
  lost_there n [] h = absurd h
  lost_there n (x ∷ xs) (inl now) = (zero, x, omega arith, refl, now.0)
  lost_there n (x ∷ xs) (inr other) = let a = lost_there n xs other.1 in (suc a.0, a.1, omega (arith, a.2), a.3, a.4)

-- what is lost of a message is lost of every other of the same request
pub lost_as : (heard : List Heard) (m x : Sent) → IsSameMessage m x → (n : ℕ) (xs : List Sent) → AreLastLost heard m xs n → AreLastLost heard x xs n
lost_as heard m x same zero [] h = tt
lost_as heard m x same zero (y ∷ xs) h = tt
lost_as heard m x same (suc n) [] h = h
lost_as heard m x same (suc n) (y ∷ xs) (inl now) = inl (message_trans x m y (message_sym m x same) now.0, now.1, lost_as heard m x same n xs now.2)
lost_as heard m x same (suc n) (y ∷ xs) (inr other) = inr ((λ s. other.0 (message_trans m x y same s)), lost_as heard m x same (suc n) xs other.1)

-- ---- which of the messages it was

put_as : (id : TxnId) (epoch seq : ℕ) (one other : Request) → IsSameRequest one other → is_put_of id epoch seq one ≡ true → is_put_of id epoch seq other ≡ true
put_as id epoch seq one other (inl e) h = subst (λ r. is_put_of id epoch seq r ≡ true) e h
put_as id epoch seq (requests.Put a b c d e) (requests.Put f g h i j) (inr (x, y, z)) is =
    subst (λ (p : TxnId × (ℕ × ℕ)). same_txn p.0 id && (p.1.0 == epoch && p.1.1 == seq) ≡ true) (λ n. (x n, (y n, z n))) is
put_as id epoch seq one other (inr same) is = absurd same

module _ {X : Type 0} (P : X → Type 0) where
  any-parted : (xs ys : List X) → Any P (xs ++ ys) → Any P xs ⊎ Any P ys
  any-parted [] ys h = inr h
  any-parted (x ∷ xs) ys (zero, y, low, is, p) = inl (zero, y, omega arith, is, p)
  any-parted (x ∷ xs) ys (suc n, y, low, is, p) = elim (any-parted xs ys (n, y, omega arith, is, p)) [
    | inl here ↦ inl (suc here.0, here.1, omega (arith, here.2), here.3, here.4)
    | inr there ↦ inr there
  ]

  any-reversed : (xs : List X) → Any P (reverse xs) → Any P xs
  any-reversed [] h = h
  any-reversed (x ∷ xs) h = elim (any-parted (reverse xs) (x ∷ []) (subst (Any P) (reverse-append (x ∷ []) xs) h)) [
    | inl earlier ↦ let a = any-reversed xs earlier in (suc a.0, a.1, omega (arith, a.2), a.3, a.4)
    | inr last ↦ at-head last
  ]
    where
      at-head : Any P (x ∷ []) → Any P (x ∷ xs)
      at-head (zero, y, low, is, p) = (zero, y, omega arith, is, p)
      at-head (suc n, y, low, is, p) = absurd (omega (arith, low))

-- a message of the actor's own was lost
pub was_lost_iff : (k : Known) (faults : ℕ) → 1 ≤ faults → Any (WasSentLost k faults) k.sent ↔ WasLost k faults
was_lost_iff k zero some = (λ a. absurd (omega arith), λ w. absurd (omega arith))
was_lost_iff k (suc n) some = (
  λ a. record { message = a.1; some = some; lost = a.4.lost; whose = a.4.whose },
  λ (w : WasLost k (suc n)).
      let a = any-reversed (IsSameMessage w.message) k.sent (lost_there k.heard w.message n (reverse k.sent) w.lost) in
      (a.0, a.1, a.2, a.3, record { lost = lost_as k.heard w.message a.1 a.4 (suc n) (reverse k.sent) w.lost; whose = as-well w.message a.1 a.4 w.whose }),
)
  where
    as-well : (m x : Sent) → IsSameMessage m x → Any (IsSameMessage m) k.sent_now ⊎ IsUnprovedPut k.txns m → Any (IsSameMessage x) k.sent_now ⊎ IsUnprovedPut k.txns x
    as-well m x same (inl now) = inl (now.0, now.1, now.2, now.3, message_trans x m now.1 (message_sym m x same) now.4)
    as-well m x same (inr p) = inr (record { t = p.t; w = p.w; mine = p.mine; written = p.written; unproved = p.unproved; put = put_as p.t.id p.t.epoch p.w.seq m.request x.request same.request p.put })

-- of some message so often, if of some once
pub lost_once : (k : Known) (faults : ℕ) → WasLost k faults → WasLost k 1
lost_once k zero w = absurd (omega (arith, w.some))
lost_once k (suc n) w = record { message = w.message; some = omega arith; lost = lost_one k.heard w.message n (reverse k.sent) w.lost; whose = w.whose }

-- ---- how often a commit was moved

pub moved_iff : (k : Known) (x : Sends) → KeepsSends k x → (ts : ℕ)
    → (AtLeast (IsMovedNow x) MOST_REFUSALS k.heard_now × LastIs (IsMovedNow x) (λ h. status_ts h.reply ≡ ts) k.heard_now)
    ↔ (AtLeast (WasMoved k) MOST_REFUSALS k.heard_now × LastIs (WasMoved k) (λ h. status_ts h.reply ≡ ts) k.heard_now)
moved_iff k x stands ts =
    let P : Heard → Type 0 = IsMovedNow x in
    let Q : Heard → Type 0 = WasMoved k in
    let R : Heard → Type 0 = λ h. status_ts h.reply ≡ ts in
    let on : (h : Heard) → P h → Q h = λ h p. subst (λ b. b && is_moved h.request h.reply ≡ true) (number_now k x h.number stands) p in
    let back : (h : Heard) → Q h → P h = λ h q. subst (λ b. b && is_moved h.request h.reply ≡ true) (sym (number_now k x h.number stands)) q in (
      λ h. (at-least-as P Q R on back MOST_REFUSALS k.heard_now h.0, last-is-as P Q R on back k.heard_now h.1),
      λ h. (at-least-as Q P R back on MOST_REFUSALS k.heard_now h.0, last-is-as Q P R back on k.heard_now h.1),
    )
