-- What a put and its reply do to the writes of an epoch.
use Rattle.std.proofs.Common.{◌≡◌, ℕ, ◌+◌, ◌<◌, ◌≤◌, max, Bool, true, false, cond, ◌==◌, ◌&&◌, ◌||◌, List, [], ◌∷◌, ◌++◌, fold, map, Option, refl, ap, ◌∙◌, arith, All}
use Rattle.std.specs.List.{list_any}
use Rattle.std.proofs.lemmas.Bool.{ne_eqb}
use Rattle.std.proofs.lemmas.Grind.{fold-append}
use Rattle.std.proofs.lemmas.List.Elements.{All-cons, All-nil}
use Rattle.pc_base.specs.Span.{key_below, same_key}
use Rattle.pc_lists.proofs.Same.{key_below-self, same_key-self}
use Rattle.pc_txn.proofs.Same.{if_false, if_true}
use Rattle.pc_world.specs.Known.Transactions.{with_lock}
use Rattle.pc_world.specs.Known.Writes.{Write, asked_again, last_seq_of, proved_at, with_put}

-- The greatest sequence, begun with another number.
abbrev pub last_from : ℕ → List Write → ℕ
last_from most writes = fold (λ most w. max most w.seq) most writes

from_least : (most : ℕ) (writes : List Write) → most ≤ last_from most writes
from_least most [] = omega arith
from_least most (w ∷ writes) = let h : max most w.seq ≤ last_from (max most w.seq) writes = from_least (max most w.seq) writes in omega arith

each_within : (most : ℕ) (writes : List Write) → All (λ w. w.seq ≤ last_from most writes) writes
each_within most [] = All-nil (λ w. w.seq ≤ most)
each_within most (w ∷ writes) =
    let low : max most w.seq ≤ last_from (max most w.seq) writes = from_least (max most w.seq) writes in
    All-cons (λ x. x.seq ≤ last_from most (w ∷ writes)) w writes (omega (arith, low)) (each_within (max most w.seq) writes)

-- no write has a sequence above the last one
pub below_last : (writes : List Write) → All (λ w. w.seq ≤ last_seq_of writes) writes
below_last writes = each_within 0 writes

pub none_later : (most n : ℕ) (writes : List Write) → last_from most writes < n → list_any (λ w. w.seq == n) writes ≡ false
none_later most n [] h = refl
none_later most n (w ∷ writes) h =
    let low : max most w.seq ≤ last_from (max most w.seq) writes = from_least (max most w.seq) writes in
    let here : (w.seq == n) ≡ false = ne_eqb w.seq n (λ q. absurd (omega arith)) in
    ap (λ b. b || list_any (λ w. w.seq == n) writes) here ∙ none_later (max most w.seq) n writes h

-- a new write stands last, and its sequence is the last one
pub put-new : (seq ts : ℕ) (key : List ℕ) (value : Option (List ℕ)) (writes : List Write) → seq ≡ last_seq_of writes + 1
    → with_put seq ts key value writes ≡ writes ++ record { key = key; seq = seq; value = value; asked = ts ∷ []; proofs = [] } ∷ []
put-new seq ts key value writes next = if_false _ _ _ (none_later 0 seq writes (omega arith))

pub last_seq-push : (writes : List Write) (w : Write) → last_seq_of (writes ++ w ∷ []) ≡ max (last_seq_of writes) w.seq
last_seq-push writes w = fold-append (λ most w. max most w.seq) 0 writes (w ∷ [])

pub proved-seq : (key : List ℕ) (seq ts : ℕ) (w : Write) → (proved_at key seq ts w).seq ≡ w.seq
proved-seq key seq ts w = elim (w.seq == seq && same_key w.key key) as (λ b. (cond b (record w { proofs = w.proofs ++ ts ∷ [] }) w).seq ≡ w.seq) [ true ↦ refl | false ↦ refl ]

pub proved-key : (key : List ℕ) (seq ts : ℕ) (w : Write) → (proved_at key seq ts w).key ≡ w.key
proved-key key seq ts w = elim (w.seq == seq && same_key w.key key) as (λ b. (cond b (record w { proofs = w.proofs ++ ts ∷ [] }) w).key ≡ w.key) [ true ↦ refl | false ↦ refl ]

-- a write that was sent before is sent once more
pub put-again : (seq ts : ℕ) (key : List ℕ) (value : Option (List ℕ)) (writes : List Write) → list_any (λ w. w.seq == seq) writes ≡ true → with_put seq ts key value writes ≡ map (asked_again seq ts) writes
put-again seq ts key value writes there = if_true _ _ _ there

proved-last_from : (key : List ℕ) (seq ts most : ℕ) (writes : List Write) → last_from most (map (proved_at key seq ts) writes) ≡ last_from most writes
proved-last_from key seq ts most [] = refl
proved-last_from key seq ts most (w ∷ writes) =
    ap (λ n. last_from (max most n) (map (proved_at key seq ts) writes)) (proved-seq key seq ts w)
    ∙ proved-last_from key seq ts (max most w.seq) writes

pub proved-last_seq : (key : List ℕ) (seq ts : ℕ) (writes : List Write) → last_seq_of (map (proved_at key seq ts) writes) ≡ last_seq_of writes
proved-last_seq key seq ts writes = proved-last_from key seq ts 0 writes

pub asked-seq : (seq ts : ℕ) (w : Write) → (asked_again seq ts w).seq ≡ w.seq
asked-seq seq ts w = elim (w.seq == seq) as (λ b. (cond b (record w { asked = w.asked ++ ts ∷ [] }) w).seq ≡ w.seq) [ true ↦ refl | false ↦ refl ]

pub asked-key : (seq ts : ℕ) (w : Write) → (asked_again seq ts w).key ≡ w.key
asked-key seq ts w = elim (w.seq == seq) as (λ b. (cond b (record w { asked = w.asked ++ ts ∷ [] }) w).key ≡ w.key) [ true ↦ refl | false ↦ refl ]

pub asked-proofs : (seq ts : ℕ) (w : Write) → (asked_again seq ts w).proofs ≡ w.proofs
asked-proofs seq ts w = elim (w.seq == seq) as (λ b. (cond b (record w { asked = w.asked ++ ts ∷ [] }) w).proofs ≡ w.proofs) [ true ↦ refl | false ↦ refl ]

asked-last_from : (seq ts most : ℕ) (writes : List Write) → last_from most (map (asked_again seq ts) writes) ≡ last_from most writes
asked-last_from seq ts most [] = refl
asked-last_from seq ts most (w ∷ writes) =
    ap (λ n. last_from (max most n) (map (asked_again seq ts) writes)) (asked-seq seq ts w)
    ∙ asked-last_from seq ts (max most w.seq) writes

-- a write that is sent once more keeps the sequences
pub asked-last_seq : (seq ts : ℕ) (writes : List Write) → last_seq_of (map (asked_again seq ts) writes) ≡ last_seq_of writes
asked-last_seq seq ts writes = asked-last_from seq ts 0 writes

locked-at : (key lock : List ℕ) (locks : List (List ℕ)) (below same : Bool) → key_below key lock ≡ below → same_key key lock ≡ same → with_lock key (with_lock key locks) ≡ with_lock key locks
    → with_lock key (cond below (key ∷ lock ∷ locks) (cond same (lock ∷ locks) (lock ∷ with_lock key locks))) ≡ cond below (key ∷ lock ∷ locks) (cond same (lock ∷ locks) (lock ∷ with_lock key locks))
locked-at key lock locks true same b s again = if_false _ _ _ (key_below-self key) ∙ if_true _ _ _ (same_key-self key)
locked-at key lock locks false true b s again = if_false _ _ _ b ∙ if_true _ _ _ s
locked-at key lock locks false false b s again = if_false _ _ _ b ∙ if_false _ _ _ s ∙ ap (λ locks. lock ∷ locks) again

-- a key that is locked is not locked once more
pub with_lock-again : (key : List ℕ) (locks : List (List ℕ)) → with_lock key (with_lock key locks) ≡ with_lock key locks
with_lock-again key [] = if_false _ _ _ (key_below-self key) ∙ if_true _ _ _ (same_key-self key)
with_lock-again key (lock ∷ locks) = locked-at key lock locks (key_below key lock) (same_key key lock) refl refl (with_lock-again key locks)
