-- The writes of a transaction as operations: which sequences they have, and that asking again and proving leave them as they are.
use Rattle.std.proofs.Common.{◌≡◌, ℕ, ◌+◌, ◌<◌, ◌≤◌, max, Bool, true, false, ◌==◌, ◌||◌, ◌&&◌, if◌then◌else◌, List, [], ◌∷◌, ◌++◌, filter, fold, map, Option, None, Some, Contains, inl, inr, refl, ap, subst, ◌∙◌, arith}
use Rattle.std.specs.List.{list_any}
use Rattle.std.specs.Prelude.{⊤}
use Rattle.pc_base.specs.declared.transaction.TxnId.{TxnId}
use Rattle.pc_base.specs.Span.{same_key}
use Rattle.pc_base.specs.Transaction.{same_txn}
use Rattle.pc_implicit.proofs.SessionCommits.{written}
use Rattle.pc_implicit.proofs.SessionReads.{last_seq_done, seq_of}
use Rattle.pc_lists.proofs.Lists.{contains_cons, contains_nil}
use Rattle.pc_proto.specs.declared.reply.Reply.{Reply}
use Rattle.pc_proto.specs.declared.reply.Reply.TheVariants as replies
use Rattle.pc_proto.specs.declared.request.Request.{Request}
use Rattle.pc_proto.specs.declared.request.Request.TheVariants as requests
use Rattle.pc_world.specs.Known.Traffic.{Heard}
use Rattle.pc_world.specs.Known.Writes.{Write as WriteMade, asked_again, last_seq_of, proved_at, with_put_reply, with_query_reply, writes_heard, writes_replied}
use Rattle.pc_world.specs.Operations.{Operation, Read, ReadAll, Write, is_write}

-- The operation is a write.
abbrev pub is_a_write : Operation → Bool
is_a_write (Write key seq value) = true
is_a_write (Read key value) = false
is_a_write (ReadAll span rows) = false

-- The sequences rise strictly, the first from above this one.
abbrev pub RiseFrom : ℕ → List Operation → Type 0
RiseFrom n [] = ⊤
RiseFrom n (o ∷ os) = (n < seq_of o) × RiseFrom (seq_of o) os

pub max-above : (n m : ℕ) → n < m → max n m ≡ m
max-above n m h = omega (arith, h)

pub rise_push : (n : ℕ) (os : List Operation) (o : Operation) → RiseFrom n os → fold (λ most o. max most (seq_of o)) n os < seq_of o → RiseFrom n (os ++ o ∷ [])
rise_push n [] o rise above = (above, tt)
rise_push n (x ∷ xs) o rise above =
    (rise.0, rise_push (seq_of x) xs o rise.1 (subst (λ m. fold (λ most o. max most (seq_of o)) m xs < seq_of o) (max-above n (seq_of x) rise.0) above))

-- a sequence is not above the greatest
pub seq_below : (n : ℕ) (os : List Operation) → n ≤ fold (λ most o. max most (seq_of o)) n os
seq_below n [] = omega arith
seq_below n (o ∷ os) = let on = seq_below (max n (seq_of o)) os in omega (arith, on)

any-below : (n seq : ℕ) (os : List Operation) → 1 ≤ seq → fold (λ most o. max most (seq_of o)) n os < seq → list_any (is_write seq) os ≡ false
any-below n seq [] some below = refl
any-below n seq (o ∷ os) some below =
    let on : max n (seq_of o) ≤ fold (λ most o. max most (seq_of o)) (max n (seq_of o)) os = seq_below (max n (seq_of o)) os in
    let low : seq_of o < seq = omega (arith, on, below) in
    ap (λ b. b || list_any (is_write seq) os) (differs o low) ∙ any-below (max n (seq_of o)) seq os some below
  where
    differs : (o : Operation) → seq_of o < seq → is_write seq o ≡ false
    differs (Write key own value) low = grind (arith, low)
    differs (Read key value) low = refl
    differs (ReadAll span rows) low = refl

-- none of these operations writes under a sequence above the greatest
pub none_above : (seq : ℕ) (os : List Operation) → seq ≡ last_seq_done os + 1 → list_any (is_write seq) os ≡ false
none_above seq os is = any-below 0 seq os (omega (arith, is)) (omega (arith, is))

-- only writes write
pub any_filtered : (seq : ℕ) (os : List Operation) → list_any (is_write seq) (filter is_a_write os) ≡ list_any (is_write seq) os
any_filtered seq [] = refl
any_filtered seq (Write key own value ∷ os) = ap (λ b. (own == seq) || b) (any_filtered seq os)
any_filtered seq (Read key value ∷ os) = any_filtered seq os
any_filtered seq (ReadAll span rows ∷ os) = any_filtered seq os

last-filtered : (n : ℕ) (os : List Operation) → fold (λ most o. max most (seq_of o)) n (filter is_a_write os) ≡ fold (λ most o. max most (seq_of o)) n os
last-filtered n [] = refl
last-filtered n (Write key own value ∷ os) = last-filtered (max n own) os
last-filtered n (Read key value ∷ os) = last-filtered n os ∙ ap (λ m. fold (λ most o. max most (seq_of o)) m os) (let e : n ≡ max n 0 = omega arith in e)
last-filtered n (ReadAll span rows ∷ os) = last-filtered n os ∙ ap (λ m. fold (λ most o. max most (seq_of o)) m os) (let e : n ≡ max n 0 = omega arith in e)

-- the greatest sequence is that of a write
pub last_filtered : (os : List Operation) → last_seq_done (filter is_a_write os) ≡ last_seq_done os
last_filtered os = last-filtered 0 os

last-written : (n : ℕ) (ws : List WriteMade) → fold (λ most w. max most w.seq) n ws ≡ fold (λ most o. max most (seq_of o)) n (map written ws)
last-written n [] = refl
last-written n (w ∷ ws) = last-written (max n w.seq) ws

pub last_written : (ws : List WriteMade) → last_seq_of ws ≡ last_seq_done (map written ws)
last_written ws = last-written 0 ws

pub any_written : (seq : ℕ) (ws : List WriteMade) → list_any (λ w. w.seq == seq) ws ≡ list_any (is_write seq) (map written ws)
any_written seq [] = refl
any_written seq (w ∷ ws) = ap (λ b. (w.seq == seq) || b) (any_written seq ws)

-- a write is one of those of its sequence
pub any_contained : (ws : List WriteMade) (w : WriteMade) → Contains ws w → list_any (λ x. x.seq == w.seq) ws ≡ true
any_contained [] w there = absurd (contains_nil w there)
any_contained (x ∷ xs) w there =
    elim (contains_cons x xs w there) [
      | inl same ↦ let is : x.seq ≡ w.seq = ap (λ (y : WriteMade). y.seq) same in grind (arith, is)
      | inr later ↦ let rest = any_contained xs w later in grind (arith, rest)
    ]

-- ---- what leaves the writes as they are

module _ (f : WriteMade → WriteMade) (same : (w : WriteMade) → written (f w) ≡ written w) where
  pub written_map : (ws : List WriteMade) → map written (map f ws) ≡ map written ws
  written_map [] = refl
  written_map (w ∷ ws) = ap (λ o. o ∷ map written (map f ws)) (same w) ∙ ap (λ os. written w ∷ os) (written_map ws)

pub written_asked : (seq ts : ℕ) (w : WriteMade) → written (asked_again seq ts w) ≡ written w
written_asked seq ts w = by (w.seq == seq)
  where
    by : (b : Bool) → written (if b then record w { asked = w.asked ++ ts ∷ [] } else w) ≡ written w
    by true = refl
    by false = refl

written-proved : (key : List ℕ) (seq ts : ℕ) (w : WriteMade) → written (proved_at key seq ts w) ≡ written w
written-proved key seq ts w = by (w.seq == seq && same_key w.key key)
  where
    by : (b : Bool) → written (if b then record w { proofs = w.proofs ++ ts ∷ [] } else w) ≡ written w
    by true = refl
    by false = refl

module _ (ws : List WriteMade) where
  written-put : (key : List ℕ) (seq : ℕ) (reply : Reply) → map written (with_put_reply key seq reply ws) ≡ map written ws
  written-put key seq (replies.Written ts) = written_map (proved_at key seq ts) (written-proved key seq ts) ws
  written-put key seq reply = refl

  written-query : (key : List ℕ) (seq ts : ℕ) (reply : Reply) → map written (with_query_reply key seq ts reply ws) ≡ map written ws
  written-query key seq ts replies.Found = written_map (proved_at key seq ts) (written-proved key seq ts) ws
  written-query key seq ts reply = refl

  either-written : (b : Bool) (xs : List WriteMade) → map written xs ≡ map written ws → map written (if b then xs else ws) ≡ map written ws
  either-written true xs h = h
  either-written false xs h = refl

  written-replied : (id : TxnId) (epoch : ℕ) (request : Request) (reply : Reply) → map written (writes_replied id epoch request reply ws) ≡ map written ws
  written-replied id epoch (requests.Put meta seq ts key value) reply =
      either-written (same_txn meta.id id && meta.epoch == epoch) (with_put_reply key seq reply ws) (written-put key seq reply)
  written-replied id epoch (requests.Query other at_epoch seq ts key by) reply =
      either-written (same_txn other id && at_epoch == epoch) (with_query_reply key seq ts reply ws) (written-query key seq ts reply)
  written-replied id epoch request reply = refl

  -- a reply leaves the writes as they are, but for their proofs
  pub written_heard : (id : TxnId) (epoch : ℕ) (h : Option Heard) → map written (writes_heard id epoch h ws) ≡ map written ws
  written_heard id epoch None = refl
  written_heard id epoch (Some h) = written-replied id epoch h.request h.reply
