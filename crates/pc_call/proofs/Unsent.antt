-- What a call asks for anew beside what was sent before it: the puts that were left are the only messages of earlier calls that it may hear.
use Rattle.std.proofs.Common.{◌≡◌, ℕ, Bool, true, false, not, ◌&&◌, ◌⊎◌, inl, inr, List, [], ◌∷◌, Option, None, refl, sym, ap, ◌∙◌, subst, arith, All, Any, IsTrue}
use Rattle.std.proofs.lemmas.Bool.{and_parts}
use Rattle.std.proofs.lemmas.List.Elements.{All-append, All-cons, All-contains, All-nil, All-weaker}
use Rattle.pc_base.specs.Transaction.{same_txn}
use Rattle.pc_call.proofs.Facts.{before_is}
use Rattle.pc_call.specs.declared.later.LaterPut.{LaterPut}
use Rattle.pc_call.specs.Outbox.{IsHeardOrLeft, IsOnWayAs, IsReplyToMessage, IsSentAs, OutboxStands, WaitsInOutbox, has_put, waiting_put}
use Rattle.pc_call.specs.Serving.{IsSplit}
use Rattle.pc_call.specs.Stages.{WaitsBeside}
use Rattle.pc_follows.specs.AgainInOneWave.{sent_for_call}
use Rattle.pc_follows.specs.PipelinedPuts.{heard_before}
use Rattle.pc_lists.proofs.Anywhere.{any_of}
use Rattle.pc_lists.proofs.Lists.{all_from_contains, contains_filter}
use Rattle.pc_proto.specs.declared.meta.TxnMeta.{TxnMeta}
use Rattle.pc_proto.specs.declared.request.Request.{Request}
use Rattle.pc_proto.specs.declared.request.Request.TheVariants as requests
use Rattle.pc_proto.specs.Requests.{is_put, is_put_of}
use Rattle.pc_txn.proofs.Puts.{same_put}
use Rattle.pc_txn.specs.declared.txn.OpenTxn.{OpenTxn}
use Rattle.pc_wave.proofs.Changed.{found_none}
use Rattle.pc_wave.specs.declared.message.Message.{Message}
use Rattle.pc_wave.specs.Standing.{goes_beside, messages_for, messages_of}
use Rattle.pc_world.specs.Known.{Known}
use Rattle.pc_world.specs.Known.Traffic.{Sent}
use Rattle.pc_world.specs.Known.Transactions.{Txn}
use Rattle.pc_world.specs.SameRequest.{IsSameRequest}
use Rattle.pc_world.specs.Tell.Data.{sent_before}
use Rattle.pc_world.specs.Tell.Refusal.{is_heard}

from_not : (b : Bool) → not b ≡ true → b ≡ false
from_not true h = sym h
from_not false h = refl

-- no request that goes with a wave is of one with one that goes beside
pub same_beside : (r q : Request) → goes_beside r ≡ false → goes_beside q ≡ true → IsSameRequest r q → ⊥
same_beside r q own beside (inl e) = let f : false ≡ true = sym own ∙ ap goes_beside e ∙ beside in cc
same_beside (requests.Put meta seq ts key value) (requests.Put to at when place what) own beside (inr put) = absurd cc
same_beside r q own beside (inr put) = put

-- nor is one that is no put of one with a put
pub same_put_only : (r q : Request) → is_put r ≡ false → is_put q ≡ true → IsSameRequest r q → ⊥
same_put_only r q none put (inl e) = let f : false ≡ true = sym none ∙ ap is_put e ∙ put in cc
same_put_only (requests.Put meta seq ts key value) q none put (inr same) = absurd cc
same_put_only r q none put (inr same) = same

-- The call may hear of what is no put only what it sent itself.
pub plain_sent : (b : Bool) (k : Known) (r : Request) → is_put r ≡ false → messages_of b k r ≡ k.sent_now
plain_sent b k r none = ap (λ put. messages_for (put && b) k) none

-- So it is of each request where writes are not pipelined.
pub unpiped_sent : (b : Bool) (k : Known) (r : Request) → b ≡ false → messages_of b k r ≡ k.sent_now
unpiped_sent b k r none = ap (λ p. messages_of p k r) none ∙ by (is_put r)
  where
    by : (put : Bool) → messages_for (put && false) k ≡ k.sent_now
    by true = refl
    by false = refl

-- So what is no put needs no reason to go out, where it was not sent in the call.
pub unsent_plain : (b : Bool) (k : Known) (r : Request) → is_put r ≡ false → All (λ m. IsSameRequest r m.request → ⊥) k.sent_now → All (λ m. IsSameRequest r m.request → ⊥) (messages_of b k r)
unsent_plain b k r none now = subst (λ ms. All (λ m. IsSameRequest r m.request → ⊥) ms) (sym (plain_sent b k r none)) now

module _ (k : Known) (split : IsSplit k) where
  -- what holds of all that was sent in the call, and of all that was sent before and not heard then, holds of all that may be heard in it
  pub all_for_call : (P : Sent → Type 0) → All P k.sent_now → All (λ m. is_heard (heard_before k) m ≡ false → P m) (sent_before k) → All P (sent_for_call k)
  all_for_call P now before =
      let Q : Sent → Type 0 = λ m. is_heard (heard_before k) m ≡ false → P m in
      let all : All Q k.sent =
      subst (λ ms. All Q ms) (sym split.sent) (All-append Q split.sent_first k.sent_now (subst (λ ms. All Q ms) (before_is k split) before) (All-weaker P Q (λ m p none. p) k.sent_now now)) in
      all_from_contains P (sent_for_call k) (λ m there.
      let c = contains_filter (λ m. not (is_heard (heard_before k) m)) k.sent m there in
      All-contains Q k.sent m all c.0 (from_not (is_heard (heard_before k) m) c.1))

  pub all_messages : (b : Bool) (P : Sent → Type 0) → All P k.sent_now → All (λ m. is_heard (heard_before k) m ≡ false → P m) (sent_before k) → All P (messages_for b k)
  all_messages true P now before = all_for_call P now before
  all_messages false P now before = now

  module _ {loses : Bool} (x : OpenTxn) (later : List LaterPut) (messages : List Message) (o : WaitsBeside loses (sent_before k) (heard_before k) k.heard_now k x later messages) where
    -- where nothing is lost, what is none of the puts that were left was not sent for the call, where it was not sent in it
    unsent_by : loses ≡ false → (r : Request) → goes_beside r ≡ false → ((m : Sent) → is_put m.request ≡ true → ((seq : ℕ) → IsTrue (is_put_of o.t.id o.t.epoch seq m.request) → Any (IsSentAs m) later ⊎ Any (IsOnWayAs m) messages ⊎ Any (IsReplyToMessage m) k.heard_now) → IsSameRequest r m.request → ⊥)
        → All (λ m. IsSameRequest r m.request → ⊥) k.sent_now → All (λ m. IsSameRequest r m.request → ⊥) (sent_for_call k)
    unsent_by quiet r own no_put now =
        all_for_call (λ m. IsSameRequest r m.request → ⊥) now
        (All-weaker (IsHeardOrLeft (heard_before k) k.heard_now o.t later messages) (λ m. is_heard (heard_before k) m ≡ false → IsSameRequest r m.request → ⊥) by (sent_before k) (o.left quiet))
      where
        by : (m : Sent) → IsHeardOrLeft (heard_before k) k.heard_now o.t later messages m → is_heard (heard_before k) m ≡ false → IsSameRequest r m.request → ⊥
        by m (inl heard) unheard same = let e : false ≡ true = sym unheard ∙ heard in cc
        by m (inr (inl beside)) unheard same = same_beside r m.request own beside same
        by m (inr (inr left)) unheard same = no_put m left.put left.waits same

    -- the put of a write that does not wait in the outbox needs no reason to go out, where none was sent or replied to in the call
    pub unsent_put : (b : Bool) (meta : TxnMeta) (seq ts : ℕ) (key : List ℕ) (value : Option (List ℕ)) → meta.id ≡ o.t.id → meta.epoch ≡ o.t.epoch → waiting_put seq later ≡ None → messages ≡ []
        → All (λ h. is_put_of o.t.id o.t.epoch seq h.request ≡ false) k.heard_now
        → All (λ m. IsSameRequest (requests.Put meta seq ts key value) m.request → ⊥) k.sent_now
        → All (λ m. IsSameRequest (requests.Put meta seq ts key value) m.request → ⊥) (messages_of (not loses && b) k (requests.Put meta seq ts key value))
    unsent_put b meta seq ts key value id epoch none alone unheard now = either loses refl b
      where
        puts : (m : Sent) → IsSameRequest (requests.Put meta seq ts key value) m.request → is_put_of o.t.id o.t.epoch seq m.request ≡ true
        puts m same = sym (ap (λ i. is_put_of i meta.epoch seq m.request) id ∙ ap (λ e. is_put_of o.t.id e seq m.request) epoch) ∙ same_put meta seq ts key value m.request same

        has_seq : (id : _) (epoch : ℕ) (r : Request) → is_put_of id epoch seq r ≡ true → has_put seq r ≡ true
        has_seq id epoch (requests.Put other at when place what) is = let parts = and_parts (same_txn other.id id) _ is in (and_parts _ _ parts.1).1
        has_seq id epoch r is = absurd cc

        others : (m : Sent) → is_put m.request ≡ true → ((n : ℕ) → IsTrue (is_put_of o.t.id o.t.epoch n m.request) → Any (IsSentAs m) later ⊎ Any (IsOnWayAs m) messages ⊎ Any (IsReplyToMessage m) k.heard_now) → IsSameRequest (requests.Put meta seq ts key value) m.request → ⊥
        others m put waits same = by (waits seq (puts m same))
          where
            by : Any (IsSentAs m) later ⊎ Any (IsOnWayAs m) messages ⊎ Any (IsReplyToMessage m) k.heard_now → ⊥
            by (inl some) =
                let f = any_of (λ put. has_put seq put.request ≡ false) (IsSentAs m) later (found_none (λ put. has_put seq put.request) later none) some in
                let e : false ≡ true = sym f.1 ∙ ap (has_put seq) f.2.asked ∙ has_seq o.t.id o.t.epoch m.request (puts m same) in
                cc
            by (inr (inl way)) = let none = subst (λ ms. Any (IsOnWayAs m) ms) alone way in absurd (omega (arith, none.2))
            by (inr (inr some)) =
                let f = any_of (λ h. is_put_of o.t.id o.t.epoch seq h.request ≡ false) (IsReplyToMessage m) k.heard_now unheard some in
                let e : false ≡ true = sym f.1 ∙ ap (is_put_of o.t.id o.t.epoch seq) f.2.asked ∙ puts m same in
                cc

        either : (l : Bool) → loses ≡ l → (b : Bool) → All (λ m. IsSameRequest (requests.Put meta seq ts key value) m.request → ⊥) (messages_for (not l && b) k)
        either true is b = now
        either false is false = now
        either false is true = unsent_by is (requests.Put meta seq ts key value) refl others now

-- each put that waits does so by itself
pub each_waits : (k : Known) (t : Txn) (x : OpenTxn) (later : List LaterPut) → OutboxStands k t x later → All (WaitsInOutbox k t x) later
each_waits k t x [] o = All-nil (WaitsInOutbox k t x)
each_waits k t x (put ∷ puts) o = All-cons (WaitsInOutbox k t x) put puts o.0 (each_waits k t x puts o.2)
