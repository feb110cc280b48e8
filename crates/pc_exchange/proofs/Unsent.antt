-- What a session sent before its call, and for which writes the call waits, is as it was once messages that are no puts were sent.
use Rattle.std.proofs.Common.{◌≡◌, ℕ, zero, suc, ◌+◌, ◌-◌, ◌≤◌, ◌&&◌, true, false, not, inl, inr, All, Any, IsTrue, List, [], ◌∷◌, ◌++◌, length, take, count_by, Option, Some, refl, sym, ap, ◌∙◌, subst, arith, length-append}
use Rattle.std.proofs.lemmas.List.Elements.{All-weaker}
use Rattle.std.specs.List.{list_any}
use Rattle.pc_base.specs.declared.limits.TheConstants.{MOST_IN_FLIGHT}
use Rattle.pc_exchange.proofs.Lists.{any_front}
use Rattle.pc_follows.specs.PipelinedPuts.{IsFull, IsPutWaitedFor, WaitsFor, heard_before, proves}
use Rattle.pc_follows.specs.Proving.{HasSentOwn, IsAwaitedPut}
use Rattle.pc_proto.specs.declared.call.Call.{Call}
use Rattle.pc_proto.specs.declared.call.Call.TheVariants as calls
use Rattle.pc_proto.specs.declared.request.Request.{Request}
use Rattle.pc_proto.specs.declared.request.Request.TheVariants as requests
use Rattle.pc_proto.specs.Requests.{is_put, is_put_of}
use Rattle.pc_world.specs.Known.{Known, open_txn}
use Rattle.pc_world.specs.Known.Statements.{Statement}
use Rattle.pc_world.specs.Known.Traffic.{Heard, Sent}
use Rattle.pc_world.specs.Known.Transactions.{Txn}
use Rattle.pc_world.specs.Known.Writes.{Write}
use Rattle.pc_world.specs.Tell.Data.{IsFirstPut, IsPutFor, sent_before}

take-front : {X : Type 0} (n : ℕ) (xs more : List X) → n ≤ length xs → take n (xs ++ more) ≡ take n xs
take-front zero xs more low = refl
take-front (suc n) [] more low = absurd (omega (arith, low))
take-front (suc n) (x ∷ xs) more low = ap (λ l. x ∷ l) (take-front n xs more (omega (arith, low)))

-- what stands before the last ones is as before, where both grow by the same
pub first-same : {X : Type 0} (all now all_later now_later more : List X) → all_later ≡ all ++ more → now_later ≡ now ++ more → take (length all_later - length now_later) all_later ≡ take (length all - length now) all
first-same all now all_later now_later more longer longer_now =
    let a : length all_later ≡ length all + length more = ap length longer ∙ length-append all more in
    let b : length now_later ≡ length now + length more = ap length longer_now ∙ length-append now more in
    let n : length all_later - length now_later ≡ length all - length now = omega (arith, a, b) in
    ap (λ i. take i all_later) n ∙ (ap (take (length all - length now)) longer ∙ take-front (length all - length now) all more (omega arith))

put-is : (t : Txn) (key : List ℕ) (value : Option (List ℕ)) (seq : ℕ) (request : Request) → is_put request ≡ false → IsPutFor t key value seq request → ⊥
put-is t key value seq (requests.Put meta at ts other what) none is = absurd cc
put-is t key value seq request none is = is

put-of : (t : Txn) (seq : ℕ) (request : Request) → is_put request ≡ false → IsTrue (is_put_of t.id t.epoch seq request) → ⊥
put-of t seq (requests.Put meta at ts other what) none is = absurd cc
put-of t seq request none is = let e : false ≡ true = is in cc e

any-weaker : {X : Type 0} (P Q : X → Type 0) → ((x : X) → P x → Q x) → (xs : List X) → Any P xs → Any Q xs
any-weaker P Q on xs (n, x, there, is, p) = (n, x, there, is, on x p)

module _ (k later : Known) (sent_more : List Sent) (sent : later.sent ≡ k.sent ++ sent_more) (sent_now : later.sent_now ≡ k.sent_now ++ sent_more) (plain : All (λ m. is_put m.request ≡ false) sent_more) (statement : later.statement ≡ k.statement)
    (opened : (s : Statement) → k.statement ≡ Some s → open_txn later ≡ open_txn k) where
  pub before_same : sent_before later ≡ sent_before k
  before_same = first-same k.sent k.sent_now later.sent later.sent_now sent_more sent sent_now

  -- the call's own write was sent before, if it was
  pub own_before : HasSentOwn later → HasSentOwn k
  own_before own =
      let s = own.0 in
      let t = own.1 in
      let asked : k.statement ≡ Some s = sym statement ∙ own.2 in
      let P : Sent → Type 0 = IsFirstPut later s t in
      let front : Any P k.sent_now =
      any_front P k.sent_now sent_more (subst (Any P) sent_now own.4) (All-weaker (λ (m : Sent). is_put m.request ≡ false) (λ m. P m → ⊥) (λ m none first. put-is t first.key first.value first.seq m.request none first.put) sent_more plain) in (
        s,
        t,
        asked,
        sym (opened s asked) ∙ own.3,
        any-weaker P (IsFirstPut k s t) (λ m first. record {
          seq = first.seq;
          key = first.key;
          value = first.value;
          asked = first.asked;
          put = first.put;
          first = subst (λ before. IsTrue (not (list_any (λ (other : Sent). is_put_of t.id t.epoch first.seq other.request) before))) before_same first.first;
        }) k.sent_now front,
      )

  module _ (heard_more : List Heard) (heard : later.heard ≡ k.heard ++ heard_more) (heard_now : later.heard_now ≡ k.heard_now ++ heard_more) where
    heard-same : heard_before later ≡ heard_before k
    heard-same = first-same k.heard k.heard_now later.heard later.heard_now heard_more heard heard_now

    full_before : (s : Statement) → k.statement ≡ Some s → IsFull later → IsFull k
    full_before s asked full =
        let t = full.0 in
        let F : List Sent → List Heard → Type 0 = λ ms hs. MOST_IN_FLIGHT ≤ count_by (λ (w : Write). list_any (λ (m : Sent). is_put_of t.id t.epoch w.seq m.request) ms && not (list_any (proves t w) hs)) t.writes in
        (t, sym (opened s asked) ∙ full.1, subst (λ hs. F (sent_before k) hs) heard-same (subst (λ ms. F ms (heard_before later)) before_same full.2))

    waits_before : (s : Statement) → k.statement ≡ Some s → (key : List ℕ) (call : Call) → WaitsFor later key call → WaitsFor k key call
    waits_before s asked key (calls.Get own) waits = waits
    waits_before s asked key (calls.Scan span) waits = waits
    waits_before s asked key (calls.Put own value) (inl is) = inl is
    waits_before s asked key (calls.Put own value) (inr full) = inr (full_before s asked full)
    waits_before s asked key (calls.Delete own) (inl is) = inl is
    waits_before s asked key (calls.Delete own) (inr full) = inr (full_before s asked full)
    waits_before s asked key call waits = tt

    put_waits_before : (s : Statement) → k.statement ≡ Some s → (call : Call) (request : Request) → IsPutWaitedFor later call request → IsPutWaitedFor k call request
    put_waits_before s asked call (requests.Put meta seq ts key value) waits = waits_before s asked key call waits
    put_waits_before s asked call request waits = tt

    -- for what the call waits it waited before
    pub awaited_before : (request : Request) → IsAwaitedPut later request → IsAwaitedPut k request
    awaited_before request is =
        let asked : k.statement ≡ Some is.s = sym statement ∙ is.asked in
        record {
          s = is.s;
          t = is.t;
          seq = is.seq;
          asked = asked;
          opened = sym (opened is.s asked) ∙ is.opened;
          put = is.put;
          may_wait = is.may_wait;
          waits = put_waits_before is.s asked is.s.call request is.waits;
        }

-- it is a put
pub awaited_put : (k : Known) (request : Request) → is_put request ≡ false → IsAwaitedPut k request → ⊥
awaited_put k request none is = put-of is.t is.seq request none is.put
