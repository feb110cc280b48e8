-- The puts that wait in the outbox wait on beside what their session sends, hears and tells.
use Rattle.std.proofs.Common.{◌≡◌, ◌≢◌, ℕ, zero, suc, ◌+◌, ◌-◌, ◌≤◌, ◌==◌, Bool, true, false, ◌||◌, ◌⊎◌, inl, inr, List, [], ◌∷◌, ◌++◌, length, take, Some, refl, sym, ap, ◌∙◌, subst, arith, All, Any, Contains, IsTrue, length-append}
use Rattle.std.proofs.lemmas.Bool.{and_parts, eq-eqb}
use Rattle.std.proofs.lemmas.List.{take-append-le}
use Rattle.std.proofs.lemmas.List.Elements.{All-append, All-cons, All-head, All-nil, All-tail, All-weaker}
use Rattle.pc_base.specs.declared.transaction.TxnId.{TxnId}
use Rattle.pc_base.specs.Transaction.{same_txn}
use Rattle.pc_call.specs.declared.later.LaterPut.{LaterPut}
use Rattle.pc_call.specs.Outbox.{IsHeardOrLeft, IsOnWayAs, IsReplyToMessage, IsSentAs, IsThePut, OutboxStands, WaitsInOutbox, has_put}
use Rattle.pc_call.specs.Stages.{HasOutbox, HasOutboxBetween, KeepsOutbox}
use Rattle.pc_flight.specs.declared.write.WriteInFlight.{WriteInFlight}
use Rattle.pc_follows.specs.PipelinedPuts.{heard_before}
use Rattle.pc_lists.proofs.Anywhere.{any_kept}
use Rattle.pc_lists.proofs.Lists.{all_from_contains}
use Rattle.pc_proto.specs.declared.request.Request.{Request}
use Rattle.pc_proto.specs.declared.request.Request.TheVariants as requests
use Rattle.pc_proto.specs.Requests.{is_put, is_put_of}
use Rattle.pc_txn.specs.declared.txn.OpenTxn.{OpenTxn}
use Rattle.pc_txn.specs.Opened.{meta_now, put_at}
use Rattle.pc_txn.specs.Writing.{WasAskedAt}
use Rattle.pc_wave.proofs.ForCall.{same_before}
use Rattle.pc_wave.proofs.Standings.{said_kept}
use Rattle.pc_wave.specs.declared.message.Message.{Message}
use Rattle.pc_wave.specs.Messages.{awaits_at, wave_awaits}
use Rattle.pc_wave.specs.Standing.{HasMore, goes_beside}
use Rattle.pc_world.specs.Known.{Known, open_txn}
use Rattle.pc_world.specs.Known.Traffic.{Heard, Sent, request_sent}
use Rattle.pc_world.specs.Known.Transactions.{Txn}
use Rattle.pc_world.specs.Tell.Data.{sent_before}
use Rattle.pc_world.specs.Tell.Refusal.{is_heard}

-- ---- requests that put

pub no_put : (seq : ℕ) (r : Request) → is_put r ≡ false → has_put seq r ≡ false
no_put seq (requests.Put meta own ts key value) none = absurd cc
no_put seq r none = refl

pub put_has : (id : TxnId) (epoch seq : ℕ) (r : Request) → IsTrue (is_put_of id epoch seq r) → has_put seq r ≡ true
put_has id epoch seq (requests.Put meta at ts key value) is = let parts = and_parts (same_txn meta.id id) _ is in (and_parts _ _ parts.1).1
put_has id epoch seq r is = absurd cc

pub has_own : (x : OpenTxn) (anchor : List ℕ) (ts : ℕ) (w : WriteInFlight) (r : Request) → r ≡ put_at x anchor ts w → has_put w.seq r ≡ true
has_own x anchor ts w r said = ap (has_put w.seq) said ∙ eq-eqb w.seq w.seq refl

beside_no_put : (r : Request) → goes_beside r ≡ true → is_put r ≡ false
beside_no_put (requests.Put meta seq ts key value) is = absurd cc
beside_no_put r is = refl

-- ---- lists

pub any_to : {X : Type 0} (P : X → Type 0) (R : Type 0) (xs : List X) → ((x : X) → Contains xs x → P x → R) → Any P xs → R
any_to P R xs on (n, x, low, same, p) = on x (n, low, same) p

pub awaits_in : (number : ℕ) (ms : List Message) (m : Message) → Contains ms m → awaits_at number m ≡ true → wave_awaits number ms ≡ true
awaits_in number [] m (n, low, same) is = absurd (omega (arith, low))
awaits_in number (q ∷ ms) m (zero, low, same) is = ap (λ b. b || wave_awaits number ms) (ap (awaits_at number) same ∙ is)
awaits_in number (q ∷ ms) m (suc n, low, same) is = or_right (awaits_at number q) (wave_awaits number ms) (awaits_in number ms m (n, omega (arith, low), same) is)
  where
    or_right : (a b : Bool) → b ≡ true → (a || b) ≡ true
    or_right true b e = refl
    or_right false b e = e

-- ---- the puts that wait

stands_by : (k k2 : Known) (t t2 : Txn) (x x2 : OpenTxn) (later : List LaterPut) → All (λ put. WaitsInOutbox k t x put → WaitsInOutbox k2 t2 x2 put) later → OutboxStands k t x later → OutboxStands k2 t2 x2 later
stands_by k k2 t t2 x x2 [] on st = tt
stands_by k k2 t t2 x x2 (put ∷ puts) on st =
    let P : LaterPut → Type 0 = λ put. WaitsInOutbox k t x put → WaitsInOutbox k2 t2 x2 put in
    (All-head P put puts on st.0, st.1, stands_by k k2 t t2 x x2 puts (All-tail P put puts on) st.2)

-- The transaction goes on as this other one, as far as its puts that wait are concerned.
pub record GoesOnAs (t t2 : Txn) (x x2 : OpenTxn) : Type 0 where
  pub id : t2.id ≡ t.id
  pub epoch : t2.epoch ≡ t.epoch
  pub anchored : (anchor : List ℕ) → t.anchor ≡ Some anchor → t2.anchor ≡ Some anchor
  pub up : t.write_ts ≤ t2.write_ts
  pub asked : (seq ts : ℕ) → WasAskedAt t seq ts → WasAskedAt t2 seq ts
  pub meta : (anchor : List ℕ) → meta_now x2 anchor ≡ meta_now x anchor

pub same_on : (t : Txn) (x : OpenTxn) → GoesOnAs t t x x
same_on t x = record { id = refl; epoch = refl; anchored = λ anchor is. is; up = omega arith; asked = λ seq ts is. is; meta = λ anchor. refl }

put_as : (t t2 : Txn) (seq : ℕ) (r : Request) → t2.id ≡ t.id → t2.epoch ≡ t.epoch → IsTrue (is_put_of t2.id t2.epoch seq r) → IsTrue (is_put_of t.id t.epoch seq r)
put_as t t2 seq r id epoch is = subst (λ e. IsTrue (is_put_of t.id e seq r)) epoch (subst (λ i. IsTrue (is_put_of i t2.epoch seq r)) id is)

module _ (k k2 : Known) (sent_more : List Sent) (heard_more : List Heard) (sent : k2.sent ≡ k.sent ++ sent_more) (heard : k2.heard ≡ k.heard ++ heard_more) (t t2 : Txn) (x x2 : OpenTxn) (on : GoesOnAs t t2 x x2) where
  -- a put waits on, where none of its write went out again, and no reply to it was heard
  pub waits_more : (put : LaterPut) (o : WaitsInOutbox k t x put) → Contains x2.in_flight o.w → All (λ m. has_put o.w.seq m.request ≡ false) sent_more → All (λ h. (h.number ≢ put.number) × (has_put o.w.seq h.request ≡ false)) heard_more
      → WaitsInOutbox k2 t2 x2 put
  waits_more put o there none replied =
      let P : Sent → Type 0 = IsThePut t2 o.w.seq put in
      let Q : Heard → Type 0 = λ h. h.number ≢ put.number in
      let U : Heard → Type 0 = λ h. IsTrue (is_put_of t2.id t2.epoch o.w.seq h.request) → ⊥ in
      record {
        w = o.w;
        there = there;
        anchor = o.anchor;
        anchored = on.anchored o.anchor o.anchored;
        ts = o.ts;
        said = o.said ∙ sym (ap (λ meta. requests.Put meta o.w.seq o.ts o.w.key o.w.value) (on.meta o.anchor));
        low = omega (arith, o.low, on.up);
        asked = on.asked o.w.seq o.ts o.asked;
        numbered = omega (arith, o.numbered, ap length sent, length-append k.sent sent_more);
        sent = subst (λ ms. request_sent put.number ms ≡ Some put.request) (sym sent) (said_kept put.number put.request k.sent sent_more o.sent);
        once = subst (λ ms. All P ms) (sym sent)
            (All-append P k.sent sent_more (All-weaker (IsThePut t o.w.seq put) P (λ m once is. once (put_as t t2 o.w.seq m.request on.id on.epoch is)) k.sent o.once)
            (All-weaker (λ m. has_put o.w.seq m.request ≡ false) P (λ m none is. let e : false ≡ true = sym none ∙ put_has t2.id t2.epoch o.w.seq m.request is in absurd cc) sent_more none));
        unheard = subst (λ hs. All Q hs) (sym heard) (All-append Q k.heard heard_more o.unheard (All-weaker (λ h. Q h × (has_put o.w.seq h.request ≡ false)) Q (λ h both. both.0) heard_more replied));
        unput = subst (λ hs. All U hs) (sym heard)
            (All-append U k.heard heard_more (All-weaker (λ h. IsTrue (is_put_of t.id t.epoch o.w.seq h.request) → ⊥) U (λ h none is. none (put_as t t2 o.w.seq h.request on.id on.epoch is)) k.heard o.unput)
            (All-weaker (λ h. Q h × (has_put o.w.seq h.request ≡ false)) U (λ h both is. let e : false ≡ true = sym both.1 ∙ put_has t2.id t2.epoch o.w.seq h.request is in absurd cc) heard_more replied));
      }

  -- so do all
  pub all_wait : (later : List LaterPut) → OutboxStands k t x later
      → All (λ put. (o : WaitsInOutbox k t x put) → Contains x2.in_flight o.w × All (λ m. has_put o.w.seq m.request ≡ false) sent_more × All (λ h. (h.number ≢ put.number) × (has_put o.w.seq h.request ≡ false)) heard_more) later
      → OutboxStands k2 t2 x2 later
  all_wait later st each =
      stands_by k k2 t t2 x x2 later
      (All-weaker (λ put. (o : WaitsInOutbox k t x put) → Contains x2.in_flight o.w × All (λ m. has_put o.w.seq m.request ≡ false) sent_more × All (λ h. (h.number ≢ put.number) × (has_put o.w.seq h.request ≡ false)) heard_more)
      (λ put. WaitsInOutbox k t x put → WaitsInOutbox k2 t2 x2 put) (λ put on o. let f = on o in waits_more put o f.0 f.1 f.2) later each) st

-- ---- what was sent

module _ (t t2 : Txn) (id : t2.id ≡ t.id) (epoch : t2.epoch ≡ t.epoch) (before before2 since since2 : List Heard) (later : List LaterPut) (ms ms2 : List Message)
    (was : (m : Sent) → IsTrue (is_heard before m) → IsTrue (is_heard before2 m)) (replied : (m : Sent) → Any (IsReplyToMessage m) since → Any (IsReplyToMessage m) since2)
    (way : (m : Sent) (q : Message) → Contains ms q → IsOnWayAs m q → Any (IsOnWayAs m) ms2 ⊎ Any (IsReplyToMessage m) since2) where
  left_one : (m : Sent) → IsHeardOrLeft before since t later ms m → IsHeardOrLeft before2 since2 t2 later ms2 m
  left_one m (inl heard) = inl (was m heard)
  left_one m (inr (inl beside)) = inr (inl beside)
  left_one m (inr (inr l)) = inr (inr (record { put = l.put; waits = λ seq is. by (l.waits seq (put_as t t2 seq m.request id epoch is)) }))
    where
      by : Any (IsSentAs m) later ⊎ Any (IsOnWayAs m) ms ⊎ Any (IsReplyToMessage m) since → Any (IsSentAs m) later ⊎ Any (IsOnWayAs m) ms2 ⊎ Any (IsReplyToMessage m) since2
      by (inl waits) = inl waits
      by (inr (inl out)) = inr (any_to (IsOnWayAs m) (Any (IsOnWayAs m) ms2 ⊎ Any (IsReplyToMessage m) since2) ms (λ q there on. way m q there on) out)
      by (inr (inr heard)) = inr (inr (replied m heard))

  -- what was sent is left as it was
  pub left_on : (sent : List Sent) → All (IsHeardOrLeft before since t later ms) sent → All (IsHeardOrLeft before2 since2 t2 later ms2) sent
  left_on sent a = All-weaker (IsHeardOrLeft before since t later ms) (IsHeardOrLeft before2 since2 t2 later ms2) left_one sent a

-- what was sent before the call is the same, as more is sent in it
pub same_sent : (k k2 : Known) (sent_more : List Sent) → k2.sent ≡ k.sent ++ sent_more → k2.sent_now ≡ k.sent_now ++ sent_more → sent_before k2 ≡ sent_before k
same_sent k k2 sent_more sent now =
    let one : length k2.sent ≡ length k.sent + length sent_more = ap length sent ∙ length-append k.sent sent_more in
    let two : length k2.sent_now ≡ length k.sent_now + length sent_more = ap length now ∙ length-append k.sent_now sent_more in
    let same : length k2.sent - length k2.sent_now ≡ length k.sent - length k.sent_now = omega (arith, one, two) in
    let low : length k.sent - length k.sent_now ≤ length k.sent = omega arith in
    ap (λ n. take n k2.sent) same ∙ ap (take (length k.sent - length k.sent_now)) sent ∙ take-append-le (length k.sent - length k.sent_now) k.sent sent_more low

-- where no reply to these messages is waited for, none is on its way
pub keeps_idle : {l : Bool} (k : Known) (x : OpenTxn) (later : List LaterPut) (ms : List Message) → KeepsOutbox l k x later ms → ((number : ℕ) → wave_awaits number ms ≡ false) → HasOutbox l k x later
keeps_idle k x later ms o idle = record {
  t = o.has.t;
  opened = o.has.opened;
  stands = o.has.stands;
  left = λ quiet.
      left_on o.has.t o.has.t refl refl (heard_before k) (heard_before k) k.heard_now k.heard_now later ms [] (λ m is. is) (λ m is. is)
      (λ m q there on. let e : false ≡ true = sym (idle m.number) ∙ awaits_in m.number ms q there on.waited in absurd cc) (sent_before k) (o.has.left quiet);
}

-- ---- messages beside

module _ (k k2 : Known) (sent_more : List Sent) (heard_more : List Heard) (more : HasMore k k2 sent_more heard_more) (t : Txn) (x : OpenTxn) (later : List LaterPut)
    (no_sent : All (λ m. is_put m.request ≡ false) sent_more) (no_heard : All (λ h. is_put h.request ≡ false) heard_more) (new : All (λ h. length k.sent + 1 ≤ h.number) heard_more) where
  both : (n : ℕ) (hs : List Heard) → n ≤ length k.sent → All (λ h. is_put h.request ≡ false) hs → All (λ h. length k.sent + 1 ≤ h.number) hs → (seq : ℕ) → All (λ h. (h.number ≢ n) × (has_put seq h.request ≡ false)) hs
  both n [] low none later seq = All-nil (λ h. (h.number ≢ n) × (has_put seq h.request ≡ false))
  both n (h ∷ hs) low none later seq =
      let high = All-head (λ h. length k.sent + 1 ≤ h.number) h hs later in
      All-cons (λ h. (h.number ≢ n) × (has_put seq h.request ≡ false)) h hs ((λ same. omega (arith, low, high, same)), no_put seq h.request (All-head (λ h. is_put h.request ≡ false) h hs none))
      (both n hs low (All-tail (λ h. is_put h.request ≡ false) h hs none) (All-tail (λ h. length k.sent + 1 ≤ h.number) h hs later) seq)

  -- puts wait on beside messages that put nothing
  pub wait_beside : OutboxStands k t x later → OutboxStands k2 t x later
  wait_beside st =
      all_wait k k2 sent_more heard_more more.sent more.heard t t x x (same_on t x) later st
      (all_from_contains (λ put. (o : WaitsInOutbox k t x put) → Contains x.in_flight o.w × All (λ m. has_put o.w.seq m.request ≡ false) sent_more × All (λ h. (h.number ≢ put.number) × (has_put o.w.seq h.request ≡ false)) heard_more) later
      (λ put there o. (
        o.there,
        All-weaker (λ m. is_put m.request ≡ false) (λ m. has_put o.w.seq m.request ≡ false) (λ m none. no_put o.w.seq m.request none) sent_more no_sent,
        both put.number heard_more o.numbered no_heard new o.w.seq,
      )))

-- beside an open call
pub keeps_beside : {l : Bool} (k k2 : Known) (sent_more : List Sent) (heard_more : List Heard) → HasMore k k2 sent_more heard_more → open_txn k2 ≡ open_txn k → (x : OpenTxn) (later : List LaterPut) (ms : List Message)
    → All (λ m. goes_beside m.request ≡ true) sent_more → All (λ h. goes_beside h.request ≡ true) heard_more → All (λ h. length k.sent + 1 ≤ h.number) heard_more → KeepsOutbox l k x later ms → KeepsOutbox l k2 x later ms
keeps_beside k k2 sent_more heard_more more opened x later ms sent heard new o = record {
  has = record {
    t = o.has.t;
    opened = opened ∙ o.has.opened;
    stands =
        wait_beside k k2 sent_more heard_more more o.has.t x later (All-weaker (λ m. goes_beside m.request ≡ true) (λ m. is_put m.request ≡ false) (λ m is. beside_no_put m.request is) sent_more sent)
        (All-weaker (λ h. goes_beside h.request ≡ true) (λ h. is_put h.request ≡ false) (λ h is. beside_no_put h.request is) heard_more heard) new o.has.stands;
    left = λ quiet.
        let same = same_before k k2 sent_more heard_more more in
        let kept : (m : Sent) → Any (IsReplyToMessage m) k.heard_now → Any (IsReplyToMessage m) k2.heard_now = λ m some. subst (λ hs. Any (IsReplyToMessage m) hs) (sym more.heard_now) (any_kept (IsReplyToMessage m) k.heard_now heard_more some) in
        subst (λ ms0. All (IsHeardOrLeft (heard_before k2) k2.heard_now o.has.t later ms) ms0) (sym (same_sent k k2 sent_more more.sent more.sent_now))
        (left_on o.has.t o.has.t refl refl (heard_before k) (heard_before k2) k.heard_now k2.heard_now later ms ms (λ m is. subst (λ hs. IsTrue (is_heard hs m)) (sym same) is) kept
        (λ m q there on. inl (there.0, q, there.1, there.2, on)) (sent_before k) (o.has.left quiet));
  };
  apart = o.apart;
}

heard_more_still : (m : Sent) (hs more : List Heard) → IsTrue (is_heard hs m) → IsTrue (is_heard (hs ++ more) m)
heard_more_still m [] more is = absurd cc
heard_more_still m (h ∷ hs) more is = by (h.number == m.number) (heard_more_still m hs more) is
  where
    by : (b : Bool) → (IsTrue (is_heard hs m) → IsTrue (is_heard (hs ++ more) m)) → IsTrue (b || is_heard hs m) → IsTrue (b || is_heard (hs ++ more) m)
    by true on is = refl
    by false on is = on is

pub still_heard : (m : Sent) (hs more hs2 : List Heard) → hs2 ≡ hs ++ more → IsTrue (is_heard hs m) → IsTrue (is_heard hs2 m)
still_heard m hs more hs2 is heard = subst (λ hs. IsTrue (is_heard hs m)) (sym is) (heard_more_still m hs more heard)

-- and between calls, where a message that does not go beside was heard
pub between_beside : {l : Bool} (k k2 : Known) (sent_more : List Sent) (heard_more : List Heard) → HasMore k k2 sent_more heard_more → open_txn k2 ≡ open_txn k → (x : OpenTxn) (later : List LaterPut)
    → All (λ m. is_put m.request ≡ false) sent_more → All (λ h. is_put h.request ≡ false) heard_more → All (λ h. length k.sent + 1 ≤ h.number) heard_more
    → (l ≡ false → All (λ m. (goes_beside m.request ≡ true) ⊎ IsTrue (is_heard k2.heard m)) sent_more) → HasOutboxBetween l k x later → HasOutboxBetween l k2 x later
between_beside k k2 sent_more heard_more more opened x later sent heard new done o = record {
  t = o.t;
  opened = opened ∙ o.opened;
  stands = wait_beside k k2 sent_more heard_more more o.t x later sent heard new o.stands;
  left = λ quiet.
      let P : Sent → Type 0 = IsHeardOrLeft k2.heard [] o.t later [] in
      subst (λ ms. All P ms) (sym more.sent)
      (All-append P k.sent sent_more
      (left_on o.t o.t refl refl k.heard k2.heard [] [] later [] [] (λ m is. still_heard m k.heard heard_more k2.heard more.heard is) (λ m is. is) (λ m q there on. absurd (omega (arith, there.1))) k.sent (o.left quiet))
      (All-weaker (λ m. (goes_beside m.request ≡ true) ⊎ IsTrue (is_heard k2.heard m)) P (λ m is. elim is [ inl beside ↦ inr (inl beside) | inr was ↦ inl was ]) sent_more (done quiet)));
}
