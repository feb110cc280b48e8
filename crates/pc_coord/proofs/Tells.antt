-- The outbox once a call was asked, and once it was told its answer.
use Rattle.std.proofs.Common.{◌≡◌, ℕ, zero, suc, ◌+◌, ◌-◌, ◌≤◌, ◌==◌, Bool, true, false, cond, ◌||◌, ◌⊎◌, inl, inr, List, [], ◌∷◌, ◌++◌, length, take, Some, refl, sym, ap, ◌∙◌, subst, arith, All, Any, Contains, IsTrue, length-append}
use Rattle.std.proofs.Math.Seq.{take-append_seam}
use Rattle.std.proofs.lemmas.Bool.{and_parts, eq-eqb, eqb-true}
use Rattle.std.proofs.lemmas.List.{append-nil}
use Rattle.std.proofs.lemmas.List.Elements.{All-append, All-cons, All-head, All-nil, All-tail, All-weaker}
use Rattle.std.proofs.lemmas.Option.{same_Some}
use Rattle.pc_base.specs.declared.transaction.TxnId.{TxnId}
use Rattle.pc_base.specs.Transaction.{same_txn}
use Rattle.pc_call.proofs.Facts.{before_is}
use Rattle.pc_call.specs.declared.later.LaterPut.{LaterPut}
use Rattle.pc_call.specs.Learned.{known_asked, known_told}
use Rattle.pc_call.specs.Outbox.{IsHeardOrLeft, IsOnWayAs, IsReplyToMessage, IsSentAs, WaitsInOutbox, has_put}
use Rattle.pc_call.specs.Serving.{IsSplit}
use Rattle.pc_call.specs.Stages.{HasOutboxBetween}
use Rattle.pc_coord.proofs.Aside.{StaysInFlight}
use Rattle.pc_coord.proofs.Outbox.{GoesOnAs, all_wait, left_on, still_heard}
use Rattle.pc_coord.specs.Aside.{HasAside, IsHeardOrOut}
use Rattle.pc_coord.specs.Knows.{IsHeardBesideOrPut, AreAllHeard}
use Rattle.pc_follows.specs.PipelinedPuts.{heard_before}
use Rattle.pc_lists.proofs.Lists.{all_from_contains}
use Rattle.pc_lists.proofs.Same.{same_txn-is}
use Rattle.pc_proto.specs.declared.answer.Answer.{Answer}
use Rattle.pc_proto.specs.declared.answer.Answer.TheVariants as answers
use Rattle.pc_proto.specs.declared.call.Call.{Call}
use Rattle.pc_proto.specs.declared.request.Request.{Request}
use Rattle.pc_proto.specs.declared.request.Request.TheVariants as requests
use Rattle.pc_proto.specs.Requests.{is_put_of}
use Rattle.pc_txn.specs.Counted.{IsOwnSent, IsOwnWrite}
use Rattle.pc_txn.specs.declared.txn.OpenTxn.{OpenTxn}
use Rattle.pc_txn.specs.Opened.{meta_now}
use Rattle.pc_txn.specs.Standing.{is_query_of}
use Rattle.pc_txn.specs.Writing.{PutsUpTo}
use Rattle.pc_wave.specs.Standing.{goes_beside}
use Rattle.pc_world.specs.Known.{Known, first_if, open_txn, told_first}
use Rattle.pc_world.specs.Known.Traffic.{Heard, Sent, replies_to}
use Rattle.pc_world.specs.Known.Transactions.{Txn, txn_told}
use Rattle.pc_world.specs.Known.Writes.{last_seq_of}
use Rattle.pc_world.specs.Tell.Data.{sent_before}
use Rattle.pc_world.specs.Tell.Refusal.{is_heard}

-- The answer leaves the transaction open, in its epoch.
abbrev pub IsStaying : Answer → Type 0
IsStaying (answers.Value value) = Unit {0}
IsStaying (answers.Rows rows) = Unit {0}
IsStaying answers.Written = Unit {0}
IsStaying (answers.Blocked holder) = Unit {0}
IsStaying (answers.Unavailable faults) = Unit {0}
IsStaying (answers.Moved ts) = Unit {0}
IsStaying answer = ⊥

pub told_opened : (b : Bool) (answer : Answer) (replied : List Heard) (ts : List Txn) (t : Txn) → first_if b ts ≡ Some t → first_if b (cond b (told_first answer replied ts) ts) ≡ Some (txn_told answer replied t)
told_opened true answer replied [] t e = absurd cc
told_opened true answer replied (u ∷ ts) t e = ap (λ t. Some (txn_told answer replied t)) (same_Some u t e)
told_opened false answer replied [] t e = absurd cc
told_opened false answer replied (u ∷ ts) t e = absurd cc

-- the transaction is the open one still
pub told_open : (answer : Answer) (k : Known) (t : Txn) → IsStaying answer → open_txn k ≡ Some t → open_txn (known_told answer k) ≡ Some (txn_told answer (replies_to k.sent_now k.heard_now) t)
told_open (answers.Value value) k t is e = told_opened k.is_open (answers.Value value) (replies_to k.sent_now k.heard_now) k.txns t e
told_open (answers.Rows rows) k t is e = told_opened k.is_open (answers.Rows rows) (replies_to k.sent_now k.heard_now) k.txns t e
told_open answers.Written k t is e = told_opened k.is_open answers.Written (replies_to k.sent_now k.heard_now) k.txns t e
told_open (answers.Blocked holder) k t is e = told_opened k.is_open (answers.Blocked holder) (replies_to k.sent_now k.heard_now) k.txns t e
told_open (answers.Unavailable faults) k t is e = told_opened k.is_open (answers.Unavailable faults) (replies_to k.sent_now k.heard_now) k.txns t e
told_open (answers.Moved ts) k t is e = told_opened k.is_open (answers.Moved ts) (replies_to k.sent_now k.heard_now) k.txns t e
told_open answer k t is e = absurd is

-- and goes on
pub told_on : (answer : Answer) (replied : List Heard) (t : Txn) (x x2 : OpenTxn) → IsStaying answer → ((anchor : List ℕ) → meta_now x2 anchor ≡ meta_now x anchor) → GoesOnAs t (txn_told answer replied t) x x2
told_on (answers.Value value) replied t x x2 is meta = record { id = refl; epoch = refl; anchored = λ anchor is. is; up = omega arith; asked = λ seq ts is. is; meta = meta }
told_on (answers.Rows rows) replied t x x2 is meta = record { id = refl; epoch = refl; anchored = λ anchor is. is; up = omega arith; asked = λ seq ts is. is; meta = meta }
told_on answers.Written replied t x x2 is meta = record { id = refl; epoch = refl; anchored = λ anchor is. is; up = omega arith; asked = λ seq ts is. is; meta = meta }
told_on (answers.Blocked holder) replied t x x2 is meta = record { id = refl; epoch = refl; anchored = λ anchor is. is; up = omega arith; asked = λ seq ts is. is; meta = meta }
told_on (answers.Unavailable faults) replied t x x2 is meta = record { id = refl; epoch = refl; anchored = λ anchor is. is; up = omega arith; asked = λ seq ts is. is; meta = meta }
told_on (answers.Moved ts) replied t x x2 is meta = record { id = refl; epoch = refl; anchored = λ anchor is. is; up = omega arith; asked = λ seq ts is. is; meta = meta }
told_on answer replied t x x2 is meta = absurd is

-- ---- what was sent, once the call is over

pub before_heard_is : (k : Known) (s : IsSplit k) → heard_before k ≡ s.heard_first
before_heard_is k s =
    let n : length k.heard - length k.heard_now ≡ length s.heard_first = omega (arith, ap length s.heard, length-append s.heard_first k.heard_now) in
    ap (λ n. take n k.heard) n ∙ ap (take (length s.heard_first)) s.heard ∙ take-append_seam s.heard_first k.heard_now

heard_front : (m : Sent) (xs ys : List Heard) → IsTrue (is_heard ys m) → IsTrue (is_heard (xs ++ ys) m)
heard_front m [] ys is = is
heard_front m (h ∷ xs) ys is = by (h.number == m.number) (heard_front m xs ys is)
  where
    by : (b : Bool) → IsTrue (is_heard (xs ++ ys) m) → IsTrue (b || is_heard (xs ++ ys) m)
    by true is = refl
    by false is = is

pub any_is_heard : (m : Sent) (hs : List Heard) → Any (IsReplyToMessage m) hs → IsTrue (is_heard hs m)
any_is_heard m [] (n, h, low, same, r) = absurd (omega (arith, low))
any_is_heard m (g ∷ hs) (zero, h, low, same, r) = ap (λ b. b || is_heard hs m) (eq-eqb g.number m.number (ap (λ (h : Heard). h.number) same ∙ r.numbered))
any_is_heard m (g ∷ hs) (suc n, h, low, same, r) = heard_front m (g ∷ []) hs (any_is_heard m hs (n, h, omega (arith, low), same, r))

module _ (k : Known) (split : IsSplit k) where
  pub was_before : (m : Sent) → IsTrue (is_heard (heard_before k) m) → IsTrue (is_heard k.heard m)
  was_before m is = still_heard m split.heard_first k.heard_now k.heard split.heard (subst (λ hs. IsTrue (is_heard hs m)) (before_heard_is k split) is)

  pub was_now : (m : Sent) → IsTrue (is_heard k.heard_now m) → IsTrue (is_heard k.heard m)
  was_now m is = subst (λ hs. IsTrue (is_heard hs m)) (sym split.heard) (heard_front m split.heard_first k.heard_now is)

  -- what holds of what was sent before the call and in it holds of all
  pub all_sent : (P : Sent → Type 0) → All P (sent_before k) → All P k.sent_now → All P k.sent
  all_sent P before now = subst (λ ms. All P ms) (sym split.sent) (All-append P split.sent_first k.sent_now (subst (λ ms. All P ms) (before_is k split) before) now)

  module _ {l : Bool} (x : OpenTxn) (later : List LaterPut) (a : HasAside l k x later) where
    abbrev t : Txn
    t = a.outbox.t

    now_over : (m : Sent) → IsHeardOrOut k [] m → IsTrue (is_heard k.heard m) ⊎ (goes_beside m.request ≡ true)
    now_over m (inl was) = inl (was_now m was)
    now_over m (inr (inl beside)) = inr beside
    now_over m (inr (inr out)) = absurd (omega (arith, out.2))

    -- all but puts was heard
    pub all_over : AreAllHeard l k
    all_over quiet = all_sent (IsHeardBesideOrPut k) (All-weaker (IsHeardOrLeft (heard_before k) k.heard_now t later []) (IsHeardBesideOrPut k) before (sent_before k) (a.outbox.left quiet)) (All-weaker (IsHeardOrOut k []) (IsHeardBesideOrPut k) now k.sent_now (a.heard quiet))
      where
        before : (m : Sent) → IsHeardOrLeft (heard_before k) k.heard_now t later [] m → IsHeardBesideOrPut k m
        before m (inl was) = inl (was_before m was)
        before m (inr (inl beside)) = inr (inl beside)
        before m (inr (inr l)) = inr (inr l.put)

        now : (m : Sent) → IsHeardOrOut k [] m → IsHeardBesideOrPut k m
        now m is = elim (now_over m is) [ inl was ↦ inl was | inr beside ↦ inr (inl beside) ]

    own_seq : Request → ℕ
    own_seq (requests.Put meta seq ts key value) = seq
    own_seq r = 0

    put_now : (r : Request) (seq : ℕ) → IsTrue (is_put_of t.id t.epoch seq r) → seq ≡ own_seq r
    unfolding own_seq
    put_now (requests.Put meta at ts key value) seq is = let parts = and_parts (same_txn meta.id t.id) _ is in sym (eqb_is at seq (and_parts _ _ parts.1).1)
      where
        eqb_is : (n m : ℕ) → (n == m) ≡ true → n ≡ m
        eqb_is n m e = eqb-true n m e
    put_now r seq is = absurd cc

    left_over : (m : Sent) → IsHeardOrLeft (heard_before k) k.heard_now t later [] m → IsHeardOrLeft k.heard [] t later [] m
    left_over m (inl was) = inl (was_before m was)
    left_over m (inr (inl beside)) = inr (inl beside)
    left_over m (inr (inr l)) = by (is_put_of t.id t.epoch (own_seq m.request) m.request) refl
      where
        one : Any (IsSentAs m) later ⊎ Any (IsOnWayAs m) [] ⊎ Any (IsReplyToMessage m) k.heard_now → IsHeardOrLeft k.heard [] t later [] m
        one (inl waits) = inr (inr (record { put = l.put; waits = λ seq is. inl waits }))
        one (inr (inl out)) = absurd (omega (arith, out.2))
        one (inr (inr replied)) = inl (was_now m (any_is_heard m k.heard_now replied))

        by : (b : Bool) → is_put_of t.id t.epoch (own_seq m.request) m.request ≡ b → IsHeardOrLeft k.heard [] t later [] m
        by true is = one (l.waits (own_seq m.request) is)
        by false isnt =
            inr (inr (record {
              put = l.put;
              waits = λ seq is.
                  let e : false ≡ true = sym isnt ∙ subst (λ n. is_put_of t.id t.epoch n m.request ≡ true) (put_now m.request seq is) is in
                  absurd cc;
            }))

    -- what was sent and not heard waits
    pub all_left : l ≡ false → All (IsHeardOrLeft k.heard [] t later []) k.sent
    all_left quiet =
        all_sent (IsHeardOrLeft k.heard [] t later []) (All-weaker (IsHeardOrLeft (heard_before k) k.heard_now t later []) (IsHeardOrLeft k.heard [] t later []) left_over (sent_before k) (a.outbox.left quiet))
        (All-weaker (IsHeardOrOut k []) (IsHeardOrLeft k.heard [] t later []) (λ m is. elim (now_over m is) [ inl was ↦ inl was | inr beside ↦ inr (inl beside) ]) k.sent_now (a.heard quiet))

    -- the puts wait on once the call was told, where the transaction stays
    pub outbox_told : (answer : Answer) (x2 : OpenTxn) → IsStaying answer → ((anchor : List ℕ) → meta_now x2 anchor ≡ meta_now x anchor) → All (λ put. (o : WaitsInOutbox k t x put) → Contains x2.in_flight o.w) later
        → HasOutboxBetween l (known_told answer k) x2 later
    outbox_told answer x2 stays meta there =
        let k2 = known_told answer k in
        let t2 = txn_told answer (replies_to k.sent_now k.heard_now) t in
        let on = told_on answer (replies_to k.sent_now k.heard_now) t x x2 stays meta in
        record {
          t = t2;
          opened = told_open answer k t stays a.outbox.opened;
          stands =
              all_wait k k2 [] [] (sym (append-nil k.sent)) (sym (append-nil k.heard)) t t2 x x2 on later a.outbox.stands
              (All-weaker (λ put. (o : WaitsInOutbox k t x put) → Contains x2.in_flight o.w)
              (λ put. (o : WaitsInOutbox k t x put) → Contains x2.in_flight o.w × All (λ (m : Sent). has_put o.w.seq m.request ≡ false) [] × All (λ (h : Heard). (h.number ≡ put.number → ⊥) × (has_put o.w.seq h.request ≡ false)) [])
              (λ put there o. (there o, All-nil (λ (m : Sent). has_put o.w.seq m.request ≡ false), All-nil (λ (h : Heard). (h.number ≡ put.number → ⊥) × (has_put o.w.seq h.request ≡ false)))) later there);
          left = λ quiet.
              left_on t t2 on.id on.epoch k.heard k.heard [] [] later [] [] (λ m is. is) (λ m is. is) (λ m q there on. absurd (omega (arith, there.1))) k.sent (all_left quiet);
        }

-- where all but puts was heard, and none is of the open transaction's epoch, nothing waits
pub outbox_new : {l : Bool} (k : Known) (t : Txn) (x : OpenTxn) → open_txn k ≡ Some t → AreAllHeard l k → All (λ m. (seq : ℕ) → IsTrue (is_put_of t.id t.epoch seq m.request) → ⊥) k.sent → HasOutboxBetween l k x []
outbox_new k t x opened over none = record {
  t = t;
  opened = opened;
  stands = tt;
  left = λ quiet. both k.sent (over quiet) none;
}
  where
    one : (m : Sent) → ((seq : ℕ) → IsTrue (is_put_of t.id t.epoch seq m.request) → ⊥) → IsHeardBesideOrPut k m → IsHeardOrLeft k.heard [] t [] [] m
    one m none (inl was) = inl was
    one m none (inr (inl beside)) = inr (inl beside)
    one m none (inr (inr put)) = inr (inr (record { put = put; waits = λ seq is. absurd (none seq is) }))

    both : (ms : List Sent) → All (IsHeardBesideOrPut k) ms → All (λ m. (seq : ℕ) → IsTrue (is_put_of t.id t.epoch seq m.request) → ⊥) ms → All (IsHeardOrLeft k.heard [] t [] []) ms
    both [] a b = All-nil (IsHeardOrLeft k.heard [] t [] [])
    both (m ∷ ms) a b =
        All-cons (IsHeardOrLeft k.heard [] t [] []) m ms (one m (All-head (λ m. (seq : ℕ) → IsTrue (is_put_of t.id t.epoch seq m.request) → ⊥) m ms b) (All-head (IsHeardBesideOrPut k) m ms a))
        (both ms (All-tail (IsHeardBesideOrPut k) m ms a) (All-tail (λ m. (seq : ℕ) → IsTrue (is_put_of t.id t.epoch seq m.request) → ⊥) m ms b))

-- so it is once the transaction restarts
pub outbox_restarts : {l : Bool} (k : Known) (split : IsSplit k) (x x2 : OpenTxn) (later : List LaterPut) (a : HasAside l k x later) (t t2 : Txn) → open_txn k ≡ Some t → All (λ m. PutsUpTo t (last_seq_of t.writes) m.request) k.sent
    → (key : List ℕ) (ts : ℕ) → open_txn (known_told (answers.Restart key ts) k) ≡ Some t2 → t2.id ≡ t.id → t2.epoch ≡ t.epoch + 1 → HasOutboxBetween l (known_told (answers.Restart key ts) k) x2 []
outbox_restarts k split x x2 later a t t2 opened puts key ts opened2 id epoch =
    outbox_new (known_told (answers.Restart key ts) k) t2 x2 opened2 (all_over k split x later a)
    (All-weaker (λ m. PutsUpTo t (last_seq_of t.writes) m.request) (λ m. (seq : ℕ) → IsTrue (is_put_of t2.id t2.epoch seq m.request) → ⊥)
    (λ m up seq is. let low = (up t2.epoch seq (subst (λ i. IsTrue (is_put_of i t2.epoch seq m.request)) id is)).0 in omega (arith, low, epoch)) k.sent puts)

put_number : (id : TxnId) (epoch seq session begun count : ℕ) (m : Sent) → IsOwnSent session begun count m → begun + 1 ≤ id.number → IsTrue (is_put_of id epoch seq m.request) → ⊥
put_number id epoch seq session begun count m own later is = by m.request own.own.write is
  where
    by : (r : Request) → IsOwnWrite begun r → IsTrue (is_put_of id epoch seq r) → ⊥
    by (requests.Put meta at ts key value) low is =
        let same : meta.id ≡ id = same_txn-is meta.id id (and_parts (same_txn meta.id id) _ is).0 in
        omega (arith, low, later, ap (λ (i : TxnId). i.number) same)
    by r low is = absurd cc

-- or begins
pub outbox_begins : {l : Bool} (k : Known) (t : Txn) (x : OpenTxn) (session begun count : ℕ) → open_txn k ≡ Some t → AreAllHeard l k → All (IsOwnSent session begun count) k.sent → begun + 1 ≤ t.id.number → HasOutboxBetween l k x []
outbox_begins k t x session begun count opened over own later =
    outbox_new k t x opened over (All-weaker (IsOwnSent session begun count) (λ m. (seq : ℕ) → IsTrue (is_put_of t.id t.epoch seq m.request) → ⊥) (λ m own seq is. put_number t.id t.epoch seq session begun count m own later is) k.sent own)

take_all : {X : Type 0} (xs : List X) → take (length xs) xs ≡ xs
take_all [] = refl
take_all (x ∷ xs) = ap (λ ys. x ∷ ys) (take_all xs)

-- a call is asked: the puts wait on
pub aside_asked : {l : Bool} (call : Call) (reading : ℕ) (k : Known) (x x2 : OpenTxn) (later : List LaterPut) → StaysInFlight x x2 → HasOutboxBetween l k x later → HasAside l (known_asked call reading k) x2 later
aside_asked call reading k x x2 later stays o =
    let k2 = known_asked call reading k in
    let on : GoesOnAs o.t o.t x x2 = record { id = refl; epoch = refl; anchored = λ anchor is. is; up = omega arith; asked = λ seq ts is. is; meta = stays.0 } in
    record {
      outbox = record {
        t = o.t;
        opened = o.opened;
        stands =
            all_wait k k2 [] [] (sym (append-nil k.sent)) (sym (append-nil k.heard)) o.t o.t x x2 on later o.stands
            (all_from_contains (λ put. (o2 : WaitsInOutbox k o.t x put) → Contains x2.in_flight o2.w × All (λ (m : Sent). has_put o2.w.seq m.request ≡ false) [] × All (λ (h : Heard). (h.number ≡ put.number → ⊥) × (has_put o2.w.seq h.request ≡ false)) []) later
            (λ put there o2. (stays.1 o2.w o2.there, All-nil (λ (m : Sent). has_put o2.w.seq m.request ≡ false), All-nil (λ (h : Heard). (h.number ≡ put.number → ⊥) × (has_put o2.w.seq h.request ≡ false)))));
        left = λ quiet.
            subst (λ ms. All (IsHeardOrLeft (heard_before k2) [] o.t later []) ms) (sym (ap (λ n. take n k.sent) (less (length k.sent)) ∙ take_all k.sent))
            (subst (λ hs. All (IsHeardOrLeft hs [] o.t later []) k.sent) (sym (ap (λ n. take n k.heard) (less (length k.heard)) ∙ take_all k.heard)) (o.left quiet));
      };
      heard = λ quiet. All-nil (IsHeardOrOut k2 []);
      others = λ t is. All-nil (λ (m : Sent). goes_beside m.request ≡ true → is_query_of t.id m.request ≡ false);
    }
  where
    less : (n : ℕ) → n - 0 ≡ n
    less n = omega arith
