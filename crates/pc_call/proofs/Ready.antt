-- Each message of an open call may be sent, as far as its purpose goes.
use Rattle.std.proofs.Common.{◌≡◌, ℕ, ◌+◌, ◌≤◌, Bool, true, false, cond, ◌||◌, ◌⊎◌, inl, inr, not, List, [], ◌∷◌, map, Option, Some, None, refl, sym, ap, ◌∙◌, subst, arith, All, Any, Contains, IsTrue, suc}
use Rattle.std.specs.List.{list_any}
use Rattle.std.proofs.lemmas.Bool.{and_parts, eqb-true}
use Rattle.std.proofs.lemmas.List.Elements.{All-cons, All-contains, All-head, All-map, All-nil, All-weaker}
use Rattle.std.proofs.lemmas.List.Folds.{list_any_none}
use Rattle.std.proofs.lemmas.Option.{same_Some}
use Rattle.pc_call.specs.Setting.{Setting}
use Rattle.pc_base.specs.declared.actor.ActorId.TheVariants as actors
use Rattle.pc_base.specs.declared.span.Span.{Span}
use Rattle.pc_base.specs.declared.span.Span.TheVariants.{One}
use Rattle.pc_base.specs.Span.{contains, same_key}
use Rattle.pc_base.specs.Transaction.{same_txn}
use Rattle.pc_call.proofs.Facts.{asks_for, open_is, put_for, unmoved, unmoved_now}
use Rattle.pc_call.proofs.Kept.{late_passed}
use Rattle.pc_call.proofs.Lists.{all_unmapped}
use Rattle.pc_call.proofs.PieceInside.{pieces_inside}
use Rattle.pc_call.specs.declared.purpose.Purpose.{Purpose}
use Rattle.pc_call.specs.declared.purpose.Purpose.TheVariants as purposes
use Rattle.pc_call.specs.Serving.{AreReadsOf, IsOpenIn, LaysLast, LaysNext, SendsAgain, ServesAbort, ServesBeat, ServesCommit, ServesLastBeat, ServesProve, ServesRead, ServesRefresh, ServesWrite, commit_asked, is_unsent, out_of, write_call}
use Rattle.pc_call.specs.Suiting.{SuitsFlight, SuitsFlightIn}
use Rattle.pc_call.specs.Waiting.{BeginsBehindProofs, depends_on, waits_on}
use Rattle.pc_lists.proofs.Lists.{all_from_contains, contains_cons, contains_nil}
use Rattle.pc_lists.proofs.Same.{same_key-is, same_txn-is}
use Rattle.pc_proto.specs.declared.answer.Answer.{Answer}
use Rattle.pc_proto.specs.declared.call.Call.{Call}
use Rattle.pc_proto.specs.declared.call.Call.TheVariants as calls
use Rattle.pc_proto.specs.declared.meta.TxnMeta.{TxnMeta}
use Rattle.pc_proto.specs.declared.request.Request.{Request}
use Rattle.pc_proto.specs.declared.request.Request.TheVariants as requests
use Rattle.pc_proto.specs.Replies.{is_written}
use Rattle.pc_proto.specs.Requests.{is_put_of}
use Rattle.pc_proto.specs.Stamps.{request_stamps}
use Rattle.pc_reads.proofs.Goods.{holds_itself}
use Rattle.pc_reads.specs.ReadsStanding.{refresh_to}
use Rattle.pc_staging.specs.Kept.{is_over}
use Rattle.pc_refusals.specs.Moves.{IsNoMove}
use Rattle.pc_txn.proofs.Alive.{may_beat}
use Rattle.pc_txn.proofs.Commits.{commit_now}
use Rattle.pc_txn.proofs.Keeping.{free_over}
use Rattle.pc_txn.proofs.Laying.{known_one, place_is, seq_is, sent_of, unwritten_of}
use Rattle.pc_txn.proofs.Puts.{puts-own, same_put}
use Rattle.pc_txn.proofs.Rows.{may_abort, may_again, may_commit, may_get, may_next, may_scan, undecided}
use Rattle.pc_txn.proofs.SentAgain.{may_commit_again}
use Rattle.pc_txn.specs.Counted.{IsCounted}
use Rattle.pc_flight.specs.declared.write.WriteInFlight.{WriteInFlight}
use Rattle.pc_txn.specs.declared.txn.OpenTxn.{OpenTxn}
use Rattle.pc_txn.specs.Opened.{next_put, own_abort, own_commit, own_get, own_put, own_scan, put_at}
use Rattle.pc_txn.specs.Silence.{own_beat}
use Rattle.pc_txn.specs.Standing.{TxnStands, WritesWithinReach}
use Rattle.pc_txn.specs.Writing.{IsNotWritten, WasAskedAt}
use Rattle.pc_wave.specs.declared.message.Message.{Message}
use Rattle.pc_wave.specs.declared.message.Progress.{Progress}
use Rattle.pc_wave.specs.declared.message.Progress.TheVariants as progresses
use Rattle.pc_wave.specs.Messages.{is_to_send, progress_has_answer, progress_to_send}
use Rattle.pc_follows.specs.CallMessages.{IsForCall, IsFor, IsPipelinedFor, IsPlainFor, IsPutAgain}
use Rattle.pc_follows.specs.EarlyTell.{IsCommitKnown}
use Rattle.pc_follows.specs.Eighth.{IsBeforeEighth, WasMovedEighth}
use Rattle.pc_follows.specs.OneWrite.{IsItsPut}
use Rattle.pc_follows.specs.PipelinedPuts.{IsFull, WaitsFor}
use Rattle.pc_world.specs.Known.{Known, call_in, call_of, open_txn, reading_in}
use Rattle.pc_world.specs.Known.Reads.{IsGoodAt, IsGoodTo, holds_span}
use Rattle.pc_world.specs.Known.Statements.{Statement}
use Rattle.pc_world.specs.Known.Traffic.{Sent}
use Rattle.pc_world.specs.Known.Transactions.{Txn}
use Rattle.pc_world.specs.MaySend.{MaySendRow}
use Rattle.pc_world.specs.RangeOf.{pieces}
use Rattle.pc_world.specs.SameRequest.{IsSameRequest}
use Rattle.pc_world.specs.Send.Put.{AsksFor}
use Rattle.pc_world.specs.Send.Refresh.{MaySendRefresh}
use Rattle.pc_world.specs.StageFate.{IsLate, SentStage, commit_request}
use Rattle.pc_world.specs.Tell.Data.{IsFirstPut, sent_before}
use Rattle.pc_world.specs.Tell.Refusal.{MayBlock}

-- The request may be sent as far as its transaction and its call go.
pub record IsReady (set : Setting) (session : ℕ) (k : Known) (r : Request) : Type 0 where
  pub row : MaySendRow set.splits (actors.Session session) k r
  pub stamps : All (λ ts. ts ≤ k.top + 1) (request_stamps r)
  pub kind : IsForCall set.course.pipelines k r
  pub before : IsBeforeEighth set.course.pipelines k r
  pub own : IsItsPut k r
  pub undecided : (other : Txn) (ts : ℕ) → IsCommitKnown k other ts → ⊥

-- a message that is to be sent was not answered
pub to_send_unanswered : (p : Progress) → progress_to_send p ≡ true → progress_has_answer p ≡ false
to_send_unanswered progresses.ToSend is = refl
to_send_unanswered (progresses.Sent number) is = absurd cc
to_send_unanswered (progresses.Met number conflict) is = absurd cc
to_send_unanswered (progresses.Answered number reply) is = absurd cc

-- what is so of some element is so of one of them
pub any_from : {X : Type 0} (test : X → Bool) (xs : List X) → list_any test xs ≡ true → Any (λ x. IsTrue (test x)) xs
any_from test [] is = absurd cc
any_from test (x ∷ xs) is = by (any_from test xs) (test x) refl is
  where
    by : (list_any test xs ≡ true → Any (λ x. IsTrue (test x)) xs) → (b : Bool) → test x ≡ b → (b || list_any test xs) ≡ true → Any (λ x. IsTrue (test x)) (x ∷ xs)
    by later true e is = (0, x, omega arith, refl, e)
    by later false e is = let f = later is in (suc f.0, f.1, omega (arith, f.2), f.3, f.4)

-- a call waits for writes of its keys, or for all where as many are in flight as there may be
pub waits_for : (k : Known) (call : Call) (all : Bool) (key : List ℕ) → BeginsBehindProofs call → (all ≡ true → (own : List ℕ) × (value : Option (List ℕ)) × (call ≡ write_call own value)) → (all ≡ true → IsFull k) → waits_on call all key ≡ true → WaitsFor k key call
waits_for k (calls.Get own) true key begins writes full waits = absurd (no_get own (writes refl))
  where
    no_get : (own : List ℕ) → (place : List ℕ) × (value : Option (List ℕ)) × (calls.Get own ≡ write_call place value) → ⊥
    no_get own (place, None, e) = cc
    no_get own (place, Some value, e) = cc
waits_for k (calls.Get own) false key begins writes full waits = sym (same_key-is key own waits)
waits_for k (calls.Scan span) true key begins writes full waits = absurd (no_scan span (writes refl))
  where
    no_scan : (span : Span) → (place : List ℕ) × (value : Option (List ℕ)) × (calls.Scan span ≡ write_call place value) → ⊥
    no_scan span (place, None, e) = cc
    no_scan span (place, Some value, e) = cc
waits_for k (calls.Scan span) false key begins writes full waits = waits
waits_for k (calls.Put own value) true key begins writes full waits = inr (full refl)
waits_for k (calls.Put own value) false key begins writes full waits = inl (sym (same_key-is key own waits))
waits_for k (calls.Delete own) true key begins writes full waits = inr (full refl)
waits_for k (calls.Delete own) false key begins writes full waits = inl (sym (same_key-is key own waits))
waits_for k call all key begins writes full waits = absurd begins

-- with pipelining such a call puts again the writes for which it waits
pub again_for : (k : Known) (call : Call) (r : Request) → BeginsBehindProofs call → IsPutAgain k call r → IsPipelinedFor k call r
again_for k (calls.Get key) r begins again = again
again_for k (calls.Scan span) r begins again = again
again_for k (calls.Put key value) r begins again = again
again_for k (calls.Delete key) r begins again = again
again_for k call r begins again = absurd begins

-- without it such a call puts its own write alone
pub plain_again : (call : Call) (flight : List WriteInFlight) (w : WriteInFlight) (meta : TxnMeta) (ts : ℕ) → BeginsBehindProofs call → SuitsFlight call flight → Contains flight w → IsPlainFor call (requests.Put meta w.seq ts w.key w.value)
plain_again call [] w meta ts begins suits there = absurd (contains_nil w there)
plain_again (calls.Put key value) (v ∷ []) w meta ts begins suits there =
    elim (contains_cons v [] w there) [ inl is ↦ ap (λ (w : WriteInFlight). w.key) (sym is) ∙ suits.0 | inr later ↦ absurd (contains_nil w later) ]
plain_again (calls.Delete key) (v ∷ []) w meta ts begins suits there =
    elim (contains_cons v [] w there) [ inl is ↦ ap (λ (w : WriteInFlight). w.key) (sym is) ∙ suits.0 | inr later ↦ absurd (contains_nil w later) ]
plain_again (calls.Put key value) (v ∷ u ∷ ws) w meta ts begins suits there = absurd suits
plain_again (calls.Delete key) (v ∷ u ∷ ws) w meta ts begins suits there = absurd suits
plain_again calls.Rollback (v ∷ ws) w meta ts begins suits there = absurd begins
plain_again call (v ∷ ws) w meta ts begins suits there = absurd suits

-- what is for a call without pipelining is for it with pipelining
pub plain_for : (b : Bool) (k : Known) (call : Call) (r : Request) → IsPlainFor call r → IsFor b k call r
plain_for false k call r is = is
plain_for true k call r is = inl is

-- a put of the key is for a call that writes it
pub put_on : (key : List ℕ) (value : Option (List ℕ)) (meta : TxnMeta) (seq ts : ℕ) (what : Option (List ℕ)) → IsPlainFor (write_call key value) (requests.Put meta seq ts key what)
put_on key None meta seq ts what = refl
put_on key (Some value) meta seq ts what = refl

-- puts of one write are of one request
pub put_same : (meta : TxnMeta) (seq ts : ℕ) (key : List ℕ) (value : Option (List ℕ)) (other : Request) → is_put_of meta.id meta.epoch seq other ≡ true → IsSameRequest (requests.Put meta seq ts key value) other
put_same meta seq ts key value (requests.Put one at when place what) is =
    let a = and_parts (same_txn one.id meta.id) _ is in
    let b = and_parts _ _ a.1 in
    inr (sym (same_txn-is one.id meta.id a.0), sym (eqb-true one.epoch meta.epoch b.0), sym (eqb-true at seq b.1))
put_same meta seq ts key value other is = absurd cc

-- where it writes, the greatest timestamp that the session knows is no more than one below
within_top : {session clock count : ℕ} (k : Known) → IsCounted session clock count k → (t : Txn) (ts : ℕ) → ts ≡ t.write_ts → WritesWithinReach k t → ts ≤ k.top + 1
within_top k counted t ts at (inl high) = omega (arith, at, high, counted.below)
within_top k counted t ts at (inr (n, h, inside, same, m)) =
    let low : All (λ ts. ts ≤ k.top) (request_stamps h.request) = All-contains (λ h. All (λ ts. ts ≤ k.top) (request_stamps h.request)) k.heard h counted.heard_low (n, inside, same) in
    let asked : m.at ≤ k.top = All-head (λ ts. ts ≤ k.top) m.at [] (subst (λ q. All (λ ts. ts ≤ k.top) (request_stamps q)) m.missing.asked low) in
    omega (arith, at, asked, m.just)

module _ (session clock count : ℕ) (set : Setting) (k : Known) (t : Txn) (x : OpenTxn) (s : Statement) (counted : IsCounted session clock count k) (stages : List SentStage) (st : TxnStands k stages None t x) (no_commit : (other : Txn) (ts : ℕ) → IsCommitKnown k other ts → ⊥) (open_in : IsOpenIn k t)
    (opened : k.statement ≡ Some s) where
  open_now : open_txn k ≡ Some t
  open_now = open_is k t open_in

  mine : Contains k.txns t
  mine = subst (λ ts. Contains ts t) (sym open_in.first) (0, omega arith, refl)

  none_of : (test : WriteInFlight → Bool) → All (λ f. test f ≡ false) x.in_flight → list_any test x.in_flight ≡ false
  none_of test none = list_any_none test x.in_flight none

  reads_at : x.reads.ts ≡ t.read_ts
  reads_at = ap (λ x. x.reads.ts) st.same

  writes_at : x.write_ts ≡ t.write_ts
  writes_at = ap (λ x. x.write_ts) st.same

  call_is : (call : Call) → s.call ≡ call → call_of k ≡ Some call
  call_is call is = ap call_in opened ∙ ap (λ c. Some c) is

  for_call : (call : Call) (r : Request) → s.call ≡ call → IsPlainFor call r → IsForCall set.course.pipelines k r
  for_call call r is kind = record { s = s; opened = opened; kind = inl (plain_for set.course.pipelines k s.call r (subst (λ c. IsPlainFor c r) (sym is) kind)) }

  reached : t.write_ts ≤ k.top + 1
  reached = within_top k counted t t.write_ts refl st.below

  low_read : x.reads.ts ≤ k.top + 1
  low_read = omega (arith, reads_at, st.behind, reached)

  low_write : x.write_ts ≤ k.top + 1
  low_write = omega (arith, writes_at, reached)

  one_low : (ts : ℕ) → ts ≤ k.top + 1 → All (λ ts. ts ≤ k.top + 1) (ts ∷ [])
  one_low ts low = All-cons (λ ts. ts ≤ k.top + 1) ts [] low (All-nil (λ ts. ts ≤ k.top + 1))

  ready_get : (key : List ℕ) → All (λ f. depends_on (calls.Get key) f.key ≡ false) x.in_flight → s.call ≡ calls.Get key → IsReady set session k (own_get x key)
  ready_get key none is = record {
    row = may_get set.splits (actors.Session session) k stages None t x st open_now key (none_of (λ f. contains (One key) f.key) none) (call_is (calls.Get key) is);
    stamps = one_low x.reads.ts low_read;
    kind = for_call (calls.Get key) (own_get x key) is refl;
    before = tt;
    own = tt;
    undecided = no_commit;
  }

  outside : (whole span : Span) → Contains (map (λ p. p.1) (pieces set.splits whole)) span → All (λ f. contains whole f.key ≡ false) x.in_flight → All (λ f. contains span f.key ≡ false) x.in_flight
  outside whole span cut none = All-weaker (λ f. contains whole f.key ≡ false) (λ f. contains span f.key ≡ false) (λ f out. by f out (contains span f.key) refl) x.in_flight none
    where
      by : (f : WriteInFlight) → contains whole f.key ≡ false → (b : Bool) → contains span f.key ≡ b → b ≡ false
      by f out false e = refl
      by f out true e =
          let inside : All (λ (p : ℕ × Span). contains p.1 f.key ≡ true → contains whole f.key ≡ true) (pieces set.splits whole) = pieces_inside set.splits whole f.key in
          let here = All-contains (λ span. contains span f.key ≡ true → contains whole f.key ≡ true) (map (λ p. p.1) (pieces set.splits whole)) span
          (All-map (λ span. contains span f.key ≡ true → contains whole f.key ≡ true) (λ (p : ℕ × Span). p.1) (pieces set.splits whole) inside) cut in
          let g : false ≡ true = sym out ∙ here e in
          cc

  ready_scan : (whole span : Span) → All (λ f. depends_on (calls.Scan whole) f.key ≡ false) x.in_flight → s.call ≡ calls.Scan whole → Contains (map (λ p. p.1) (pieces set.splits whole)) span → IsReady set session k (own_scan x span)
  ready_scan whole span none is cut = record {
    row = may_scan set.splits (actors.Session session) k stages None t x st open_now whole span (none_of (λ f. contains span f.key) (outside whole span cut none)) (call_is (calls.Scan whole) is) cut;
    stamps = one_low x.reads.ts low_read;
    kind = for_call (calls.Scan whole) (own_scan x span) is refl;
    before = tt;
    own = tt;
    undecided = no_commit;
  }

  ready_pieces : (whole : Span) → All (λ f. depends_on (calls.Scan whole) f.key ≡ false) x.in_flight → s.call ≡ calls.Scan whole → All (IsReady set session k) (map (λ p. own_scan x p.1) (pieces set.splits whole))
  ready_pieces whole none is =
      All-map (IsReady set session k) (λ p. own_scan x p.1) (pieces set.splits whole)
      (all_unmapped (λ span. IsReady set session k (own_scan x span)) (λ p. p.1) (pieces set.splits whole)
      (all_from_contains (λ span. IsReady set session k (own_scan x span)) (map (λ p. p.1) (pieces set.splits whole)) (λ span there. ready_scan whole span none is there)))

  pub ready_reads : (call : Call) (rs : List Request) → All (λ f. depends_on call f.key ≡ false) x.in_flight → s.call ≡ call → AreReadsOf set.splits x call rs → All (IsReady set session k) rs
  ready_reads (calls.Get key) rs none is e =
      subst (λ rs. All (IsReady set session k) rs) (sym e) (All-cons (IsReady set session k) (own_get x key) [] (ready_get key none is) (All-nil (IsReady set session k)))
  ready_reads (calls.Scan span) rs none is e = subst (λ rs. All (IsReady set session k) rs) (sym e) (ready_pieces span none is)
  ready_reads call rs none is e = absurd e

  pub ready_next : (key : List ℕ) (value : Option (List ℕ)) (m : Message) → is_over x.staging ≡ true → All IsNoMove k.heard_now → s.call ≡ write_call key value → LaysNext k s t x key value m → IsReady set session k (next_put x key value)
  ready_next key value m over still is l = record {
    row =
        may_next set.splits (actors.Session session) k stages None t x st open_now key value (none_of (λ f. same_key f.key key) l.free) over
        (subst (λ c. AsksFor c key value) (sym (call_is (write_call key value) is)) (asks_for key value));
    stamps = one_low x.write_ts low_write;
    kind = for_call (write_call key value) (next_put x key value) is (put_for key value _ (x.seq + 1) x.write_ts);
    before = unmoved_now k still;
    own = (
      record { t = t; opened = open_now; whose = ap (λ x. x.id) st.same; epoch_now = ap (λ x. x.epoch) st.same },
      inr (λ s2 t2 opened2 open2.
          let a : s ≡ s2 = same_Some s s2 (sym opened ∙ opened2) in
          let b : t ≡ t2 = same_Some t t2 (sym open_now ∙ open2) in
          subst (λ s2. All (λ m. IsFirstPut k s2 t2 m → ⊥) k.sent_now) a (subst (λ t2. All (λ m. IsFirstPut k s t2 m → ⊥) k.sent_now) b l.new)),
    );
    undecided = no_commit;
  }

  -- a write that is in flight goes out again
  module _ (w : WriteInFlight) (there : Contains x.in_flight w) (anchor : List ℕ) (anchored : t.anchor ≡ Some anchor) (ts : ℕ) (low : ts ≤ t.write_ts) (when : (ts ≡ t.write_ts) ⊎ WasAskedAt t w.seq ts) where
    abbrev meta : TxnMeta
    meta = record { id = x.id; epoch = x.epoch; priority = x.priority; born = x.born; anchor = anchor }

    id_is : x.id ≡ t.id
    id_is = ap (λ x. x.id) st.same

    epoch_is : x.epoch ≡ t.epoch
    epoch_is = ap (λ x. x.epoch) st.same

    put_is : (r : Request) → is_put_of x.id x.epoch w.seq r ≡ is_put_of t.id t.epoch w.seq r
    put_is r = ap (λ id. is_put_of id x.epoch w.seq r) id_is ∙ ap (λ n. is_put_of t.id n w.seq r) epoch_is

    pub ready_again : IsForCall set.course.pipelines k (put_at x anchor ts w) → (WasMovedEighth k → ⊥) → IsReady set session k (put_at x anchor ts w)
    ready_again kind still =
        let laid : Any (λ m. IsTrue (is_put_of t.id t.epoch w.seq m.request)) k.sent = sent_of k stages None t x st w there in
        let unwritten : All (IsNotWritten t w.seq) k.heard = unwritten_of k stages None t x st w there in
        record {
          row = may_again set.splits (actors.Session session) k stages None t x st w anchor ts mine there anchored when;
          stamps = one_low ts (omega (arith, low, reached));
          kind = kind;
          before = still;
          own = (
            record { t = t; opened = open_now; whose = id_is; epoch_now = epoch_is },
            inl (
              (laid.0, laid.1, laid.2, laid.3, put_same meta w.seq ts w.key w.value laid.1.request (put_is laid.1.request ∙ laid.4)),
              All-weaker (IsNotWritten t w.seq) (λ h. IsSameRequest (put_at x anchor ts w) h.request → IsTrue (not (is_written h.reply)))
                  (λ h u same. ap not (u (sym (put_is h.request) ∙ same_put meta w.seq ts w.key w.value h.request same))) k.heard unwritten,
            ),
          );
          undecided = no_commit;
        }

    -- with pipelining it is one for which the call waits
    pub put_again : (call : Call) → list_any (λ other. is_put_of t.id t.epoch w.seq other.request) (sent_before k) ≡ true → WaitsFor k w.key call → IsPutAgain k call (put_at x anchor ts w)
    put_again call before waits =
        let one = known_one k stages None t x st w there in
        let seq : one.w.seq ≡ w.seq = seq_is k stages None t x st w there in
        record {
          t = t;
          w = one.w;
          opened = open_now;
          written = one.written;
          put =
              subst (λ n. is_put_of t.id t.epoch n (put_at x anchor ts w) ≡ true) (sym seq)
              (sym (put_is (put_at x anchor ts w)) ∙ puts-own meta w.seq ts w.key w.value);
          before = subst (λ n. Any (λ m. IsTrue (is_put_of t.id t.epoch n m.request)) (sent_before k)) (sym seq) (any_from (λ m. is_put_of t.id t.epoch w.seq m.request) (sent_before k) before);
          waits = subst (λ key. WaitsFor k key call) (sym (place_is k stages None t x st w there)) waits;
        }

  pub ready_last : (key : List ℕ) (value : Option (List ℕ)) (m : Message) → All IsNoMove k.heard_now → s.call ≡ write_call key value → (l : LaysLast k t x key value m) → IsReady set session k (own_put x l.anchor l.w)
  ready_last key value m still is l =
      ready_again l.w l.there l.anchor l.anchored x.write_ts (omega (arith, writes_at)) (inl writes_at)
      (for_call (write_call l.w.key value) (own_put x l.anchor l.w) (is ∙ ap (λ key. write_call key value) (sym l.place)) (put_on l.w.key value _ l.w.seq x.write_ts l.w.value)) (unmoved_now k still)

  -- so is each write of an earlier call, for which this one waits
  pub ready_proof : (call : Call) (all : Bool) (ms : List Message) (r : ServesProve call all k s t x ms) → SuitsFlightIn set.course.pipelines s.call x.in_flight → (m : Message) → SendsAgain call all k t x m → is_to_send m ≡ true → IsReady set session k m.request
  ready_proof call all ms r suits m a to_send =
      let there : Contains x.in_flight a.w = a.there (to_send_unanswered m.progress to_send) in
      let when : (a.ts ≡ t.write_ts) ⊎ WasAskedAt t a.w.seq a.ts = elim a.goes_at [ inl now ↦ inl now.1 | inr was ↦ inr was.0 ] in
      let full : all ≡ true → IsFull k = λ is. (t, open_now, r.full is) in
      let again : IsPutAgain k call (put_at x a.anchor a.ts a.w) =
      put_again a.w there a.anchor a.anchored a.ts a.low when call a.before (waits_for k call all a.w.key r.begins r.writes full a.waits) in
      subst (λ q. IsReady set session k q) (sym a.said)
      (ready_again a.w there a.anchor a.anchored a.ts a.low when
      (record { s = s; opened = opened; kind = inl (subst (λ c. IsFor set.course.pipelines k c (put_at x a.anchor a.ts a.w)) (sym r.asked) (by set.course.pipelines a there again (subst (λ c. SuitsFlightIn set.course.pipelines c x.in_flight) r.asked suits))) }) (unmoved_now k r.unmoved))
    where
      by : (b : Bool) (a : SendsAgain call all k t x m) → Contains x.in_flight a.w → IsPutAgain k call (put_at x a.anchor a.ts a.w) → SuitsFlightIn b call x.in_flight → IsFor b k call (put_at x a.anchor a.ts a.w)
      by false a there again suits = plain_again call x.in_flight a.w _ a.ts r.begins suits there
      by true a there again suits = inr (again_for k call (put_at x a.anchor a.ts a.w) r.begins again)

  pub ready_refresh : (n : ℕ) (puts ms : List Message) → ServesRefresh set.course.loses n puts k s t x ms → All (IsReady set session k) (map (refresh_to x.id x.reads.ts x.write_ts) x.reads.spans)
  ready_refresh n puts ms r =
      All-map (IsReady set session k) (refresh_to x.id x.reads.ts x.write_ts) x.reads.spans (All-weaker (λ span. Any (λ r. r.span ≡ span) t.reads) (λ span. IsReady set session k (refresh_to x.id x.reads.ts x.write_ts span)) one x.reads.spans st.reads.of_reads)
    where
      good : All (IsGoodAt t.id k.heard x.reads.ts) t.reads
      good = st.reads.good

      one : (span : Span) → Any (λ r. r.span ≡ span) t.reads → IsReady set session k (refresh_to x.id x.reads.ts x.write_ts span)
      one span (i, read, inside, at, same) = record {
        row =
            let may : MaySendRefresh k x.id x.reads.ts x.write_ts span = record {
              t = t;
              opened = open_now;
              asked = call_is calls.Commit r.commits.call;
              whose = ap (λ x. x.id) st.same;
              holds_read = (i, read, inside, at, subst (λ other. holds_span span other ≡ true) (sym same) (holds_itself span));
              from_read_ts = reads_at;
              good = All-weaker (IsGoodAt t.id k.heard x.reads.ts) (λ r. (good : ℕ) × IsGoodTo t.id k.heard r.span r.ts good × (x.reads.ts ≤ good)) (λ r g. g.up_to) t.reads good;
              forward = r.behind;
              to_write_ts = writes_at;
            } in
            may;
        stamps = All-cons (λ ts. ts ≤ k.top + 1) x.reads.ts (x.write_ts ∷ []) low_read (one_low x.write_ts low_write);
        kind = for_call calls.Commit (refresh_to x.id x.reads.ts x.write_ts span) r.commits.call (inr refl);
        before = unmoved k n r.commits.moves (omega (arith, r.commits.few));
        own = tt;
        undecided = no_commit;
      }

  pub ready_commit : All (IsLate k.heard) stages → (n : ℕ) (ms : List Message) (r : ServesCommit n k s t x ms) → is_unsent r.m ≡ true → IsReady set session k (own_commit x r.commits.anchor)
  ready_commit late n ms r unsent = record {
    row =
        may_commit set.splits (actors.Session session) k stages None t x st open_now r.commits.anchor mine r.none_in_flight (late_passed k stages t x.staging st.staging late) r.commits.anchored (call_is calls.Commit r.commits.call) (r.good unsent);
    stamps = one_low x.write_ts low_write;
    kind = for_call calls.Commit (own_commit x r.commits.anchor) r.commits.call (inl refl);
    before = unmoved k n r.commits.moves (omega (arith, r.commits.few));
    own = tt;
    undecided = no_commit;
  }

  pub ready_beat : (call : Call) (reading : ℕ) (ms : List Message) (r : ServesBeat call reading k s t x ms) → IsReady set session k (own_beat x reading r.anchor)
  ready_beat call reading ms r = record {
    row = may_beat set.splits (actors.Session session) k stages None t x st open_now reading r.anchor r.anchored (ap reading_in opened ∙ ap (λ (s : Statement). Some s.reading) r.asked);
    stamps = one_low x.write_ts low_write;
    kind = record { s = s; opened = opened; kind = inr (subst (λ c. MayBlock c) (sym (ap (λ (s : Statement). s.call) r.asked)) r.asks, refl) };
    before = tt;
    own = tt;
    undecided = no_commit;
  }

  pub ready_abort : (why : _) (ms : List Message) (r : ServesAbort why k s t x ms) → is_over x.staging ≡ true → IsReady set session k (own_abort x why r.anchor)
  ready_abort why ms r over = record {
    row = may_abort set.splits (actors.Session session) k stages None t x st open_now why r.anchor r.anchored (call_is calls.Rollback r.call) r.cause over;
    stamps = r.low;
    kind = for_call calls.Rollback (own_abort x why r.anchor) r.call refl;
    before = tt;
    own = tt;
    undecided = no_commit;
  }

  pub ready_last_beat : (answer : Answer) (reading : ℕ) (ms : List Message) (r : ServesLastBeat set.course.loses answer reading k s t x stages ms) → IsReady set session k (own_beat x reading r.gives_up.anchor)
  ready_last_beat answer reading ms r = record {
    row = may_beat set.splits (actors.Session session) k stages None t x st open_now reading r.gives_up.anchor r.gives_up.anchored (ap reading_in opened ∙ ap (λ at. Some at) r.read_now);
    stamps = one_low x.write_ts low_write;
    kind = record { s = s; opened = opened; kind = inr (subst (λ c. MayBlock c) (sym r.gives_up.call) tt, refl) };
    before = tt;
    own = tt;
    undecided = no_commit;
  }

-- A message that is to be sent is ready.
abbrev pub IsReadyToSend : Setting → ℕ → Known → Message → Type 0
IsReadyToSend set session k m = is_to_send m ≡ true → IsReady set session k m.request

pub one_ready : (set : Setting) (session : ℕ) (k : Known) (ms : List Message) (m : Message) → ms ≡ m ∷ [] → IsReadyToSend set session k m → All (IsReadyToSend set session k) ms
one_ready set session k ms m one ready =
    subst (λ ms. All (IsReadyToSend set session k) ms) (sym one) (All-cons (IsReadyToSend set session k) m [] ready (All-nil (IsReadyToSend set session k)))

all_ready : (set : Setting) (session : ℕ) (k : Known) (ms : List Message) → All (IsReady set session k) (map (λ m. m.request) ms) → All (IsReadyToSend set session k) ms
all_ready set session k ms a =
    All-weaker (λ (m : Message). IsReady set session k m.request) (IsReadyToSend set session k) (λ m r to_send. r) ms (all_unmapped (IsReady set session k) (λ (m : Message). m.request) ms a)

module _ (session clock count : ℕ) (set : Setting) (k : Known) (counted : IsCounted session clock count k) (t : Txn) (x : OpenTxn) (s : Statement) (ms : List Message) (open_in : IsOpenIn k t) (opened : k.statement ≡ Some s) where
  none_late : All (IsLate k.heard) []
  none_late = All-nil (IsLate k.heard)

  -- where each of its stages is late, it is not decided
  no_commit_of : (stages : List SentStage) → TxnStands k stages None t x → All (IsLate k.heard) stages → (other : Txn) (ts : ℕ) → IsCommitKnown k other ts → ⊥
  no_commit_of stages st late = undecided k stages None t x st late (open_is k t open_in)

  pub write_ready : TxnStands k [] None t x → ServesWrite k s t x ms → All (IsReadyToSend set session k) ms
  write_ready st w = by w.lays
    where
      by : LaysNext k s t x w.key w.value w.m ⊎ LaysLast k t x w.key w.value w.m → All (IsReadyToSend set session k) ms
      by (inl l) =
          one_ready set session k ms w.m w.one
          (λ to_send. subst (λ r. IsReady set session k r) (sym l.said) (ready_next session clock count set k t x s counted [] st (no_commit_of [] st none_late) open_in opened w.key w.value w.m (free_over k t x.staging st.staging) w.unmoved w.call l))
      by (inr l) = one_ready set session k ms w.m w.one (λ to_send. subst (λ r. IsReady set session k r) (sym l.said) (ready_last session clock count set k t x s counted [] st (no_commit_of [] st none_late) open_in opened w.key w.value w.m w.unmoved w.call l))

  pub prove_ready : (call : Call) (all : Bool) → TxnStands k [] None t x → SuitsFlightIn set.course.pipelines s.call x.in_flight → ServesProve call all k s t x ms → All (IsReadyToSend set session k) ms
  prove_ready call all st suits r =
      All-weaker (SendsAgain call all k t x) (IsReadyToSend set session k) (λ m a to_send. ready_proof session clock count set k t x s counted [] st (no_commit_of [] st none_late) open_in opened call all ms r suits m a to_send) ms r.again

  pub read_ready : TxnStands k [] None t x → ServesRead set.splits k s x ms → All (IsReadyToSend set session k) ms
  read_ready st r = all_ready set session k ms (ready_reads session clock count set k t x s counted [] st (no_commit_of [] st none_late) open_in opened s.call (map (λ m. m.request) ms) r.clear refl r.asked)

  pub refresh_ready : (n : ℕ) (puts : List Message) (stages : List SentStage) → TxnStands k stages None t x → All (IsLate k.heard) stages → ServesRefresh set.course.loses n puts k s t x ms → All (IsReadyToSend set session k) ms
  refresh_ready n puts stages st late r =
      all_ready set session k ms (subst (λ rs. All (IsReady set session k) rs) (sym r.asked) (ready_refresh session clock count set k t x s counted stages st (no_commit_of stages st late) open_in opened n puts ms r))

  pub commit_ready : (n : ℕ) (stages : List SentStage) → TxnStands k stages (out_of (purposes.Commit n) ms) t x → All (IsLate k.heard) stages → ServesCommit n k s t x ms → All (IsReadyToSend set session k) ms
  commit_ready n stages st late c = one_ready set session k ms c.m c.one (λ to_send. subst (λ r. IsReady set session k r) (sym c.said) (by (is_unsent c.m) refl))
    where
      out_is : (b : Bool) → is_unsent c.m ≡ b → out_of (purposes.Commit n) ms ≡ cond b None (commit_asked c.m.request)
      out_is b is = ap (out_of (purposes.Commit n)) c.one ∙ ap (λ b. cond b None (commit_asked c.m.request)) is

      by : (b : Bool) → is_unsent c.m ≡ b → IsReady set session k (own_commit x c.commits.anchor)
      by true unsent =
          let bare : TxnStands k stages None t x = subst (λ o. TxnStands k stages o t x) (out_is true unsent) st in
          ready_commit session clock count set k t x s counted stages bare (no_commit_of stages bare late) open_in opened late n ms c unsent
      by false was =
          let same : own_commit x c.commits.anchor ≡ commit_request (commit_now t c.commits.anchor) = ap (λ x. own_commit x c.commits.anchor) st.same in
          let sent : TxnStands k stages (Some (commit_now t c.commits.anchor)) t x =
          subst (λ o. TxnStands k stages o t x) (out_is false was ∙ ap commit_asked (c.said ∙ same)) st in
          let low : x.write_ts ≤ k.top + 1 = within_top k counted t (x.write_ts) (ap (λ x. x.write_ts) st.same) st.below in
          record {
            row =
                may_commit_again k stages t x c.commits.anchor sent set.splits (actors.Session session) (subst (λ ts. Contains ts t) (sym open_in.first) (0, omega arith, refl)) (open_is k t open_in) c.none_in_flight c.commits.anchored
                (ap call_in opened ∙ ap (λ c. Some c) c.commits.call) (c.there was);
            stamps = All-cons (λ ts. ts ≤ k.top + 1) x.write_ts [] low (All-nil (λ ts. ts ≤ k.top + 1));
            kind = record { s = s; opened = opened; kind = inl (plain_for set.course.pipelines k s.call (own_commit x c.commits.anchor) (subst (λ call. IsPlainFor call (own_commit x c.commits.anchor)) (sym c.commits.call) (inl refl))) };
            before = unmoved k n c.commits.moves (omega (arith, c.commits.few));
            own = tt;
            undecided = undecided k stages (Some (commit_now t c.commits.anchor)) t x sent late (open_is k t open_in);
          }

  pub beat_ready : (call : Call) (reading : ℕ) → TxnStands k [] None t x → ServesBeat call reading k s t x ms → All (IsReadyToSend set session k) ms
  beat_ready call reading st r =
      one_ready set session k ms r.m r.one (λ to_send. subst (λ q. IsReady set session k q) (sym r.said) (ready_beat session clock count set k t x s counted [] st (no_commit_of [] st none_late) open_in opened call reading ms r))

  pub last_ready : (answer : Answer) (reading : ℕ) (stages : List SentStage) → TxnStands k stages None t x → All (IsLate k.heard) stages → ServesLastBeat set.course.loses answer reading k s t x stages ms → All (IsReadyToSend set session k) ms
  last_ready answer reading stages st late r =
      one_ready set session k ms r.m r.one (λ to_send. subst (λ q. IsReady set session k q) (sym r.said) (ready_last_beat session clock count set k t x s counted stages st (no_commit_of stages st late) open_in opened answer reading ms r))

  pub abort_ready : (why : _) → TxnStands k [] None t x → ServesAbort why k s t x ms → All (IsReadyToSend set session k) ms
  abort_ready why st r =
      one_ready set session k ms r.m r.one
      (λ to_send. subst (λ q. IsReady set session k q) (sym r.said) (ready_abort session clock count set k t x s counted [] st (no_commit_of [] st none_late) open_in opened why ms r (free_over k t x.staging st.staging)))
