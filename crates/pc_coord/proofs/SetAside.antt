-- A put that is told written at once waits in the outbox.
use Rattle.std.proofs.Common.{◌≡◌, ◌≢◌, ◌⊎◌, ℕ, zero, suc, ◌+◌, ◌≤◌, ◌<◌, ◌==◌, Bool, true, false, cond, ◌&&◌, ◌||◌, inl, inr, List, [], ◌∷◌, ◌++◌, find, length, map, Option, None, Some, unwrap_or, refl, sym, ap, ◌∙◌, subst, arith, All, Any, Contains, IsTrue}
use Rattle.std.specs.List.{list_all, list_any}
use Rattle.std.specs.Option.{option_map, option_or}
use Rattle.std.proofs.lemmas.Bool.{eq-eqb, eqb-true}
use Rattle.std.proofs.lemmas.List.{append-nil, length-append}
use Rattle.std.proofs.lemmas.List.Elements.{All-contains, All-head, All-nil, All-push, All-tail, All-weaker, Contains-push}
use Rattle.std.proofs.lemmas.Option.{same_Some}
use Rattle.pc_base.specs.Span.{same_key}
use Rattle.pc_base.specs.Transaction.{same_txn}
use Rattle.pc_call.proofs.Facts.{open_is}
use Rattle.pc_call.specs.declared.later.LaterPut.{LaterPut}
use Rattle.pc_call.specs.declared.purpose.Purpose.{Purpose}
use Rattle.pc_call.specs.declared.purpose.Purpose.TheVariants as purposes
use Rattle.pc_call.specs.Learned.{known_sent, known_told}
use Rattle.pc_call.specs.Opening.{after_send, laid_with}
use Rattle.pc_call.specs.Outbox.{IsHeardOrLeft, IsOnWayAs, IsReplyToMessage, IsSentAs, IsThePut, OutboxStands, WaitsInOutbox, has_put, later_sent}
use Rattle.pc_call.specs.Serving.{InCall, ServesWrite, out_of, write_call}
use Rattle.pc_call.specs.Stages.{HasOutboxBetween}
use Rattle.pc_coord.proofs.Aside.{aside_idle, open_sent, wait_sent}
use Rattle.pc_coord.proofs.Begins.{none_any}
use Rattle.pc_coord.proofs.Ending.{wait_on}
use Rattle.pc_coord.proofs.Fresh.{unsent_idle}
use Rattle.pc_coord.proofs.Ongoing.{later_one, one_there}
use Rattle.pc_coord.proofs.Onward.{served_write}
use Rattle.pc_coord.proofs.Outbox.{all_wait, has_own, left_on}
use Rattle.pc_coord.proofs.Tells.{told_on, told_open}
use Rattle.pc_coord.specs.Aside.{AreUnsent, HasAside, IsFreeToLay, KeepsAside}
use Rattle.pc_coord.specs.Coordination.{Coordination, is_writing, setting_of}
use Rattle.pc_flight.specs.declared.write.WriteInFlight.{WriteInFlight}
use Rattle.pc_lists.proofs.Same.{same_key-self, same_txn-self}
use Rattle.pc_proto.specs.declared.answer.Answer.TheVariants as answers
use Rattle.pc_proto.specs.declared.meta.TxnMeta.{TxnMeta}
use Rattle.pc_proto.specs.declared.request.Request.{Request}
use Rattle.pc_proto.specs.declared.request.Request.TheVariants as requests
use Rattle.pc_proto.specs.Requests.{is_put, is_put_of}
use Rattle.pc_lists.proofs.Lists.{all_from_contains}
use Rattle.pc_txn.proofs.Laying.{seq_low}
use Rattle.pc_txn.proofs.Writes.{below_last}
use Rattle.pc_txn.specs.Counted.{IsCounted, IsOwnHeard, IsOwnSent}
use Rattle.pc_txn.specs.declared.txn.OpenTxn.{OpenTxn}
use Rattle.pc_txn.specs.Opened.{meta_now, next_put, put_at, with_next_write}
use Rattle.pc_txn.specs.Writing.{PutsUpTo, WasAskedAt}
use Rattle.pc_wave.proofs.Sending.{sends_first}
use Rattle.pc_wave.specs.declared.message.Message.{Message}
use Rattle.pc_wave.specs.declared.step.Step.TheVariants as steps
use Rattle.pc_wave.specs.Messages.{first_changed, first_in_conflict, has_answer, is_to_send, sent_under, step_of}
use Rattle.pc_world.specs.Known.{Known, call_in, call_of, next_number}
use Rattle.pc_world.specs.Known.Traffic.{Heard, Sent, replies_to}
use Rattle.pc_world.specs.Known.Transactions.{Txn, anchor_sent, txn_sent, txn_told}
use Rattle.pc_world.specs.Known.Writes.{Write, asked_again, last_seq_of, with_put, writes_sent}

-- ---- the last message that was sent

found_last : (number : ℕ) (sent : List Sent) (m : Sent) → All (λ s. s.number < number) sent → m.number ≡ number → find (λ s. s.number == number) (sent ++ m ∷ []) ≡ Some m
found_last number [] m low same = ap (λ b. cond b (Some m) None) (eq-eqb m.number number same)
found_last number (s ∷ sent) m low same = by (found_last number sent m (All-tail (λ s. s.number < number) s sent low) same) (s.number == number) refl
  where
    by : find (λ s. s.number == number) (sent ++ m ∷ []) ≡ Some m → (b : Bool) → (s.number == number) ≡ b → find (λ s. s.number == number) ((s ∷ sent) ++ m ∷ []) ≡ Some m
    by later true is = let e = eqb-true s.number number is in let less = All-head (λ s. s.number < number) s sent low in absurd (omega (arith, e, less))
    by later false is = ap (λ b. cond b (Some s) (find (λ s. s.number == number) (sent ++ m ∷ []))) is ∙ later

-- ---- a new write was asked for

last_any : {X : Type 0} (P : X → Type 0) (xs : List X) (x : X) → P x → Any P (xs ++ x ∷ [])
last_any P [] x is = (0, x, omega arith, refl, is)
last_any P (y ∷ xs) x is = let e = last_any P xs x is in (suc e.0, e.1, omega (arith, e.2), e.3, e.4)

none_yet : (seq : ℕ) (writes : List Write) → All (λ w. w.seq < seq) writes → list_any (λ w. w.seq == seq) writes ≡ false
none_yet seq [] low = refl
none_yet seq (w ∷ writes) low = ap (λ b. b || list_any (λ w. w.seq == seq) writes) (by (w.seq == seq) refl) ∙ none_yet seq writes (All-tail (λ w. w.seq < seq) w writes low)
  where
    by : (b : Bool) → (w.seq == seq) ≡ b → (w.seq == seq) ≡ false
    by true is = let e = eqb-true w.seq seq is in let less = All-head (λ w. w.seq < seq) w writes low in absurd (omega (arith, e, less))
    by false is = is

asked_new : (t : Txn) (meta : TxnMeta) (seq ts : ℕ) (key : List ℕ) (value : Option (List ℕ)) → same_txn meta.id t.id ≡ true → (meta.epoch == t.epoch) ≡ true → last_seq_of t.writes < seq → WasAskedAt (txn_sent (requests.Put meta seq ts key value) t) seq ts
asked_new t meta seq ts key value own now less =
    let P : Write → Type 0 = λ w. (w.seq ≡ seq) × Contains w.asked ts in
    let new : Write = record { key = key; seq = seq; value = value; asked = ts ∷ []; proofs = [] } in
    let none = none_yet seq t.writes (All-weaker (λ w. w.seq ≤ last_seq_of t.writes) (λ w. w.seq < seq) (λ w low. omega (arith, low, less)) t.writes (below_last t.writes)) in
    let is : writes_sent t.id t.epoch (requests.Put meta seq ts key value) t.writes ≡ t.writes ++ new ∷ [] =
    ap (λ b. cond (b && (meta.epoch == t.epoch)) (with_put seq ts key value t.writes) t.writes) own
    ∙ ap (λ b. cond (true && b) (with_put seq ts key value t.writes) t.writes) now
    ∙ ap (λ b. cond b (map (asked_again seq ts) t.writes) (t.writes ++ new ∷ [])) none in
    subst (λ ws. Any P ws) (sym is) (last_any P t.writes new (refl, (0, omega arith, refl)))

or_is : (o : Option (List ℕ)) (key : List ℕ) → option_or o (Some key) ≡ Some (unwrap_or o key)
or_is None key = refl
or_is (Some anchor) key = refl

module _ (loses : Bool) (c : Coordination) (k : Known) (x : OpenTxn) (p : Purpose) (ms : List Message) (w : InCall (setting_of loses c) k x p ms) (a : KeepsAside loses c.pipelining k x p c.later ms) (counted : IsCounted c.session c.clock c.begun k)
    (writes : p ≡ purposes.Write) (once : (c.pipelining && is_writing p) ≡ true) (number range : ℕ) (request : Request) (due : step_of ms ≡ steps.Send request) (next : number ≡ next_number k) where
  abbrev ks : Known
  ks = known_sent number range request k

  abbrev m2 : Sent
  m2 = record { number = number; range = range; request = request }

  abbrev t : Txn
  t = a.outbox.has.t

  abbrev ts : Txn
  ts = txn_sent request t

  abbrev xs : OpenTxn
  xs = after_send p ms x

  s : ServesWrite k w.s w.t x ms
  s = served_write (setting_of loses c) k x p ms w writes

  f : (m : Message) × (find is_to_send ms ≡ Some m) × (m.request ≡ request)
  f = sends_first (first_in_conflict ms) (find is_to_send ms) (list_all has_answer ms) request due

  same_m : s.m ≡ f.0
  same_m = one_there s.m f.0 (subst (λ ms. find is_to_send ms ≡ Some f.0) s.one f.1)

  free : All (λ f. same_key f.key s.key ≡ false) x.in_flight
  free = subst (λ b. IsFreeToLay b k x) once a.free s.key s.value (ap call_in w.opened ∙ ap (λ call. Some call) s.call)

  said : s.m.request ≡ next_put x s.key s.value
  said = elim s.lays [
    | inl l ↦ l.said
    | inr l ↦
        (let e : false ≡ true = sym (All-contains (λ f. same_key f.key s.key ≡ false) x.in_flight l.w free l.there) ∙ (ap (λ key. same_key key s.key) l.place ∙ same_key-self s.key) in
        absurd cc)
  ]

  req : request ≡ next_put x s.key s.value
  req = sym f.2 ∙ (ap (λ (m : Message). m.request) (sym same_m) ∙ said)

  xs_is : xs ≡ with_next_write s.key s.value x
  xs_is =
      ap (λ p. after_send p ms x) writes
      ∙ ap (λ ms. after_send purposes.Write ms x) s.one
      ∙ ap (λ r. laid_with r x) said
      ∙ ap (λ b. cond b x (with_next_write s.key s.value x)) (none_any (λ f. same_key f.key s.key) x.in_flight free)

  same_t : w.t ≡ t
  same_t = same_Some w.t t (sym (open_is k w.t w.open_in) ∙ a.outbox.has.opened)

  abbrev anchor : List ℕ
  anchor = unwrap_or x.anchor s.key

  abbrev new : WriteInFlight
  new = record { key = s.key; seq = x.seq + 1; value = s.value }

  id_is : x.id ≡ t.id
  id_is = ap (λ x. x.id) w.stands.same ∙ ap (λ (t : Txn). t.id) same_t

  epoch_is : x.epoch ≡ t.epoch
  epoch_is = ap (λ x. x.epoch) w.stands.same ∙ ap (λ (t : Txn). t.epoch) same_t

  seq_is : x.seq ≡ last_seq_of t.writes
  seq_is = ap (λ x. x.seq) w.stands.same ∙ ap (λ (t : Txn). last_seq_of t.writes) same_t

  own_id : same_txn x.id t.id ≡ true
  own_id = ap (λ id. same_txn id t.id) id_is ∙ same_txn-self t.id

  anchored : ts.anchor ≡ Some anchor
  anchored =
      ap (λ r. anchor_sent t.id r t.anchor) req
      ∙ ap (λ b. cond b (option_or t.anchor (Some s.key)) t.anchor) own_id
      ∙ or_is t.anchor s.key
      ∙ ap (λ o. Some (unwrap_or o s.key)) (sym (ap (λ x. x.anchor) w.stands.same ∙ ap (λ (t : Txn). t.anchor) same_t))

  abbrev put : LaterPut
  put = record { number = number; request = request }

  low_sent : All (λ m. m.number < number) k.sent
  low_sent = All-weaker (IsOwnSent c.session k.begun (length k.sent)) (λ m. m.number < number) (λ m o. let n = o.numbered in omega (arith, n, next)) k.sent counted.sent

  puts_low : (r : Request) → PutsUpTo w.t (last_seq_of w.t.writes) r → IsTrue (is_put_of t.id t.epoch (x.seq + 1) r) → ⊥
  puts_low r up is =
      let here : IsTrue (is_put_of w.t.id w.t.epoch (x.seq + 1) r) = subst (λ (t : Txn). IsTrue (is_put_of t.id t.epoch (x.seq + 1) r)) (sym same_t) is in
      let low = (up w.t.epoch (x.seq + 1) here).1 refl in
      omega (arith, low, ap (λ x. x.seq) w.stands.same)

  -- it waits there
  pub new_waits : WaitsInOutbox ks ts xs put
  new_waits = record {
    w = new;
    there = subst (λ (y : OpenTxn). Contains y.in_flight new) (sym xs_is) (Contains-push x.in_flight new);
    anchor = anchor;
    anchored = anchored;
    ts = x.write_ts;
    said = req ∙ ap (λ y. put_at y anchor x.write_ts new) (sym xs_is);
    low = omega (arith, ap (λ x. x.write_ts) w.stands.same, ap (λ (t : Txn). t.write_ts) same_t);
    asked =
        subst (λ r. WasAskedAt (txn_sent r t) (x.seq + 1) x.write_ts) (sym req)
        (asked_new t (meta_now x anchor) (x.seq + 1) x.write_ts s.key s.value own_id (eq-eqb x.epoch t.epoch epoch_is) (omega (arith, seq_is)));
    numbered = omega (arith, next, length-append k.sent (m2 ∷ []));
    sent = ap (option_map (λ s. s.request)) (found_last number k.sent m2 low_sent refl);
    once =
        All-push (IsThePut ts (x.seq + 1) put) k.sent m2
        (All-weaker (λ m. PutsUpTo w.t (last_seq_of w.t.writes) m.request) (IsThePut ts (x.seq + 1) put) (λ m up is. absurd (puts_low m.request up is)) k.sent w.stands.puts)
        (λ is. (refl, refl));
    unheard = All-weaker (IsOwnHeard c.session k.begun (length k.sent)) (λ h. h.number ≢ number) (λ h o same. let n = o.numbered in omega (arith, n, next, same)) k.heard counted.heard;
    unput = All-weaker (λ h. PutsUpTo w.t (last_seq_of w.t.writes) h.request) (λ h. IsTrue (is_put_of ts.id ts.epoch (x.seq + 1) h.request) → ⊥) (λ h up is. puts_low h.request up is) k.heard w.stands.put_heard;
  }

  h : HasAside loses k x c.later
  h = aside_idle c.pipelining k x p c.later ms a (λ n. unsent_idle n ms (subst (λ b. AreUnsent b ms) once a.unsent))

  -- what waited before waits on
  push_waits : (later : List LaterPut) → OutboxStands k t x later → OutboxStands ks ts xs later → OutboxStands ks ts xs (later ++ put ∷ [])
  push_waits [] old now = (new_waits, All-nil (λ (q : LaterPut). (seq : ℕ) → has_put seq put.request ≡ true → (other : ℕ) → has_put other q.request ≡ true → seq < other), tt)
  push_waits (q ∷ qs) old now =
      let B : LaterPut → Type 0 = λ later. (seq : ℕ) → has_put seq q.request ≡ true → (other : ℕ) → has_put other later.request ≡ true → seq < other in
      let o : WaitsInOutbox k t x q = old.0 in (
        now.0,
        All-push B qs put now.1
            (λ seq is other too.
            let mine : seq ≡ o.w.seq = one_seq seq o.w.seq q.request is (has_own x o.anchor o.ts o.w q.request o.said) in
            let new_seq : x.seq + 1 ≡ other = eqb-true (x.seq + 1) other (sym (ap (has_put other) req) ∙ too) in
            let low = seq_low k w.stages (out_of p ms) w.t x w.stands o.w o.there in
            omega (arith, mine, new_seq, low, ap (λ x. x.seq) w.stands.same)),
        push_waits qs old.2 now.2,
      )
    where
      one_seq : (one other : ℕ) (r : Request) → has_put one r ≡ true → has_put other r ≡ true → one ≡ other
      one_seq one other (requests.Put meta own ts at what) a b = sym (eqb-true own one a) ∙ eqb-true own other b
      one_seq one other r a b = absurd cc

  abbrev k3 : Known
  k3 = known_told answers.Written ks

  abbrev t3 : Txn
  t3 = txn_told answers.Written (replies_to ks.sent_now ks.heard_now) ts

  abbrev later2 : List LaterPut
  later2 = c.later ++ put ∷ []

  waits_then : OutboxStands k3 t3 xs later2
  waits_then =
      all_wait ks k3 [] [] (sym (append-nil ks.sent)) (sym (append-nil ks.heard)) ts t3 xs xs (told_on answers.Written (replies_to ks.sent_now ks.heard_now) ts xs xs tt (λ anchor. refl)) later2
      (push_waits c.later a.outbox.has.stands (wait_sent (setting_of loses c) k x p ms w c.pipelining c.later a number range request due))
      (all_from_contains (λ q. (o : WaitsInOutbox ks ts xs q) → Contains xs.in_flight o.w × All (λ (m : Sent). has_put o.w.seq m.request ≡ false) [] × All (λ (h : Heard). (h.number ≢ q.number) × (has_put o.w.seq h.request ≡ false)) []) later2
      (λ q there o. (o.there, All-nil (λ (m : Sent). has_put o.w.seq m.request ≡ false), All-nil (λ (h : Heard). (h.number ≢ q.number) × (has_put o.w.seq h.request ≡ false)))))

  any_front : {X : Type 0} (P : X → Type 0) (xs ys : List X) → Any P xs → Any P (xs ++ ys)
  any_front P [] ys (n, y, low, same, is) = absurd (omega (arith, low))
  any_front P (one ∷ xs) ys (zero, y, low, same, is) = (0, y, omega arith, same, is)
  any_front P (one ∷ xs) ys (suc n, y, low, same, is) = let e = any_front P xs ys (n, y, omega (arith, low), same, is) in (suc e.0, e.1, omega (arith, e.2), e.3, e.4)

  more_left : (m : Sent) → IsHeardOrLeft k.heard [] t3 c.later [] m → IsHeardOrLeft k.heard [] t3 later2 [] m
  more_left m (inl was) = inl was
  more_left m (inr (inl beside)) = inr (inl beside)
  more_left m (inr (inr l)) = inr (inr (record { put = l.put; waits = λ seq is. by (l.waits seq is) }))
    where
      by : Any (IsSentAs m) c.later ⊎ Any (IsOnWayAs m) [] ⊎ Any (IsReplyToMessage m) [] → Any (IsSentAs m) later2 ⊎ Any (IsOnWayAs m) [] ⊎ Any (IsReplyToMessage m) []
      by (inl waits) = inl (any_front (IsSentAs m) c.later (put ∷ []) waits)
      by (inr other) = inr other

  left_then : loses ≡ false → All (IsHeardOrLeft k3.heard [] t3 later2 []) k3.sent
  left_then quiet =
      let o : HasOutboxBetween loses (known_told answers.Written k) x c.later = wait_on k x x c.later answers.Written w.split h tt ((λ anchor. refl), (λ f there. there)) in
      let same : o.t ≡ txn_told answers.Written (replies_to k.sent_now k.heard_now) t = same_Some o.t (txn_told answers.Written (replies_to k.sent_now k.heard_now) t) (sym o.opened ∙ told_open answers.Written k t tt a.outbox.has.opened) in
      All-push (IsHeardOrLeft k.heard [] t3 later2 []) k.sent m2
      (All-weaker (IsHeardOrLeft k.heard [] t3 c.later []) (IsHeardOrLeft k.heard [] t3 later2 []) more_left k.sent
      (left_on o.t t3 (sym (ap (λ (t : Txn). t.id) same)) (sym (ap (λ (t : Txn). t.epoch) same)) k.heard k.heard [] [] c.later [] [] (λ m is. is) (λ m is. is) (λ m q there on. absurd (omega (arith, there.1))) k.sent (o.left quiet)))
      (inr (inr (record { put = ap is_put req; waits = λ seq is. inl (last_any (IsSentAs m2) c.later put (record { numbered = refl; asked = refl })) })))

  -- so the put is set aside
  pub set_aside : HasOutboxBetween loses (known_told answers.Written ks) xs (c.later ++ later_sent number (first_changed is_to_send (sent_under number) ms))
  set_aside =
      subst (λ ps. HasOutboxBetween loses k3 xs (c.later ++ ps)) (sym (later_one (setting_of loses c) k x p ms w writes number request due))
      (record { t = t3; opened = told_open answers.Written ks ts tt (open_sent k number range request t a.outbox.has.opened); stands = waits_then; left = left_then })

  -- no write of its key was in flight
  pub lay_key : (key : List ℕ) × (value : Option (List ℕ)) × (call_of k ≡ Some (write_call key value)) × All (λ f. same_key f.key key ≡ false) x.in_flight
  lay_key = (s.key, s.value, ap call_in w.opened ∙ ap (λ call. Some call) s.call, free)
