-- What stands aside of an open call stands so still once a message was sent, a reply heard, or a round made.
use Rattle.std.proofs.Common.{◌<◌, ◌≡◌, ◌≢◌, ℕ, zero, suc, ◌+◌, ◌==◌, Bool, true, false, cond, ◌&&◌, ◌||◌, ◌⊎◌, inl, inr, List, [], ◌∷◌, ◌++◌, find, map, Option, None, Some, refl, sym, ap, ◌∙◌, subst, arith, All, Any, Contains, IsTrue}
use Rattle.std.specs.List.{list_all, list_any}
use Rattle.std.specs.Option.{option_or}
use Rattle.std.proofs.lemmas.Bool.{eq-eqb}
use Rattle.std.proofs.lemmas.List.{append-nil}
use Rattle.std.proofs.lemmas.List.Elements.{All-append, All-cons, All-contains, All-head, All-nil, All-push, All-tail, All-weaker, Contains-append_left}
use Rattle.std.proofs.lemmas.Option.{same_Some}
use Rattle.pc_base.specs.declared.limits.TheConstants.{MOST_CONFLICTS}
use Rattle.pc_base.specs.declared.transaction.TxnId.{TxnId}
use Rattle.pc_base.specs.Span.{same_key}
use Rattle.pc_base.specs.Transaction.{same_txn}
use Rattle.pc_call.specs.declared.later.LaterPut.{LaterPut}
use Rattle.pc_call.specs.declared.purpose.Purpose.{Purpose}
use Rattle.pc_call.specs.declared.purpose.Purpose.TheVariants as purposes
use Rattle.pc_call.specs.Learned.{known_heard, known_sent}
use Rattle.pc_call.specs.Opening.{after_send, laid_with, staged_by}
use Rattle.pc_call.specs.Outbox.{IsApartFrom, IsHeardOrLeft, IsOnWayAs, IsReplyToMessage, OutboxStands, WaitsInOutbox, has_put}
use Rattle.pc_call.specs.Serving.{InCall}
use Rattle.pc_call.specs.Setting.{Setting}
use Rattle.pc_call.specs.Stages.{KeepsOutbox, WaitsBeside}
use Rattle.pc_coord.proofs.Outbox.{GoesOnAs, all_wait, any_to, awaits_in, has_own, keeps_idle, left_on, same_sent, still_heard}
use Rattle.pc_coord.specs.Aside.{AreUnsent, AsksForOthers, HasAside, HasProofs, IsFreeToLay, IsHeardOrOut, KeepsAside, LeavesNoneWaiting}
use Rattle.pc_coord.specs.Coordination.{is_writing}
use Rattle.pc_flight.specs.declared.write.WriteInFlight.{WriteInFlight}
use Rattle.pc_follows.specs.PipelinedPuts.{heard_before}
use Rattle.pc_lists.proofs.Lists.{all_from_contains}
use Rattle.pc_proto.specs.declared.reply.Reply.{Reply}
use Rattle.pc_proto.specs.declared.request.Request.{Request}
use Rattle.pc_proto.specs.declared.request.Request.TheVariants as requests
use Rattle.pc_proto.specs.Replies.{is_conflict}
use Rattle.pc_proto.specs.Requests.{is_stage}
use Rattle.pc_txn.proofs.Again.{asked_heard, asked_sent}
use Rattle.pc_txn.specs.declared.txn.OpenTxn.{OpenTxn}
use Rattle.pc_txn.specs.Opened.{meta_now, with_next_write}
use Rattle.pc_txn.specs.Staged.{with_stage}
use Rattle.pc_txn.specs.Standing.{is_query_of}
use Rattle.pc_wave.proofs.ForCall.{same_before}
use Rattle.pc_wave.proofs.Hearing.{awaits_as}
use Rattle.pc_wave.proofs.Sending.{sends_first}
use Rattle.pc_wave.specs.declared.message.Message.{Message}
use Rattle.pc_wave.specs.declared.message.Progress.{Progress}
use Rattle.pc_wave.specs.declared.message.Progress.TheVariants as progresses
use Rattle.pc_wave.specs.declared.step.Step.TheVariants as steps
use Rattle.pc_wave.specs.Messages.{awaits_at, back_with, back_with_by, conflicts_at, first_changed, first_in_conflict, goes_again, has_answer, is_to_send, progress_awaits, progress_conflicts, progress_to_send, sent_under, step_of, wave_awaits}
use Rattle.pc_wave.specs.Standing.{HasMore, IsAsFar, IsHeardTo, IsOnItsWay, MessageStands, goes_beside}
use Rattle.pc_world.specs.Known.{Known, call_in, first_if, open_txn}
use Rattle.pc_world.specs.Known.Traffic.{Heard, Sent, request_sent}
use Rattle.pc_world.specs.Known.Transactions.{Txn, anchor_sent, txn_heard, txn_sent}
use Rattle.pc_world.specs.Tell.Data.{sent_before}
use Rattle.pc_world.specs.Tell.Refusal.{is_heard}

-- ---- messages of a wave

pub awaited_in : (number : ℕ) (ms : List Message) → wave_awaits number ms ≡ true → (m : Message) × Contains ms m × (awaits_at number m ≡ true)
awaited_in number [] waits = absurd cc
awaited_in number (m ∷ ms) waits = by (awaited_in number ms) (awaits_at number m) refl waits
  where
    by : (wave_awaits number ms ≡ true → (m : Message) × Contains ms m × (awaits_at number m ≡ true)) → (b : Bool) → awaits_at number m ≡ b → (b || wave_awaits number ms) ≡ true → (q : Message) × Contains (m ∷ ms) q × (awaits_at number q ≡ true)
    by later true is e = (m, (0, omega arith, refl), is)
    by later false is e = let f = later e in (f.0, (suc f.1.0, omega (arith, f.1.1), f.1.2), f.2)

-- a message waits under one number
pub one_number : (n other : ℕ) (m : Message) → awaits_at n m ≡ true → awaits_at other m ≡ true → n ≡ other
one_number n other m one two = let e : progresses.Sent n ≡ progresses.Sent other = sym (awaits_as n m.progress one) ∙ awaits_as other m.progress two in cc

module _ (test : Message → Bool) (change : Message → Message) where
  -- an element that does not pass stays
  pub kept_other : (ms : List Message) (q : Message) → test q ≡ false → Contains ms q → Contains (first_changed test change ms) q
  kept_other [] q isnt (n, low, same) = absurd (omega (arith, low))
  kept_other (m ∷ ms) q isnt (zero, low, same) =
      let not : test m ≡ false = ap test same ∙ isnt in
      subst (λ b. Contains (cond b (change m ∷ ms) (m ∷ first_changed test change ms)) q) (sym not) (0, omega arith, same)
  kept_other (m ∷ ms) q isnt (suc n, low, same) = by (kept_other ms q isnt (n, omega (arith, low), same)) (test m)
    where
      by : Contains (first_changed test change ms) q → (b : Bool) → Contains (cond b (change m ∷ ms) (m ∷ first_changed test change ms)) q
      by rest true = (suc n, omega (arith, low), same)
      by rest false = (suc rest.0, omega (arith, rest.1), rest.2)

  -- the one that is found is there, changed
  pub changed_in : (ms : List Message) (q : Message) → find test ms ≡ Some q → Contains (first_changed test change ms) (change q)
  changed_in [] q found = absurd cc
  changed_in (m ∷ ms) q found = by (changed_in ms q) (test m) found
    where
      by : (find test ms ≡ Some q → Contains (first_changed test change ms) (change q)) → (b : Bool) → cond b (Some m) (find test ms) ≡ Some q → Contains (cond b (change m ∷ ms) (m ∷ first_changed test change ms)) (change q)
      by rest true is = (0, omega arith, ap change (same_Some m q is))
      by rest false is = let f = rest is in (suc f.0, omega (arith, f.1), f.2)

  pub all_changed : (P : Message → Type 0) → ((m : Message) → P m → P (change m)) → (ms : List Message) → All P ms → All P (first_changed test change ms)
  all_changed P on [] a = All-nil P
  all_changed P on (m ∷ ms) a = by (all_changed P on ms (All-tail P m ms a)) (test m)
    where
      by : All P (first_changed test change ms) → (b : Bool) → All P (cond b (change m ∷ ms) (m ∷ first_changed test change ms))
      by rest true = All-cons P (change m) ms (on m (All-head P m ms a)) (All-tail P m ms a)
      by rest false = All-cons P m (first_changed test change ms) (All-head P m ms a) rest

  -- what is apart from these messages is apart from them as they are then
  pub apart_changed : ((m : Message) → (change m).request ≡ m.request) → (ms : List Message) (later : List LaterPut) → All (IsApartFrom ms) later → All (IsApartFrom (first_changed test change ms)) later
  apart_changed same ms later a =
      All-weaker (IsApartFrom ms) (IsApartFrom (first_changed test change ms))
      (λ put apart.
      let P : Message → Type 0 = λ m. (seq : ℕ) → has_put seq put.request ≡ true → has_put seq m.request ≡ false in
      all_changed P (λ m none seq is. ap (has_put seq) (same m) ∙ none seq is) ms apart) later a

  -- nor are they fewer
  pub changed_some : (ms : List Message) → ms ≢ [] → first_changed test change ms ≢ []
  changed_some [] some = absurd (some refl)
  changed_some (m ∷ ms) some = by (test m)
    where
      by : (b : Bool) → cond b (change m ∷ ms) (m ∷ first_changed test change ms) ≡ [] → ⊥
      by true e = cc
      by false e = cc

  pub proofs_changed : (p : Purpose) (ms : List Message) → HasProofs p ms → HasProofs p (first_changed test change ms)
  proofs_changed (purposes.Prove call all) ms some = changed_some ms some
  proofs_changed p ms some = tt

pub some_proofs : (p : Purpose) (ms : List Message) → ms ≢ [] → HasProofs p ms
some_proofs (purposes.Prove call all) ms some = some
some_proofs p ms some = tt

pub found_in : (test : Message → Bool) (ms : List Message) (q : Message) → find test ms ≡ Some q → Contains ms q
found_in test [] q found = absurd cc
found_in test (m ∷ ms) q found = by (found_in test ms q) (test m) found
  where
    by : (find test ms ≡ Some q → Contains ms q) → (b : Bool) → cond b (Some m) (find test ms) ≡ Some q → Contains (m ∷ ms) q
    by rest true is = (0, omega arith, same_Some m q is)
    by rest false is = let f = rest is in (suc f.0, omega (arith, f.1), f.2)

-- ---- the open transaction

first_mapped : (b : Bool) (f : Txn → Txn) (ts : List Txn) (t : Txn) → first_if b ts ≡ Some t → first_if b (map f ts) ≡ Some (f t)
first_mapped true f [] t e = absurd cc
first_mapped true f (u ∷ ts) t e = ap (λ t. Some (f t)) (same_Some u t e)
first_mapped false f [] t e = absurd cc
first_mapped false f (u ∷ ts) t e = absurd cc

pub open_heard : (k : Known) (h : Heard) (t : Txn) → open_txn k ≡ Some t → open_txn (known_heard h k) ≡ Some (txn_heard k.sent (Some h) t)
open_heard k h t e = first_mapped k.is_open (txn_heard k.sent (Some h)) k.txns t e

pub open_sent : (k : Known) (number range : ℕ) (request : Request) (t : Txn) → open_txn k ≡ Some t → open_txn (known_sent number range request k) ≡ Some (txn_sent request t)
open_sent k number range request t e = first_mapped k.is_open (txn_sent request) k.txns t e

-- no query beside asks for a write of the transaction as it is named
others_as : (k k2 : Known) (t t2 : Txn) → open_txn k ≡ Some t → open_txn k2 ≡ Some t2 → t2.id ≡ t.id → (more : List Sent) → k2.sent_now ≡ k.sent_now ++ more → All (λ m. goes_beside m.request ≡ true → is_query_of t.id m.request ≡ false) more → AsksForOthers k → AsksForOthers k2
others_as k k2 t t2 opened opened2 id more sent none others u is =
    let P : TxnId → Sent → Type 0 = λ id m. goes_beside m.request ≡ true → is_query_of id m.request ≡ false in
    let same : u.id ≡ t.id = ap (λ (t : Txn). t.id) (same_Some u t2 (sym is ∙ opened2)) ∙ id in
    subst (λ id. All (P id) k2.sent_now) (sym same) (subst (λ ms. All (P t.id) ms) (sym sent) (All-append (P t.id) k.sent_now more (others t opened) none))

free_no : (b : Bool) (k : Known) (x : OpenTxn) → IsFreeToLay (b && false) k x
free_no true k x = tt
free_no false k x = tt

unsent_no : (b : Bool) (ms : List Message) → AreUnsent (b && false) ms
unsent_no true ms = tt
unsent_no false ms = tt

pub unsent_aside : (b : Bool) (p : Purpose) (ms : List Message) → is_writing p ≡ false → AreUnsent (b && is_writing p) ms
unsent_aside b p ms isnt = subst (λ w. AreUnsent (b && w) ms) (sym isnt) (unsent_no b ms)

pub unsent_all : (b : Bool) (ms : List Message) → All (λ m. is_to_send m ≡ true) ms → AreUnsent b ms
unsent_all true ms a = a
unsent_all false ms a = tt

to_send_waits : (n : ℕ) (p : Progress) → progress_to_send p ≡ true → progress_awaits n p ≡ true → ⊥
to_send_waits n progresses.ToSend e waits = cc
to_send_waits n (progresses.Sent number) e waits = cc
to_send_waits n (progresses.Met number conflict) e waits = cc
to_send_waits n (progresses.Answered number reply) e waits = cc

-- where a reply is waited for, the call is not told at once
pub out_once : (b : Bool) (number : ℕ) (ms : List Message) → AreUnsent b ms → wave_awaits number ms ≡ true → b ≡ false
out_once true number ms a waits = let o = awaited_in number ms waits in absurd (to_send_waits number o.0.progress (All-contains (λ m. is_to_send m ≡ true) ms o.0 a o.1) o.2)
out_once false number ms a waits = refl

back_unsent : (b : Bool) (number : ℕ) (ms ms2 : List Message) → AreUnsent b ms → wave_awaits number ms ≡ true → AreUnsent b ms2
back_unsent b number ms ms2 a waits = subst (λ b. AreUnsent b ms2) (sym (out_once b number ms a waits)) tt

pub free_on : (b : Bool) (k k2 : Known) (x : OpenTxn) → k2.statement ≡ k.statement → IsFreeToLay b k x → IsFreeToLay b k2 x
free_on true k k2 x same free = λ key value is. free key value (sym (ap call_in same) ∙ is)
free_on false k k2 x same free = tt

-- where the call does not write, that says nothing
pub free_aside : (b : Bool) (p : Purpose) (k : Known) (x : OpenTxn) → is_writing p ≡ false → IsFreeToLay (b && is_writing p) k x
free_aside b p k x isnt = subst (λ w. IsFreeToLay (b && w) k x) (sym isnt) (free_no b k x)

-- ---- a reply is heard

last_heard : (m : Sent) (hs : List Heard) (h : Heard) → h.number ≡ m.number → IsTrue (is_heard (hs ++ h ∷ []) m)
last_heard m [] h same = ap (λ b. b || false) (eq-eqb h.number m.number same)
last_heard m (g ∷ hs) h same = by (g.number == m.number) (last_heard m hs h same)
  where
    by : (b : Bool) → IsTrue (is_heard (hs ++ h ∷ []) m) → IsTrue (b || is_heard (hs ++ h ∷ []) m)
    by true is = refl
    by false is = is

module _ (set : Setting) (k : Known) (x : OpenTxn) (p : Purpose) (ms : List Message) (w : InCall set k x p ms) (b : Bool) (later : List LaterPut) (a : KeepsAside set.course.loses b k x p later ms) (number : ℕ) (reply : Reply) (h : Heard) (waited : wave_awaits number ms ≡ true) (is : IsHeardTo k number reply h) where
  abbrev k2 : Known
  k2 = known_heard h k

  abbrev t : Txn
  t = a.outbox.has.t

  abbrev t2 : Txn
  t2 = txn_heard k.sent (Some h) t

  more : HasMore k k2 [] (h ∷ [])
  more = record { sent = sym (append-nil k.sent); sent_now = sym (append-nil k.sent_now); heard = refl; heard_now = refl }

  pub own : (m : Message) × Contains ms m × (awaits_at number m ≡ true)
  own = awaited_in number ms waited

  pub own_request : own.0.request ≡ h.request
  own_request =
      let s : MessageStands set.course k own.0 = All-contains (MessageStands set.course k) ms own.0 w.wave.stand own.1 in
      let far : IsOnItsWay set.course k number own.0.request × (own.0.conflicts < MOST_CONFLICTS) = subst (λ p. IsAsFar set.course k own.0.request own.0.conflicts p) (awaits_as number own.0.progress own.2) s.as_far in
      same_Some own.0.request h.request (sym far.0.out.said ∙ is.asked)

  replied : (put : LaterPut) → Contains later put → (o : WaitsInOutbox k t x put) → (h.number ≢ put.number) × (has_put o.w.seq h.request ≡ false)
  replied put there o =
      let mine : has_put o.w.seq put.request ≡ true = has_own x o.anchor o.ts o.w put.request o.said in
      let apart : IsApartFrom ms put = All-contains (IsApartFrom ms) later put a.outbox.apart there in
      let none : has_put o.w.seq h.request ≡ false = sym (ap (has_put o.w.seq) own_request) ∙ All-contains (λ m. (seq : ℕ) → has_put seq put.request ≡ true → has_put seq m.request ≡ false) ms own.0 apart own.1 o.w.seq mine in (
        (λ same.
            let said : Some put.request ≡ Some h.request = sym o.sent ∙ (ap (λ n. request_sent n k.sent) (sym same ∙ is.numbered) ∙ is.asked) in
            let e : true ≡ false = sym mine ∙ (ap (has_put o.w.seq) (same_Some put.request h.request said) ∙ none) in
            cc),
        none,
      )

  goes_on : (x2 : OpenTxn) → ((anchor : List ℕ) → meta_now x2 anchor ≡ meta_now x anchor) → GoesOnAs t t2 x x2
  goes_on x2 meta = record { id = refl; epoch = refl; anchored = λ anchor is. is; up = omega arith; asked = λ seq ts was. asked_heard seq ts t k.sent h was; meta = meta }

  module _ (x2 : OpenTxn) (meta : (anchor : List ℕ) → meta_now x2 anchor ≡ meta_now x anchor) (there2 : (f : WriteInFlight) → Contains x.in_flight f → has_put f.seq h.request ≡ false → Contains x2.in_flight f)
      (ms2 : List Message) (gone : set.course.loses ≡ false → (q : Message) → Contains ms q → (n : ℕ) → awaits_at n q ≡ true → (n ≡ number) ⊎ Contains ms2 q) where
    way : set.course.loses ≡ false → (m : Sent) (q : Message) → Contains ms q → IsOnWayAs m q → Any (IsOnWayAs m) ms2 ⊎ Any (IsReplyToMessage m) k2.heard_now
    way quiet m q there on =
        elim (gone quiet q there m.number on.waited) [
          | inl same ↦
              inr
              (let n : h.number ≡ m.number = is.numbered ∙ sym same in
              let here : awaits_at number q ≡ true = subst (λ n. awaits_at n q ≡ true) same on.waited in
              let r : h.request ≡ m.request = same_Some h.request q.request (sym is.asked ∙ said_of q there here) ∙ on.asked in
              replied_last m (record { numbered = n; asked = r }))
          | inr stays ↦ inl (stays.0, q, stays.1, stays.2, on)
        ]
      where
        said_of : (q : Message) → Contains ms q → awaits_at number q ≡ true → request_sent number k.sent ≡ Some q.request
        said_of q there here =
            let s : MessageStands set.course k q = All-contains (MessageStands set.course k) ms q w.wave.stand there in
            let far : IsOnItsWay set.course k number q.request × (q.conflicts < MOST_CONFLICTS) = subst (λ p. IsAsFar set.course k q.request q.conflicts p) (awaits_as number q.progress here) s.as_far in
            far.0.out.said

        replied_last : (m : Sent) → IsReplyToMessage m h → Any (IsReplyToMessage m) (k.heard_now ++ h ∷ [])
        replied_last m r = last k.heard_now
          where
            last : (hs : List Heard) → Any (IsReplyToMessage m) (hs ++ h ∷ [])
            last [] = (0, h, omega arith, refl, r)
            last (g ∷ hs) = let f = last hs in (suc f.0, f.1, omega (arith, f.2), f.3, f.4)

    kept : (m : Sent) → Any (IsReplyToMessage m) k.heard_now → Any (IsReplyToMessage m) k2.heard_now
    kept m some = on k.heard_now some
      where
        on : (hs : List Heard) → Any (IsReplyToMessage m) hs → Any (IsReplyToMessage m) (hs ++ h ∷ [])
        on [] (n, g, low, same, r) = absurd (omega (arith, low))
        on (f ∷ hs) (zero, g, low, same, r) = (0, g, omega arith, same, r)
        on (f ∷ hs) (suc n, g, low, same, r) = let e = on hs (n, g, omega (arith, low), same, r) in (suc e.0, e.1, omega (arith, e.2), e.3, e.4)

    -- the puts that wait do so still
    pub outbox_heard : WaitsBeside set.course.loses (sent_before k2) (heard_before k2) k2.heard_now k2 x2 later ms2
    outbox_heard = record {
      t = t2;
      opened = open_heard k h t a.outbox.has.opened;
      stands =
          all_wait k k2 [] (h ∷ []) more.sent more.heard t t2 x x2 (goes_on x2 meta) later a.outbox.has.stands
          (all_from_contains (λ put. (o : WaitsInOutbox k t x put) → Contains x2.in_flight o.w × All (λ (m : Sent). has_put o.w.seq m.request ≡ false) [] × All (λ (h : Heard). (h.number ≢ put.number) × (has_put o.w.seq h.request ≡ false)) (h ∷ [])) later
          (λ put there o.
          let r = replied put there o in
          (there2 o.w o.there r.1, All-nil (λ (m : Sent). has_put o.w.seq m.request ≡ false), All-cons (λ h. (h.number ≢ put.number) × (has_put o.w.seq h.request ≡ false)) h [] r (All-nil (λ h. (h.number ≢ put.number) × (has_put o.w.seq h.request ≡ false))))));
      left = λ quiet.
          let same = same_before k k2 [] (h ∷ []) more in
          left_on t t2 refl refl (heard_before k) (heard_before k2) k.heard_now k2.heard_now later ms ms2 (λ m was. subst (λ hs. IsTrue (is_heard hs m)) (sym same) was) kept (way quiet) (sent_before k) (a.outbox.has.left quiet);
    }

    pub all_heard : set.course.loses ≡ false → All (IsHeardOrOut k2 ms2) k2.sent_now
    all_heard quiet = All-weaker (IsHeardOrOut k ms) (IsHeardOrOut k2 ms2) by k.sent_now (a.heard quiet)
      where
        by : (m : Sent) → IsHeardOrOut k ms m → IsHeardOrOut k2 ms2 m
        by m (inl was) = inl (still_heard m k.heard_now (h ∷ []) k2.heard_now refl was)
        by m (inr (inl beside)) = inr (inl beside)
        by m (inr (inr out)) =
            any_to (IsOnWayAs m) (IsHeardOrOut k2 ms2 m) ms
            (λ q there on. elim (gone quiet q there m.number on.waited) [ inl same ↦ inl (last_heard m k.heard_now h (is.numbered ∙ sym same)) | inr stays ↦ inr (inr (stays.0, q, stays.1, stays.2, on)) ]) out

  pub others_heard : AsksForOthers k2
  others_heard = others_as k k2 t t2 a.outbox.has.opened (open_heard k h t a.outbox.has.opened) refl [] (sym (append-nil k.sent_now)) (All-nil (λ (m : Sent). goes_beside m.request ≡ true → is_query_of t.id m.request ≡ false)) a.others

  -- once the reply came back to its message
  abbrev pub back : List Message
  back = first_changed (awaits_at number) (back_with number reply) ms

  back_gone : (q : Message) → Contains ms q → (n : ℕ) → awaits_at n q ≡ true → (n ≡ number) ⊎ Contains back q
  back_gone q there n on = by (awaits_at number q) refl
    where
      by : (b : Bool) → awaits_at number q ≡ b → (n ≡ number) ⊎ Contains back q
      by true here = inl (one_number n number q on here)
      by false isnt = inr (kept_other (awaits_at number) (back_with number reply) ms q isnt there)

  back_request : (m : Message) → (back_with number reply m).request ≡ m.request
  back_request m = elim (is_conflict reply) as (λ b. (back_with_by b number reply m).request ≡ m.request) [ true ↦ refl | false ↦ refl ]

  -- the call goes on by its messages
  pub aside_back : (x2 : OpenTxn) → ((anchor : List ℕ) → meta_now x2 anchor ≡ meta_now x anchor) → ((f : WriteInFlight) → Contains x.in_flight f → has_put f.seq h.request ≡ false → Contains x2.in_flight f)
      → IsFreeToLay (b && is_writing p) k2 x2 → KeepsAside set.course.loses b k2 x2 p later back
  aside_back x2 meta there2 free = record {
    outbox = record { has = outbox_heard x2 meta there2 back (λ quiet. back_gone); apart = apart_changed (awaits_at number) (back_with number reply) back_request ms later a.outbox.apart };
    joined = a.joined;
    some = proofs_changed (awaits_at number) (back_with number reply) p ms a.some;
    heard = all_heard x2 meta there2 back (λ quiet. back_gone);
    others = others_heard;
    free = free;
    unsent = back_unsent (b && is_writing p) number ms back a.unsent waited;
  }

  -- or, where nothing is lost, no message of it is on its way any more
  pub aside_over : (set.course.loses ≡ false → (q : Message) → Contains ms q → (n : ℕ) → awaits_at n q ≡ true → n ≡ number) → (x2 : OpenTxn) → ((anchor : List ℕ) → meta_now x2 anchor ≡ meta_now x anchor)
      → ((f : WriteInFlight) → Contains x.in_flight f → has_put f.seq h.request ≡ false → Contains x2.in_flight f) → HasAside set.course.loses k2 x2 later
  aside_over alone x2 meta there2 =
      let gone : set.course.loses ≡ false → (q : Message) → Contains ms q → (n : ℕ) → awaits_at n q ≡ true → (n ≡ number) ⊎ Contains [] q = λ quiet q there n on. inl (alone quiet q there n on) in
      record { outbox = outbox_heard x2 meta there2 [] gone; heard = all_heard x2 meta there2 [] gone; others = others_heard }

-- a message that is alone waits under its number alone
pub lone : (number : ℕ) (ms : List Message) (m : Message) → ms ≡ m ∷ [] → wave_awaits number ms ≡ true → (q : Message) → Contains ms q → (n : ℕ) → awaits_at n q ≡ true → n ≡ number
lone number ms m one waits q there n on = by (subst (λ ms. Contains ms q) one there) (awaited_in number (m ∷ []) (subst (λ ms. wave_awaits number ms ≡ true) one waits))
  where
    only : (q : Message) → Contains (m ∷ []) q → m ≡ q
    only q (zero, low, same) = same
    only q (suc n, low, same) = absurd (omega (arith, low))

    by : Contains (m ∷ []) q → (o : Message) × Contains (m ∷ []) o × (awaits_at number o ≡ true) → n ≡ number
    by mine o = one_number n number q on (subst (λ m. awaits_at number m ≡ true) (sym (only o.0 o.1) ∙ only q mine) o.2)

-- where no reply to the messages is waited for, they stand aside of none
pub aside_idle : {l : Bool} (b : Bool) (k : Known) (x : OpenTxn) (p : Purpose) (later : List LaterPut) (ms : List Message) → KeepsAside l b k x p later ms → ((number : ℕ) → wave_awaits number ms ≡ false) → HasAside l k x later
aside_idle b k x p later ms a idle = record {
  outbox = keeps_idle k x later ms a.outbox idle;
  heard = λ quiet. All-weaker (IsHeardOrOut k ms) (IsHeardOrOut k []) by k.sent_now (a.heard quiet);
  others = a.others;
}
  where
    by : (m : Sent) → IsHeardOrOut k ms m → IsHeardOrOut k [] m
    by m (inl was) = inl was
    by m (inr (inl beside)) = inr (inl beside)
    by m (inr (inr out)) = any_to (IsOnWayAs m) (IsHeardOrOut k [] m) ms (λ q there on. let e : false ≡ true = sym (idle m.number) ∙ awaits_in m.number ms q there on.waited in absurd cc) out

-- a call goes on by messages of which none is waited for but what waited in the outbox
pub aside_on : {l : Bool} (b : Bool) (k : Known) (x : OpenTxn) (p : Purpose) (later later2 : List LaterPut) (ms : List Message) → HasAside l k x later → KeepsOutbox l k x later2 ms → LeavesNoneWaiting p later2 → HasProofs p ms → IsFreeToLay (b && is_writing p) k x → AreUnsent (b && is_writing p) ms → KeepsAside l b k x p later2 ms
aside_on b k x p later later2 ms a o joined some free unsent = record {
  outbox = o;
  joined = joined;
  some = some;
  heard = λ quiet. All-weaker (IsHeardOrOut k []) (IsHeardOrOut k ms) by k.sent_now (a.heard quiet);
  others = a.others;
  free = free;
  unsent = unsent;
}
  where
    by : (m : Sent) → IsHeardOrOut k [] m → IsHeardOrOut k ms m
    by m (inl was) = inl was
    by m (inr (inl beside)) = inr (inl beside)
    by m (inr (inr out)) = absurd (omega (arith, out.2))

-- ---- a message goes out

anchor_kept : (id : TxnId) (r : Request) (anchor : Option (List ℕ)) (key : List ℕ) → anchor ≡ Some key → anchor_sent id r anchor ≡ Some key
anchor_kept id (requests.Put meta seq ts at value) anchor key is = by (same_txn meta.id id)
  where
    by : (b : Bool) → cond b (option_or anchor (Some at)) anchor ≡ Some key
    by true = ap (λ a. option_or a (Some at)) is
    by false = is
anchor_kept id r anchor key is = is

-- The transaction has the same name and epoch, and its writes are in flight still.
abbrev pub StaysInFlight : OpenTxn → OpenTxn → Type 0
StaysInFlight x x2 = ((anchor : List ℕ) → meta_now x2 anchor ≡ meta_now x anchor) × ((f : WriteInFlight) → Contains x.in_flight f → Contains x2.in_flight f)

stays : (x : OpenTxn) → StaysInFlight x x
stays x = ((λ anchor. refl), (λ f there. there))

laid_stays : (r : Request) (x : OpenTxn) → StaysInFlight x (laid_with r x)
laid_stays (requests.Put meta seq ts key value) x = by (list_any (λ w. same_key w.key key) x.in_flight)
  where
    by : (b : Bool) → StaysInFlight x (cond b x (with_next_write key value x))
    by true = stays x
    by false = ((λ anchor. refl), (λ f there. Contains-append_left x.in_flight (record { key = key; seq = x.seq + 1; value = value } ∷ []) f there))
laid_stays r x = stays x

staged_stays : (o : Option Message) (x : OpenTxn) → StaysInFlight x (staged_by o x)
staged_stays None x = stays x
staged_stays (Some m) x = by (is_stage m.request && (m.lost == 0))
  where
    by : (b : Bool) → StaysInFlight x (cond b (with_stage x) x)
    by true = ((λ anchor. refl), (λ f there. there))
    by false = stays x

pub sent_stays : (p : Purpose) (ms : List Message) (x : OpenTxn) → StaysInFlight x (after_send p ms x)
sent_stays (purposes.Beat call reading) ms x = ((λ anchor. refl), (λ f there. there))
sent_stays (purposes.Prove call all) ms x = stays x
sent_stays purposes.Read ms x = stays x
sent_stays purposes.Write [] x = stays x
sent_stays purposes.Write (m ∷ ms) x = laid_stays m.request x
sent_stays (purposes.Refresh refusals puts) ms x = stays x
sent_stays (purposes.Stage refusals) ms x = staged_stays (find is_to_send ms) x
sent_stays (purposes.Query refusals holder puts) ms x = stays x
sent_stays (purposes.Commit refusals) ms x = ((λ anchor. refl), (λ f there. there))
sent_stays (purposes.LastBeat answer reading) ms x = ((λ anchor. refl), (λ f there. there))
sent_stays (purposes.Abort why) ms x = stays x

out_unsent : (n : ℕ) (p : Progress) → progress_awaits n p ≡ true → progress_to_send p ≡ false
out_unsent n progresses.ToSend is = absurd cc
out_unsent n (progresses.Sent number) is = refl
out_unsent n (progresses.Met number conflict) is = absurd cc
out_unsent n (progresses.Answered number reply) is = absurd cc

module _ (set : Setting) (k : Known) (x : OpenTxn) (p : Purpose) (ms : List Message) (w : InCall set k x p ms) (b : Bool) (later : List LaterPut) (a : KeepsAside set.course.loses b k x p later ms) (number range : ℕ) (request : Request) (due : step_of ms ≡ steps.Send request) where
  abbrev ks : Known
  ks = known_sent number range request k

  abbrev m2 : Sent
  m2 = record { number = number; range = range; request = request }

  abbrev xs : OpenTxn
  xs = after_send p ms x

  abbrev tw : Txn
  tw = a.outbox.has.t

  abbrev ts : Txn
  ts = txn_sent request tw

  abbrev out : List Message
  out = first_changed is_to_send (sent_under number) ms

  first : (m : Message) × (find is_to_send ms ≡ Some m) × (m.request ≡ request)
  first = sends_first (first_in_conflict ms) (find is_to_send ms) (list_all has_answer ms) request due

  mine : Contains ms first.0
  mine = found_in is_to_send ms first.0 first.1

  own_wave : goes_beside request ≡ false
  own_wave =
      let s : MessageStands set.course k first.0 = All-contains (MessageStands set.course k) ms first.0 w.wave.stand mine in
      sym (ap goes_beside first.2) ∙ s.no_round

  none_of : (put : LaterPut) → Contains later put → (seq : ℕ) → has_put seq put.request ≡ true → has_put seq request ≡ false
  none_of put there seq is =
      let apart : IsApartFrom ms put = All-contains (IsApartFrom ms) later put a.outbox.apart there in
      sym (ap (has_put seq) first.2) ∙ All-contains (λ m. (seq : ℕ) → has_put seq put.request ≡ true → has_put seq m.request ≡ false) ms first.0 apart mine seq is

  sent_on : GoesOnAs tw ts x xs
  sent_on = record {
    id = refl;
    epoch = refl;
    anchored = λ anchor is. anchor_kept tw.id request tw.anchor anchor is;
    up = omega arith;
    asked = λ seq ts was. asked_sent seq ts tw request was;
    meta = (sent_stays p ms x).0;
  }

  pub wait_sent : OutboxStands ks ts xs later
  wait_sent =
      all_wait k ks (m2 ∷ []) [] refl (sym (append-nil k.heard)) tw ts x xs sent_on later a.outbox.has.stands
      (all_from_contains (λ put. (o : WaitsInOutbox k tw x put) → Contains xs.in_flight o.w × All (λ m. has_put o.w.seq m.request ≡ false) (m2 ∷ []) × All (λ (h : Heard). (h.number ≢ put.number) × (has_put o.w.seq h.request ≡ false)) []) later
      (λ put there o. (
        (sent_stays p ms x).1 o.w o.there,
        All-cons (λ (m : Sent). has_put o.w.seq m.request ≡ false) m2 [] (none_of put there o.w.seq (has_own x o.anchor o.ts o.w put.request o.said)) (All-nil (λ (m : Sent). has_put o.w.seq m.request ≡ false)),
        All-nil (λ (h : Heard). (h.number ≢ put.number) × (has_put o.w.seq h.request ≡ false)),
      )))

  still_out : (m : Sent) (q : Message) → Contains ms q → IsOnWayAs m q → Any (IsOnWayAs m) out
  still_out m q there on =
      let f = kept_other is_to_send (sent_under number) ms q (out_unsent m.number q.progress on.waited) there in
      (f.0, q, f.1, f.2, on)

  pub left_sent : set.course.loses ≡ false → (ms2 : List Message) → ((m : Sent) (q : Message) → Contains ms q → IsOnWayAs m q → Any (IsOnWayAs m) ms2) → All (IsHeardOrLeft (heard_before ks) ks.heard_now ts later ms2) (sent_before ks)
  left_sent quiet ms2 way =
      let more : HasMore k ks (m2 ∷ []) [] = record { sent = refl; sent_now = refl; heard = sym (append-nil k.heard); heard_now = sym (append-nil k.heard_now) } in
      let same = same_before k ks (m2 ∷ []) [] more in
      subst (λ l. All (IsHeardOrLeft (heard_before ks) k.heard_now ts later ms2) l) (sym (same_sent k ks (m2 ∷ []) refl refl))
      (left_on tw ts refl refl (heard_before k) (heard_before ks) k.heard_now k.heard_now later ms ms2 (λ m was. subst (λ hs. IsTrue (is_heard hs m)) (sym same) was) (λ m is. is) (λ m q there on. inl (way m q there on)) (sent_before k) (a.outbox.has.left quiet))

  pub others_sent : AsksForOthers ks
  others_sent =
      others_as k ks tw ts a.outbox.has.opened (open_sent k number range request tw a.outbox.has.opened) refl (m2 ∷ []) refl
      (All-cons (λ (m : Sent). goes_beside m.request ≡ true → is_query_of tw.id m.request ≡ false) m2 [] (λ beside. let e : false ≡ true = sym own_wave ∙ beside in absurd cc) (All-nil (λ (m : Sent). goes_beside m.request ≡ true → is_query_of tw.id m.request ≡ false))) a.others

  -- the call goes on
  pub aside_sent : (b && is_writing p) ≡ false → KeepsAside set.course.loses b ks xs p later out
  aside_sent isnt = record {
    outbox = record {
      has = record { t = ts; opened = open_sent k number range request tw a.outbox.has.opened; stands = wait_sent; left = λ quiet. left_sent quiet out still_out };
      apart = apart_changed is_to_send (sent_under number) (λ m. refl) ms later a.outbox.apart;
    };
    joined = a.joined;
    some = proofs_changed is_to_send (sent_under number) p ms a.some;
    heard = λ quiet.
        All-push (IsHeardOrOut ks out) k.sent_now m2 (All-weaker (IsHeardOrOut k ms) (IsHeardOrOut ks out) by k.sent_now (a.heard quiet))
        (let f = changed_in is_to_send (sent_under number) ms first.0 first.1 in inr (inr (f.0, sent_under number first.0, f.1, f.2, record { waited = eq-eqb number number refl; asked = first.2 })));
    others = others_sent;
    free = subst (λ b. IsFreeToLay b ks xs) (sym isnt) tt;
    unsent = subst (λ b. AreUnsent b out) (sym isnt) tt;
  }
    where
      by : (m : Sent) → IsHeardOrOut k ms m → IsHeardOrOut ks out m
      by m (inl was) = inl was
      by m (inr (inl beside)) = inr (inl beside)
      by m (inr (inr way)) = inr (inr (any_to (IsOnWayAs m) (Any (IsOnWayAs m) out) ms (λ q there on. still_out m q there on) way))

-- ---- a message goes again

met_waits : (n number : ℕ) (p : Progress) → progress_awaits n p ≡ true → progress_conflicts number p ≡ false
met_waits n number progresses.ToSend waits = refl
met_waits n number (progresses.Sent sent) waits = refl
met_waits n number (progresses.Met sent conflict) waits = absurd cc
met_waits n number (progresses.Answered sent reply) waits = refl

-- after its round, the message that met a conflict goes again: what stands aside does so still
pub again_aside : {l : Bool} (b : Bool) (k : Known) (x : OpenTxn) (p : Purpose) (later : List LaterPut) (ms : List Message) → KeepsAside l b k x p later ms → (number : ℕ) → KeepsAside l b k x p later (first_changed (conflicts_at number) goes_again ms)
again_aside b k x p later ms a number = record {
  outbox = record {
    has = record {
      t = a.outbox.has.t;
      opened = a.outbox.has.opened;
      stands = a.outbox.has.stands;
      left = λ quiet.
          left_on a.outbox.has.t a.outbox.has.t refl refl (heard_before k) (heard_before k) k.heard_now k.heard_now later ms again (λ m was. was) (λ m is. is) (λ m q there on. inl (way m q there on)) (sent_before k) (a.outbox.has.left quiet);
    };
    apart = apart_changed (conflicts_at number) goes_again (λ m. refl) ms later a.outbox.apart;
  };
  joined = a.joined;
  some = proofs_changed (conflicts_at number) goes_again p ms a.some;
  heard = λ quiet. All-weaker (IsHeardOrOut k ms) (IsHeardOrOut k again) still k.sent_now (a.heard quiet);
  others = a.others;
  free = a.free;
  unsent = unsent (b && is_writing p) a.unsent;
}
  where
    again : List Message
    again = first_changed (conflicts_at number) goes_again ms

    way : (m : Sent) (q : Message) → Contains ms q → IsOnWayAs m q → Any (IsOnWayAs m) again
    way m q there on =
        let f = kept_other (conflicts_at number) goes_again ms q (met_waits m.number number q.progress on.waited) there in
        (f.0, q, f.1, f.2, on)

    still : (m : Sent) → IsHeardOrOut k ms m → IsHeardOrOut k again m
    still m (inl was) = inl was
    still m (inr (inl beside)) = inr (inl beside)
    still m (inr (inr out)) = inr (inr (any_to (IsOnWayAs m) (Any (IsOnWayAs m) again) ms (λ q there on. way m q there on) out))

    unsent : (b : Bool) → AreUnsent b ms → AreUnsent b again
    unsent true u = all_changed (conflicts_at number) goes_again (λ m. is_to_send m ≡ true) (λ m is. refl) ms u
    unsent false u = tt
