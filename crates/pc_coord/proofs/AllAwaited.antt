-- While a call waits for puts, or a conflict is to have its round, none for which it waits stands aside: each was heard, or is on its way.
use Rattle.std.proofs.Common.{◌<◌, ◌≡◌, ℕ, zero, suc, ◌+◌, Bool, true, false, ◌&&◌, ◌||◌, ◌⊎◌, inl, inr, List, [], ◌∷◌, ◌++◌, Option, None, Some, refl, sym, ap, ◌∙◌, subst, arith, All, Any, Contains, IsTrue}
use Rattle.std.proofs.lemmas.Bool.{eq-eqb, or_right}
use Rattle.std.proofs.lemmas.List.Elements.{All-cons, All-contains, All-map, All-nil, All-weaker}
use Rattle.std.proofs.lemmas.Option.{same_Some}
use Rattle.pc_base.specs.declared.limits.TheConstants.{MOST_CONFLICTS}
use Rattle.pc_base.specs.declared.span.Span.{Span}
use Rattle.pc_base.specs.declared.transaction.TxnId.{TxnId}
use Rattle.pc_call.proofs.Lists.{all_unmapped}
use Rattle.pc_call.specs.declared.call.OpenCall.{OpenCall}
use Rattle.pc_call.specs.declared.later.LaterPut.{LaterPut}
use Rattle.pc_call.specs.declared.purpose.Purpose.{Purpose}
use Rattle.pc_call.specs.declared.purpose.Purpose.TheVariants as purposes
use Rattle.pc_call.specs.Outbox.{IsApartFrom, IsHeardOrLeft, IsOnWayAs, IsSentAs, MayWait, OutboxStands, WaitsInOutbox, has_put}
use Rattle.pc_call.specs.Serving.{AreReadsOf, InCall, IsOpenFor, Serves, write_call}
use Rattle.pc_call.specs.Setting.{Setting}
use Rattle.pc_call.specs.Waiting.{BeginsBehindProofs, SendsWrite, depends_on, waits_on}
use Rattle.pc_coord.proofs.Aside.{awaited_in, found_in}
use Rattle.pc_coord.proofs.Blocks.{round_idle}
use Rattle.pc_coord.proofs.Lists.{and_once, every}
use Rattle.pc_coord.proofs.Outbox.{any_to, awaits_in, has_own}
use Rattle.pc_coord.proofs.Steps.{round_step}
use Rattle.pc_coord.proofs.Tells.{all_sent, any_is_heard, was_before, was_now}
use Rattle.pc_coord.specs.Aside.{AreUnsent, IsHeardOrOut, KeepsAside}
use Rattle.pc_coord.specs.Awaiting.{IsAwaitedNext}
use Rattle.pc_coord.specs.Coordination.{Coordination, awaits_number, is_writing, next_of, setting_of}
use Rattle.pc_coord.specs.declared.due.Due.{Due}
use Rattle.pc_coord.specs.declared.due.Due.TheVariants as dues
use Rattle.pc_coord.specs.declared.next.Next.TheVariants as nexts
use Rattle.pc_coord.specs.Knows.{HasCallDue, Knows, KnowsAt}
use Rattle.pc_flight.specs.declared.write.WriteInFlight.{WriteInFlight}
use Rattle.pc_follows.specs.PipelinedPuts.{IsFull, IsPutWaitedFor, WaitsFor, heard_before}
use Rattle.pc_follows.specs.Proving.{IsAwaitedPut, IsOfPutWave}
use Rattle.pc_follows.specs.WaveOrder.{AreAwaitedHeard}
use Rattle.pc_lists.proofs.Same.{same_key-equal}
use Rattle.pc_proto.specs.declared.call.Call.{Call}
use Rattle.pc_proto.specs.declared.call.Call.TheVariants as calls
use Rattle.pc_proto.specs.declared.meta.TxnMeta.{TxnMeta}
use Rattle.pc_proto.specs.declared.reply.Reply.{Reply}
use Rattle.pc_proto.specs.declared.reply.Reply.TheVariants as replies
use Rattle.pc_proto.specs.declared.request.Request.{Request}
use Rattle.pc_proto.specs.declared.request.Request.TheVariants as requests
use Rattle.pc_proto.specs.Requests.{is_put, is_put_of, is_stage}
use Rattle.pc_reads.specs.ReadsStanding.{refresh_to}
use Rattle.pc_txn.specs.declared.txn.OpenTxn.{OpenTxn}
use Rattle.pc_txn.specs.Opened.{own_abort, own_commit, put_at}
use Rattle.pc_txn.specs.Queries.{own_query}
use Rattle.pc_txn.specs.Silence.{own_beat}
use Rattle.pc_wave.proofs.Hearing.{awaits_as}
use Rattle.pc_wave.proofs.Rounds.{due_round, first_found}
use Rattle.pc_wave.specs.declared.message.Message.{Message}
use Rattle.pc_wave.specs.declared.message.Progress.{Progress}
use Rattle.pc_wave.specs.declared.message.Progress.TheVariants as progresses
use Rattle.pc_wave.specs.declared.step.Step.TheVariants as steps
use Rattle.pc_wave.specs.Messages.{is_in_conflict, is_to_send, progress_to_send, step_of, wave_awaits}
use Rattle.pc_wave.specs.Standing.{IsAsFar, IsOnItsWay, MessageStands, MetConflict, goes_beside}
use Rattle.pc_world.specs.Answering.{MayAnswer}
use Rattle.pc_world.specs.Known.{Known}
use Rattle.pc_world.specs.Known.Statements.{Statement}
use Rattle.pc_world.specs.Known.Traffic.{Heard, Sent, request_sent}
use Rattle.pc_world.specs.Known.Transactions.{Txn}
use Rattle.pc_world.specs.Tell.Data.{sent_before}
use Rattle.pc_world.specs.Tell.Refusal.{is_heard}

put_beside : (id : TxnId) (epoch seq : ℕ) (r : Request) → is_put_of id epoch seq r ≡ true → goes_beside r ≡ false
put_beside id epoch seq (requests.Put meta own ts key value) is = refl
put_beside id epoch seq r is = absurd cc

-- a call that waits for a write of this key, as its session has it, depends on it, or waits for all
pub waits_true : (k : Known) (call : Call) (all : Bool) (key : List ℕ) → BeginsBehindProofs call → (IsFull k → (own : List ℕ) (value : Option (List ℕ)) → call ≡ write_call own value → all ≡ true) → WaitsFor k key call → waits_on call all key ≡ true
waits_true k (calls.Get own) all key begins fills same = or_right all (depends_on (calls.Get own) key) (same_key-equal key own (sym same))
waits_true k (calls.Scan span) all key begins fills within = or_right all (depends_on (calls.Scan span) key) within
waits_true k (calls.Put own value) all key begins fills (inl same) = or_right all (depends_on (calls.Put own value) key) (same_key-equal key own (sym same))
waits_true k (calls.Put own value) all key begins fills (inr full) = ap (λ b. b || depends_on (calls.Put own value) key) (fills full own (Some value) refl)
waits_true k (calls.Delete own) all key begins fills (inl same) = or_right all (depends_on (calls.Delete own) key) (same_key-equal key own (sym same))
waits_true k (calls.Delete own) all key begins fills (inr full) = ap (λ b. b || depends_on (calls.Delete own) key) (fills full own None refl)
waits_true k call all key begins fills waits = absurd begins

reads_depend : (splits : List (List ℕ)) (x : OpenTxn) (k : Known) (call : Call) (asked : List Request) (key : List ℕ) → AreReadsOf splits x call asked → WaitsFor k key call → depends_on call key ≡ true
reads_depend splits x k (calls.Get own) asked key reads same = same_key-equal key own (sym same)
reads_depend splits x k (calls.Scan span) asked key reads within = within
reads_depend splits x k call asked key reads waits = absurd reads

sends_has : (f : WriteInFlight) (m : Message) → SendsWrite f m → has_put f.seq m.request ≡ true
sends_has f m sends = ap (has_put f.seq) sends.2 ∙ eq-eqb f.seq f.seq refl

waits_at : (k : Known) (t : Txn) (x : OpenTxn) (later : List LaterPut) → OutboxStands k t x later → (put : LaterPut) → Contains later put → WaitsInOutbox k t x put
waits_at k t x [] o put there = absurd (omega (arith, there.1))
waits_at k t x (q ∷ qs) o put (zero, low, same) = subst (WaitsInOutbox k t x) same o.0
waits_at k t x (q ∷ qs) o put (suc n, low, same) = waits_at k t x qs o.2 put (n, omega (arith, low), same)

none_there : (put : LaterPut) → Contains [] put → ⊥
none_there put there = omega (arith, there.1)

-- The request is no put and no stage, and meets no intent.
abbrev IsPlain : Request → Type 0
IsPlain r = ((is_put r || is_stage r) ≡ false) × ((holder : TxnMeta) (ts : ℕ) (key : List ℕ) → MayAnswer r (replies.Conflict holder ts key) → ⊥)

module _ (set : Setting) (k : Known) (x : OpenTxn) (p : Purpose) (ms : List Message) (w : InCall set k x p ms) (b : Bool) (later : List LaterPut) (a : KeepsAside set.course.loses b k x p later ms) where
  -- No put for which the call waits stands aside.
  abbrev NoneAside : Type 0
  NoneAside = (f : WriteInFlight) → Contains x.in_flight f → (put : LaterPut) → Contains later put → has_put f.seq put.request ≡ true → WaitsFor k f.key w.s.call → ⊥

  -- whose write one of the messages sends
  sent_apart : (f : WriteInFlight) (q : Message) → Contains ms q → SendsWrite f q → (put : LaterPut) → Contains later put → has_put f.seq put.request ≡ true → ⊥
  sent_apart f q there sends put waits mine =
      let none : has_put f.seq q.request ≡ false = All-contains (λ m. (seq : ℕ) → has_put seq put.request ≡ true → has_put seq m.request ≡ false) ms q (All-contains (IsApartFrom ms) later put a.outbox.apart waits) there f.seq mine in
      let e : true ≡ false = sym (sends_has f q sends) ∙ none in
      cc

  open_apart : (qs : List Message) → ((q : Message) → Contains qs q → Contains ms q) → (f : WriteInFlight) → Any (IsOpenFor f) qs → (put : LaterPut) → Contains later put → has_put f.seq put.request ≡ true → ⊥
  open_apart qs within f some put waits mine = sent_apart f some.1 (within some.1 (some.0, some.2, some.3)) some.4.0 put waits mine

  front_in : (xs ys : List Message) (m : Message) → Contains xs m → Contains (xs ++ ys) m
  front_in [] ys m there = absurd (omega (arith, there.1))
  front_in (one ∷ xs) ys m (zero, low, same) = (0, omega arith, same)
  front_in (one ∷ xs) ys m (suc n, low, same) = let f = front_in xs ys m (n, omega (arith, low), same) in (suc f.0, omega (arith, f.1), f.2)

  of_one : (m : Message) → ms ≡ m ∷ [] → (r : Request) → m.request ≡ r → IsPlain r → All (λ (m : Message). IsPlain m.request) ms
  of_one m one r said is = subst (λ ms. All (λ (m : Message). IsPlain m.request) ms) (sym one) (All-cons (λ (m : Message). IsPlain m.request) m [] (subst IsPlain (sym said) is) (All-nil (λ (m : Message). IsPlain m.request)))

  -- where the call meets intents, or proves, none for which it waits stands aside
  none_aside : (p ≡ purposes.Write → later ≡ []) → NoneAside ⊎ All (λ (m : Message). IsPlain m.request) ms
  none_aside writes = by p refl w.serves
    where
      by : (q : Purpose) → p ≡ q → Serves set k w.s w.t x w.stages q ms → NoneAside ⊎ All (λ (m : Message). IsPlain m.request) ms
      by (purposes.Prove call all) is s =
          inl (λ f there put waits mine wants.
          let needs : waits_on call all f.key ≡ true = waits_true k call all f.key s.begins s.fills (subst (WaitsFor k f.key) s.asked wants) in
          open_apart ms (λ q there. there) f (All-contains (λ f. waits_on call all f.key ≡ true → Any (IsOpenFor f) ms) x.in_flight f s.each there needs) put waits mine)
      by purposes.Read is s =
          inl (λ f there put waits mine wants.
          let e : false ≡ true = sym (All-contains (λ f. depends_on w.s.call f.key ≡ false) x.in_flight f s.clear there) ∙ reads_depend set.splits x k w.s.call _ f.key s.asked wants in
          cc)
      by purposes.Write is s = inl (λ f there put waits mine wants. none_there put (subst (λ l. Contains l put) (writes is) waits))
      by (purposes.Stage n) is s =
          inl (λ f there put waits mine wants.
          open_apart s.wave.puts (λ q within. subst (λ ms. Contains ms q) (sym s.wave.whole) (front_in s.wave.puts s.wave.stage q within)) f (All-contains (λ f. Any (IsOpenFor f) s.wave.puts) x.in_flight f s.wave.each there) put waits mine)
      by (purposes.Beat call reading) is s = inr (of_one s.m s.one (own_beat x reading s.anchor) s.said (refl, (λ holder ts key may. may)))
      by (purposes.Refresh n puts) is s =
          inr (all_unmapped IsPlain (λ (m : Message). m.request) ms (subst (λ rs. All IsPlain rs) (sym s.asked)
          (All-map IsPlain (refresh_to x.id x.reads.ts x.write_ts) x.reads.spans (every (λ (span : Span). IsPlain (refresh_to x.id x.reads.ts x.write_ts span)) (λ span. (refl, (λ holder ts key may. may))) x.reads.spans))))
      by (purposes.Query n holder puts) is s = inr (of_one s.m s.asks (own_query x s.w.key s.w.seq) s.said (refl, (λ holder ts key may. may)))
      by (purposes.Commit n) is s = inr (of_one s.m s.one (own_commit x s.commits.anchor) s.said (refl, (λ holder ts key may. may)))
      by (purposes.LastBeat answer reading) is s = inr (of_one s.m s.one (own_beat x reading s.gives_up.anchor) s.said (refl, (λ holder ts key may. may)))
      by (purposes.Abort why) is s = inr (of_one s.m s.one (own_abort x why s.anchor) s.said (refl, (λ holder ts key may. may)))

  -- The message was heard, or its reply is waited for.
  abbrev IsHeardOrAwaited : Sent → Type 0
  IsHeardOrAwaited m = IsAwaitedPut k m.request → IsTrue (is_heard k.heard m) ⊎ (wave_awaits m.number ms ≡ true)

  on_way : (m : Sent) → Any (IsOnWayAs m) ms → wave_awaits m.number ms ≡ true
  on_way m out = any_to (IsOnWayAs m) (wave_awaits m.number ms ≡ true) ms (λ q there on. awaits_in m.number ms q there on.waited) out

  module _ (quiet : set.course.loses ≡ false) (none : NoneAside) where
    abbrev t : Txn
    t = a.outbox.has.t

    aside_no : (m : Sent) (aw : IsAwaitedPut k m.request) → Any (IsSentAs m) later → ⊥
    aside_no m aw some =
        any_to (IsSentAs m) ⊥ later
        (λ put there one.
        let o : WaitsInOutbox k t x put = waits_at k t x later a.outbox.has.stands put there in
        let said : m.request ≡ put_at x o.anchor o.ts o.w = sym one.asked ∙ o.said in
        let same_s : aw.s ≡ w.s = same_Some aw.s w.s (sym aw.asked ∙ w.opened) in
        let wants : WaitsFor k o.w.key w.s.call = subst (λ (s : Statement). WaitsFor k o.w.key s.call) same_s (subst (IsPutWaitedFor k aw.s.call) said aw.waits) in
        none o.w o.there put there (has_own x o.anchor o.ts o.w put.request o.said) wants) some

    not_beside : (m : Sent) (aw : IsAwaitedPut k m.request) → goes_beside m.request ≡ true → ⊥
    not_beside m aw beside = let e : false ≡ true = sym (put_beside aw.t.id aw.t.epoch aw.seq m.request aw.put) ∙ beside in cc

    of_before : (m : Sent) → IsHeardOrLeft (heard_before k) k.heard_now t later ms m → IsHeardOrAwaited m
    of_before m (inl was) aw = inl (was_before k w.split m was)
    of_before m (inr (inl beside)) aw = absurd (not_beside m aw beside)
    of_before m (inr (inr l)) aw =
        let same : aw.t ≡ t = same_Some aw.t t (sym aw.opened ∙ a.outbox.has.opened) in
        elim (l.waits aw.seq (subst (λ (t : Txn). is_put_of t.id t.epoch aw.seq m.request ≡ true) same aw.put)) [
          | inl aside ↦ absurd (aside_no m aw aside)
          | inr rest ↦ elim rest [ inl out ↦ inr (on_way m out) | inr replied ↦ inl (was_now k w.split m (any_is_heard m k.heard_now replied)) ]
        ]

    of_now : (m : Sent) → IsHeardOrOut k ms m → IsHeardOrAwaited m
    of_now m (inl was) aw = inl (was_now k w.split m was)
    of_now m (inr (inl beside)) aw = absurd (not_beside m aw beside)
    of_now m (inr (inr out)) aw = inr (on_way m out)

    all_awaited : All IsHeardOrAwaited k.sent
    all_awaited = all_sent k w.split IsHeardOrAwaited (All-weaker (IsHeardOrLeft (heard_before k) k.heard_now t later ms) IsHeardOrAwaited of_before (sent_before k) (a.outbox.has.left quiet)) (All-weaker (IsHeardOrOut k ms) IsHeardOrAwaited of_now k.sent_now (a.heard quiet))

none_may : (b : Bool) (later : List LaterPut) → b ≡ false → MayWait b later → later ≡ []
none_may true later isnt may = absurd cc
none_may false later isnt may = may

sent_unsent : (n : ℕ) (q : Progress) → q ≡ progresses.Sent n → progress_to_send q ≡ true → ⊥
sent_unsent n q is sends = let e : false ≡ true = sym (ap progress_to_send is) ∙ sends in cc

-- where a message of the call went out, a call that writes is not told at once, and nothing waits aside
write_waits : (b : Bool) (p : Purpose) (ms : List Message) (later : List LaterPut) (m : Message) → Contains ms m → (is_to_send m ≡ true → ⊥) → AreUnsent (b && is_writing p) ms → MayWait b later → p ≡ purposes.Write → later ≡ []
write_waits b p ms later m there out unsent may writes = none_may b later (by (b && is_writing p) refl unsent) may
  where
    by : (e : Bool) → (b && is_writing p) ≡ e → AreUnsent e ms → b ≡ false
    by true is all = absurd (out (All-contains (λ m. is_to_send m ≡ true) ms m all there))
    by false is none = and_once b (sym (ap (λ p. b && is_writing p) writes) ∙ is)

module _ (c : Coordination) (k : Known) (call : OpenCall) (h : HasCallDue false c k call) (may : MayWait c.pipelining c.later) where
  abbrev set : Setting
  set = setting_of false c

  heard_due : (number : ℕ) (request : Request) → wave_awaits number call.wave ≡ true → request_sent number k.sent ≡ Some request → IsOfPutWave request
      → All (λ m. IsAwaitedPut k m.request → IsTrue (is_heard k.heard m) ⊎ (wave_awaits m.number call.wave ≡ true)) k.sent
  heard_due number request waits said of_wave =
      let o = awaited_in number call.wave waits in
      let sent = awaits_as number o.0.progress o.2 in
      let st : MessageStands set.course k o.0 = All-contains (MessageStands set.course k) call.wave o.0 h.in_call.wave.stand o.1 in
      let far : IsOnItsWay set.course k number o.0.request × (o.0.conflicts < MOST_CONFLICTS) = subst (λ p. IsAsFar set.course k o.0.request o.0.conflicts p) sent st.as_far in
      let same : o.0.request ≡ request = same_Some o.0.request request (sym far.0.out.said ∙ said) in
      elim (none_aside set k h.x call.purpose call.wave h.in_call c.pipelining c.later h.aside (write_waits c.pipelining call.purpose call.wave c.later o.0 o.1 (sent_unsent number o.0.progress sent) h.aside.unsent may)) [
        | inl none ↦ all_awaited set k h.x call.purpose call.wave h.in_call c.pipelining c.later h.aside refl none
        | inr plain ↦
            absurd
            (let isnt = (All-contains (λ (m : Message). IsPlain m.request) call.wave o.0 plain o.1).0 in
            let e : false ≡ true = sym isnt ∙ (ap (λ r. is_put r || is_stage r) same ∙ of_wave) in
            cc)
      ]

  met_due : (number : ℕ) (conflict : Reply) → step_of call.wave ≡ steps.Round number conflict → AreAwaitedHeard k k.sent
  met_due number conflict due =
      let f = due_round call.wave number conflict due in
      let there : Contains call.wave f.0 = found_in is_in_conflict call.wave f.0 (first_found call.wave f.0 f.1).0 in
      let st : MessageStands set.course k f.0 = All-contains (MessageStands set.course k) call.wave f.0 h.in_call.wave.stand there in
      let met : MetConflict set.course k number f.0.request conflict = subst (λ p. IsAsFar set.course k f.0.request f.0.conflicts p) f.2.progress st.as_far in
      let out : is_to_send f.0 ≡ true → ⊥ = λ sends. (let e : false ≡ true = sym (ap progress_to_send f.2.progress) ∙ sends in cc) in
      elim (none_aside set k h.x call.purpose call.wave h.in_call c.pipelining c.later h.aside (write_waits c.pipelining call.purpose call.wave c.later f.0 there out h.aside.unsent may)) [
        | inl none ↦
            All-weaker (λ m. IsAwaitedPut k m.request → IsTrue (is_heard k.heard m) ⊎ (wave_awaits m.number call.wave ≡ true)) (λ m. IsAwaitedPut k m.request → IsTrue (is_heard k.heard m))
            (λ m each aw. elim (each aw) [ inl was ↦ was | inr waits ↦ absurd (let e : false ≡ true = sym (round_idle m.number call.wave number conflict due) ∙ waits in cc) ]) k.sent
            (all_awaited set k h.x call.purpose call.wave h.in_call c.pipelining c.later h.aside refl none)
        | inr plain ↦ absurd ((All-contains (λ (m : Message). IsPlain m.request) call.wave f.0 plain there).1 met.holder met.ts met.key (subst (MayAnswer f.0.request) met.is met.kind))
      ]

hears_at : (c : Coordination) (k : Known) (due : Due) (number : ℕ) (request : Request) → KnowsAt false c k due → MayWait c.pipelining c.later → awaits_number number due ≡ true → request_sent number k.sent ≡ Some request → IsOfPutWave request
    → All (λ m. IsAwaitedPut k m.request → IsTrue (is_heard k.heard m) ⊎ (awaits_number m.number due ≡ true)) k.sent
hears_at c k dues.Nothing number request h may waits said of_wave = absurd cc
hears_at c k (dues.Tell answer) number request h may waits said of_wave = absurd cc
hears_at c k (dues.Call call) number request h may waits said of_wave = heard_due c k call h may number request waits said of_wave

pub hears_all_awaited_ok : (c : Coordination) (k : Known) (h : Heard) → Knows false c k → IsAwaitedNext c k h → IsOfPutWave h.request → All (λ m. IsAwaitedPut k m.request → IsTrue (is_heard k.heard m) ⊎ (awaits_number m.number c.due ≡ true)) k.sent
hears_all_awaited_ok c k h knows next of_wave = hears_at c k c.due h.number h.request knows.stands knows.course.may_wait next.waited next.said of_wave

meets_at : (c : Coordination) (k : Known) (due : Due) → c.due ≡ due → KnowsAt false c k due → MayWait c.pipelining c.later → (number : ℕ) (conflict : Reply) (reader : Option ℕ) → next_of c ≡ nexts.Conflict number conflict reader → AreAwaitedHeard k k.sent
meets_at c k dues.Nothing at h may number conflict reader next = absurd (none_due c.txn (sym (ap (λ d. next_of (record c { due = d })) at) ∙ next))
  where
    none_due : (txn : Option OpenTxn) → next_of (record c { txn = txn; due = dues.Nothing }) ≡ nexts.Conflict number conflict reader → ⊥
    none_due None e = cc
    none_due (Some x) e = cc
meets_at c k (dues.Tell answer) at h may number conflict reader next = absurd (none_due c.txn (sym (ap (λ d. next_of (record c { due = d })) at) ∙ next))
  where
    none_due : (txn : Option OpenTxn) → next_of (record c { txn = txn; due = dues.Tell answer }) ≡ nexts.Conflict number conflict reader → ⊥
    none_due None e = cc
    none_due (Some x) e = cc
meets_at c k (dues.Call call) at h may number conflict reader next = met_due c k call h may number conflict (round_step c h.x call number conflict reader h.held at next)

pub meets_all_awaited_ok : (c : Coordination) (k : Known) (number : ℕ) (conflict : Reply) (reader : Option ℕ) → Knows false c k → next_of c ≡ nexts.Conflict number conflict reader → AreAwaitedHeard k k.sent
meets_all_awaited_ok c k number conflict reader knows next = meets_at c k c.due refl knows.stands knows.course.may_wait number conflict reader next
