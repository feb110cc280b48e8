-- What is heard next is heard as writes are pipelined: a put is one for which the call waits, and all such puts are on their way together.
use Rattle.std.proofs.Common.{◌≡◌, ◌≢◌, ℕ, Bool, true, false, cond, not, ◌&&◌, ◌||◌, ◌==◌, ◌⊎◌, inl, inr, List, [], ◌∷◌, ◌++◌, find, map, Option, None, Some, refl, sym, ap, ◌∙◌, subst, arith, zero, suc, All, Any, Contains, IsTrue}
use Rattle.std.specs.Option.{option_map}
use Rattle.std.proofs.lemmas.Bool.{eq-eqb, eqb-true}
use Rattle.std.proofs.lemmas.List.Elements.{All-append, All-cons, All-contains, All-head, All-map, All-nil, All-tail, All-weaker}
use Rattle.std.proofs.lemmas.Option.{same_Some}
use Rattle.pc_base.specs.declared.span.Span.{Span}
use Rattle.pc_base.specs.Transaction.{same_txn}
use Rattle.pc_call.proofs.Facts.{open_is}
use Rattle.pc_call.proofs.Lists.{all_unmapped}
use Rattle.pc_call.proofs.Ready.{waits_for}
use Rattle.pc_call.specs.Beaten.{HasBeatenFirst}
use Rattle.pc_call.specs.declared.purpose.Purpose.{Purpose}
use Rattle.pc_call.specs.declared.purpose.Purpose.TheVariants as purposes
use Rattle.pc_call.specs.Outbox.{has_put}
use Rattle.pc_call.specs.Serving.{AreReadsOf, HasBeatenBy, InCall, IsOpenFor, LaysLast, SendsAgain, Serves, StageStands, out_of, write_call}
use Rattle.pc_call.specs.Setting.{Setting}
use Rattle.pc_call.specs.Suiting.{SuitsFlight, SuitsFlightIn}
use Rattle.pc_call.specs.Waiting.{BeginsBehindProofs, waits_on}
use Rattle.pc_coord.proofs.AllAwaited.{waits_true}
use Rattle.pc_coord.proofs.Aside.{awaited_in, out_once}
use Rattle.pc_coord.proofs.Lists.{and_once, every}
use Rattle.pc_coord.proofs.Ongoing.{commit_behind}
use Rattle.pc_coord.specs.Awaiting.{IsAwaitedNext}
use Rattle.pc_coord.specs.Coordination.{Coordination, SendsNoMore, awaits_number, is_writing, setting_of}
use Rattle.pc_coord.specs.declared.due.Due.{Due}
use Rattle.pc_coord.specs.declared.due.Due.TheVariants as dues
use Rattle.pc_coord.specs.Knows.{Knows, KnowsAt}
use Rattle.pc_flight.specs.declared.write.WriteInFlight.{WriteInFlight}
use Rattle.pc_flight.specs.InFlight.{in_flight_as}
use Rattle.pc_follows.specs.EarlyProof.{ProvesNothingEarly}
use Rattle.pc_follows.specs.Heartbeats.{HasBeaten}
use Rattle.pc_follows.specs.OwnStages.{IsPutStaged, IsStillOut, ListsUnrefused}
use Rattle.pc_follows.specs.PipelinedPuts.{HearsOnlyItsPuts, IsPutWaitedFor, WaitsFor}
use Rattle.pc_follows.specs.Proving.{AreAwaitedOnWay, HeardNoPut, IsInProvingWave}
use Rattle.pc_lists.proofs.Lists.{all_from_contains, contains_cons, contains_in_filter, contains_map, contains_nil}
use Rattle.pc_lists.proofs.Same.{same_txn-self}
use Rattle.pc_proto.specs.declared.call.Call.{Call}
use Rattle.pc_proto.specs.declared.call.Call.TheVariants as calls
use Rattle.pc_proto.specs.declared.request.Request.{Request}
use Rattle.pc_proto.specs.declared.request.Request.TheVariants as requests
use Rattle.pc_proto.specs.Requests.{is_put, is_put_of}
use Rattle.pc_reads.specs.ReadsStanding.{refresh_to}
use Rattle.pc_staging.proofs.Hears.{evidence_of}
use Rattle.pc_txn.proofs.Laying.{waiting}
use Rattle.pc_txn.proofs.Puts.{puts-own}
use Rattle.pc_txn.specs.declared.txn.OpenTxn.{OpenTxn}
use Rattle.pc_txn.specs.Opened.{meta_now, own_get, own_scan, put_at}
use Rattle.pc_wave.proofs.Hearing.{awaits_as}
use Rattle.pc_wave.specs.declared.message.Message.{Message}
use Rattle.pc_wave.specs.declared.message.Progress.{Progress}
use Rattle.pc_wave.specs.declared.message.Progress.TheVariants as progresses
use Rattle.pc_wave.specs.Messages.{awaits_at, has_answer, is_to_send, progress_has_answer, progress_to_send, wave_awaits}
use Rattle.pc_wave.specs.Standing.{IsAsFar, MessageStands}
use Rattle.pc_world.specs.Known.{Known, call_in, call_of, open_txn}
use Rattle.pc_world.specs.Known.Traffic.{Heard, Sent, request_sent}
use Rattle.pc_world.specs.Known.Writes.{Write, is_proved, unproved}
use Rattle.pc_world.specs.RangeOf.{pieces}
use Rattle.pc_world.specs.StageFate.{IsStageWith, SentStage, stage_request}
use Rattle.pc_world.specs.Tell.Refusal.{MayBlock, is_heard}

-- ---- lists

any_more : {X : Type 0} (P Q : X → Type 0) → ((x : X) → P x → Q x) → (xs : List X) → Any P xs → Any Q xs
any_more P Q f xs (n, x, low, same, is) = (n, x, low, same, f x is)

any_front : {X : Type 0} (P : X → Type 0) (xs ys : List X) → Any P xs → Any P (xs ++ ys)
any_front P [] ys (n, y, low, same, is) = absurd (omega (arith, low))
any_front P (one ∷ xs) ys (zero, y, low, same, is) = (0, y, omega arith, same, is)
any_front P (one ∷ xs) ys (suc n, y, low, same, is) = let e = any_front P xs ys (n, y, omega (arith, low), same, is) in (suc e.0, e.1, omega (arith, e.2), e.3, e.4)

all_last : {X : Type 0} (P : X → Type 0) (xs ys : List X) → All P (xs ++ ys) → All P ys
all_last P [] ys a = a
all_last P (x ∷ xs) ys a = all_last P xs ys (All-tail P x (xs ++ ys) a)

middle_in : (before : List Heard) (h : Heard) (later : List Heard) → Contains (before ++ h ∷ later) h
middle_in [] h later = (0, omega arith, refl)
middle_in (b ∷ before) h later = let c = middle_in before h later in (suc c.0, omega (arith, c.1), c.2)

-- what went out under this number
numbered_in : (n : ℕ) (r : Request) (ms : List Sent) → request_sent n ms ≡ Some r → Any (λ m. (m.number ≡ n) × (m.request ≡ r)) ms
numbered_in n r [] said = absurd cc
numbered_in n r (m ∷ ms) said = by (numbered_in n r ms) (m.number == n) refl said
  where
    by : (request_sent n ms ≡ Some r → Any (λ m. (m.number ≡ n) × (m.request ≡ r)) ms) → (b : Bool) → (m.number == n) ≡ b
        → option_map (λ (s : Sent). s.request) (cond b (Some m) (find (λ (s : Sent). s.number == n) ms)) ≡ Some r → Any (λ m. (m.number ≡ n) × (m.request ≡ r)) (m ∷ ms)
    by later true here e = (0, m, omega arith, refl, (eqb-true m.number n here, same_Some m.request r e))
    by later false here e = let f = later e in (suc f.0, f.1, omega (arith, f.2), f.3, f.4)

none_heard : (n : ℕ) (m : Sent) (hs : List Heard) → m.number ≡ n → All (λ h. h.number ≢ n) hs → not (is_heard hs m) ≡ true
none_heard n m [] same none = refl
none_heard n m (h ∷ hs) same none = by (none_heard n m hs same (All-tail (λ (h : Heard). h.number ≢ n) h hs none)) (h.number == m.number) refl
  where
    by : not (is_heard hs m) ≡ true → (b : Bool) → (h.number == m.number) ≡ b → not (is_heard (h ∷ hs) m) ≡ true
    by later true e = absurd (All-head (λ (h : Heard). h.number ≢ n) h hs none (eqb-true h.number m.number e ∙ same))
    by later false e = ap (λ b. not (b || is_heard hs m)) e ∙ later

-- ---- calls

no_put_staged : (k : Known) (r : Request) → is_put r ≡ false → IsPutStaged k r
no_put_staged k (requests.Put meta seq ts key value) isnt = absurd cc
no_put_staged k r isnt = tt

no_put_waited : (k : Known) (call : Call) (r : Request) → is_put r ≡ false → IsPutWaitedFor k call r
no_put_waited k call (requests.Put meta seq ts key value) isnt = absurd cc
no_put_waited k call r isnt = tt

begins_block : (call : Call) → BeginsBehindProofs call → MayBlock call
begins_block (calls.Get key) begins = tt
begins_block (calls.Scan span) begins = tt
begins_block (calls.Put key value) begins = tt
begins_block (calls.Delete key) begins = tt
begins_block call begins = absurd begins

write_blocks : (key : List ℕ) (value : Option (List ℕ)) → MayBlock (write_call key value)
write_blocks key None = tt
write_blocks key (Some value) = tt

write_no_commit : (key : List ℕ) (value : Option (List ℕ)) → write_call key value ≡ calls.Commit → ⊥
write_no_commit key None is = cc
write_no_commit key (Some value) is = cc

own_waits : (k : Known) (key own : List ℕ) (value : Option (List ℕ)) → own ≡ key → WaitsFor k key (write_call own value)
own_waits k key own None same = inl same
own_waits k key own (Some value) same = inl same

-- without pipelining one write is in flight where a call writes
one_flight : (key : List ℕ) (value : Option (List ℕ)) (flight : List WriteInFlight) → SuitsFlight (write_call key value) flight → (f g : WriteInFlight) → Contains flight f → Contains flight g → f ≡ g
one_flight key value [] suits f g one other = absurd (contains_nil f one)
one_flight key value (v ∷ []) suits f g one other = sym (only f one) ∙ only g other
  where
    only : (f : WriteInFlight) → Contains (v ∷ []) f → v ≡ f
    only f there = elim (contains_cons v [] f there) [ inl is ↦ is | inr later ↦ absurd (contains_nil f later) ]
one_flight key None (v ∷ u ∷ ws) suits f g one other = absurd suits
one_flight key (Some value) (v ∷ u ∷ ws) suits f g one other = absurd suits

to_send_by : (p : Progress) → p ≡ progresses.ToSend → progress_to_send p ≡ true
to_send_by p is = ap progress_to_send is

module _ (set : Setting) (k : Known) (x : OpenTxn) (p : Purpose) (ms : List Message) (w : InCall set k x p ms) (quiet : set.course.loses ≡ false) (whole : All (λ m. is_to_send m ≡ false) ms) (once : p ≡ purposes.Write → set.course.pipelines ≡ false) where
  -- The message puts this write of the open transaction, and was not answered.
  abbrev IsOwnOut : WriteInFlight → Message → Type 0
  IsOwnOut f m = IsTrue (is_put_of w.t.id w.t.epoch f.seq m.request) × (has_answer m ≡ false)

  -- The message puts a write in flight for which the call waits, behind its heartbeat; so each other such write is put; and a commit has staged it.
  record IsWavePut (m : Message) : Type 0 where
    f : WriteInFlight
    there : Contains x.in_flight f
    puts : IsTrue (is_put_of w.t.id w.t.epoch f.seq m.request)
    waits : IsPutWaitedFor k w.s.call m.request
    may : MayBlock w.s.call
    beaten : HasBeatenFirst k w.t
    each : (g : WriteInFlight) → Contains x.in_flight g → WaitsFor k g.key w.s.call → Any (IsOwnOut g) ms
    staged : w.s.call ≡ calls.Commit → IsPutStaged k m.request

  -- The message puts nothing, or it was answered, or it is such a put.
  abbrev IsPlainOrPut : Message → Type 0
  IsPlainOrPut m = (is_put m.request ≡ false) ⊎ (has_answer m ≡ false → IsWavePut m)

  id_is : x.id ≡ w.t.id
  id_is = ap (λ (x : OpenTxn). x.id) w.stands.same

  epoch_is : x.epoch ≡ w.t.epoch
  epoch_is = ap (λ (x : OpenTxn). x.epoch) w.stands.same

  opened : open_txn k ≡ Some w.t
  opened = open_is k w.t w.open_in

  called : call_of k ≡ Some w.s.call
  called = ap call_in w.opened

  puts_it : (anchor : List ℕ) (ts : ℕ) (f : WriteInFlight) → is_put_of w.t.id w.t.epoch f.seq (put_at x anchor ts f) ≡ true
  puts_it anchor ts f =
      ap (λ id. is_put_of id w.t.epoch f.seq (put_at x anchor ts f)) (sym id_is)
      ∙ (ap (λ epoch. is_put_of x.id epoch f.seq (put_at x anchor ts f)) (sym epoch_is) ∙ puts-own (meta_now x anchor) f.seq ts f.key f.value)

  of_one : (m : Message) → ms ≡ m ∷ [] → IsPlainOrPut m → All IsPlainOrPut ms
  of_one m one is = subst (λ ms. All IsPlainOrPut ms) (sym one) (All-cons IsPlainOrPut m [] is (All-nil IsPlainOrPut))

  of_asked : (asked : List Request) → map (λ (m : Message). m.request) ms ≡ asked → All (λ r. is_put r ≡ false) asked → All IsPlainOrPut ms
  of_asked asked same none =
      All-weaker (λ (m : Message). is_put m.request ≡ false) IsPlainOrPut (λ m isnt. inl isnt) ms
      (all_unmapped (λ r. is_put r ≡ false) (λ (m : Message). m.request) ms (subst (λ rs. All (λ r. is_put r ≡ false) rs) (sym same) none))

  of_reads : (call : Call) (rs : List Request) → AreReadsOf set.splits x call rs → All (λ r. is_put r ≡ false) rs
  of_reads (calls.Get key) rs e = subst (λ rs. All (λ r. is_put r ≡ false) rs) (sym e) (All-cons (λ r. is_put r ≡ false) (own_get x key) [] refl (All-nil (λ r. is_put r ≡ false)))
  of_reads (calls.Scan span) rs e =
      subst (λ rs. All (λ r. is_put r ≡ false) rs) (sym e)
      (All-map (λ r. is_put r ≡ false) (λ (p : ℕ × Span). own_scan x p.1) (pieces set.splits span) (every (λ (p : ℕ × Span). is_put (own_scan x p.1) ≡ false) (λ p. refl) (pieces set.splits span)))
  of_reads call rs e = absurd e

  -- a message that sends a write in flight puts it as the transaction's own
  own_out : (call : Call) (all : Bool) (qs : List Message) → All (SendsAgain call all k w.t x) qs → (g : WriteInFlight) → Any (IsOpenFor g) qs → Any (IsOwnOut g) qs
  own_out call all qs again g (n, q, low, same, (sends, isnt)) =
      let a : SendsAgain call all k w.t x q = All-contains (SendsAgain call all k w.t x) qs q again (n, low, same) in
      let has : has_put g.seq q.request ≡ true = ap (has_put g.seq) sends.2 ∙ eq-eqb g.seq g.seq refl in
      let seq : a.w.seq ≡ g.seq = eqb-true a.w.seq g.seq (sym (ap (has_put g.seq) a.said) ∙ has) in
      (n, q, low, same, (subst (λ n. is_put_of w.t.id w.t.epoch n q.request ≡ true) seq (ap (is_put_of w.t.id w.t.epoch a.w.seq) a.said ∙ puts_it a.anchor a.ts a.w), isnt))

  -- a put of a write in flight is staged where its commit stages
  staged_put : (one : SentStage) → Contains w.stages one → Any (λ sent. sent.request ≡ stage_request one) k.sent_now → (f : WriteInFlight) → Contains x.in_flight f → (anchor : List ℕ) (ts : ℕ) → IsPutStaged k (put_at x anchor ts f)
  staged_put one kept here f there anchor ts =
      let ev = evidence_of k.heard w.t w.stages x.staging.stages w.stands.staging.kept one kept in
      let own : same_txn one.meta.id x.id ≡ true = ap (λ id. same_txn id x.id) (ev.1.whose ∙ sym id_is) ∙ same_txn-self x.id in
      any_more (λ (sent : Sent). sent.request ≡ stage_request one) (λ (sent : Sent). IsStageWith x.id (ListsUnrefused k f.key f.seq) sent.request)
      (λ sent same. subst (IsStageWith x.id (ListsUnrefused k f.key f.seq)) (sym same) (own, record { listed = ev.1.lists f.key f.seq (waiting k w.stages (out_of p ms) w.t x w.stands f there); not_refused = ev.1.not_past })) k.sent_now here

  stage_here : (anchor : List ℕ) (stage : List Message) → StageStands k w.s w.t x w.stages anchor stage → All (λ m. is_to_send m ≡ false) stage → (one : SentStage) × Contains w.stages one × Any (λ sent. sent.request ≡ stage_request one) k.sent_now
  stage_here anchor [] st out = (st.one, st.kept, st.here)
  stage_here anchor (m ∷ []) (inl next) out = let e : false ≡ true = sym (All-head (λ m. is_to_send m ≡ false) m [] out) ∙ next.to_send in absurd cc
  stage_here anchor (m ∷ []) (inr st) out = (st.one, st.kept, st.here)
  stage_here anchor (m ∷ other ∷ more) st out = absurd st

  of_stage : (anchor : List ℕ) (stage : List Message) → StageStands k w.s w.t x w.stages anchor stage → All IsPlainOrPut stage
  of_stage anchor [] st = All-nil IsPlainOrPut
  of_stage anchor (m ∷ []) (inl next) = All-cons IsPlainOrPut m [] (inl (ap is_put next.said)) (All-nil IsPlainOrPut)
  of_stage anchor (m ∷ []) (inr st) = All-cons IsPlainOrPut m [] (inl (ap is_put st.said)) (All-nil IsPlainOrPut)
  of_stage anchor (m ∷ other ∷ more) st = absurd st

  -- the call's own write, which went out
  of_last : (key : List ℕ) (value : Option (List ℕ)) (m : Message) → ms ≡ m ∷ [] → w.s.call ≡ write_call key value → set.course.pipelines ≡ false → HasBeatenFirst k w.t → LaysLast k w.t x key value m → has_answer m ≡ false → IsWavePut m
  of_last key value m one is plain beaten l isnt = record {
    f = l.w;
    there = l.there;
    puts = ap (is_put_of w.t.id w.t.epoch l.w.seq) l.said ∙ puts_it l.anchor x.write_ts l.w;
    waits = subst (IsPutWaitedFor k w.s.call) (sym l.said) (subst (λ call. WaitsFor k l.w.key call) (sym is) (own_waits k l.w.key key value (sym l.place)));
    may = subst MayBlock (sym is) (write_blocks key value);
    beaten = beaten;
    each = λ g in_flight on.
        let suits : SuitsFlight (write_call key value) x.in_flight = subst (λ call. SuitsFlight call x.in_flight) is (subst (λ b. SuitsFlightIn b w.s.call x.in_flight) plain w.plain) in
        let same : l.w ≡ g = one_flight key value x.in_flight suits l.w g l.there in_flight in
        let own : is_put_of w.t.id w.t.epoch g.seq m.request ≡ true = subst (λ (f : WriteInFlight). is_put_of w.t.id w.t.epoch f.seq m.request ≡ true) same (ap (is_put_of w.t.id w.t.epoch l.w.seq) l.said ∙ puts_it l.anchor x.write_ts l.w) in
        subst (λ ms. Any (IsOwnOut g) ms) (sym one) (0, m, omega arith, refl, (own, isnt));
    staged = λ commits. absurd (write_no_commit key value (sym is ∙ commits));
  }

  all_plain_or_put : All IsPlainOrPut ms
  all_plain_or_put = by p (w.beaten quiet) once w.serves
    where
      by : (q : Purpose) → HasBeatenBy q k w.t → (q ≡ purposes.Write → set.course.pipelines ≡ false) → Serves set k w.s w.t x w.stages q ms → All IsPlainOrPut ms
      by (purposes.Beat call reading) b plain s = of_one s.m s.one (inl (ap is_put s.said))
      by (purposes.Prove call all) b plain s =
          All-weaker (SendsAgain call all k w.t x) IsPlainOrPut
          (λ m a. inr (λ isnt. record {
            f = a.w;
            there = a.there isnt;
            puts = ap (is_put_of w.t.id w.t.epoch a.w.seq) a.said ∙ puts_it a.anchor a.ts a.w;
            waits = subst (IsPutWaitedFor k w.s.call) (sym a.said) (subst (λ call. WaitsFor k a.w.key call) (sym s.asked) (waits_for k call all a.w.key s.begins s.writes (λ is. (w.t, opened, s.full is)) a.waits));
            may = subst MayBlock (sym s.asked) (begins_block call s.begins);
            beaten = b;
            each = λ g in_flight on.
                own_out call all ms s.again g
                (All-contains (λ f. waits_on call all f.key ≡ true → Any (IsOpenFor f) ms) x.in_flight g s.each in_flight (waits_true k call all g.key s.begins s.fills (subst (λ call. WaitsFor k g.key call) s.asked on)));
            staged = λ commits. absurd (commit_behind call (sym s.asked ∙ commits) s.begins);
          })) ms s.again
      by purposes.Read b plain s = of_asked (map (λ (m : Message). m.request) ms) refl (of_reads w.s.call (map (λ (m : Message). m.request) ms) s.asked)
      by purposes.Write b plain s = of_one s.m s.one (elim s.lays [
        | inl l ↦ (let e : false ≡ true = sym (All-head (λ m. is_to_send m ≡ false) s.m [] (subst (λ ms. All (λ m. is_to_send m ≡ false) ms) s.one whole)) ∙ to_send_by s.m.progress l.to_send in absurd cc)
        | inr l ↦ inr (of_last s.key s.value s.m s.one s.call (plain refl) b l)
      ])
      by (purposes.Refresh n puts) b plain s =
          of_asked (map (refresh_to x.id x.reads.ts x.write_ts) x.reads.spans) s.asked
          (All-map (λ r. is_put r ≡ false) (refresh_to x.id x.reads.ts x.write_ts) x.reads.spans (every (λ (span : Span). is_put (refresh_to x.id x.reads.ts x.write_ts span) ≡ false) (λ span. refl) x.reads.spans))
      by (purposes.Stage n) b plain s =
          let st = stage_here s.commits.anchor s.wave.stage s.wave.stands (all_last (λ m. is_to_send m ≡ false) s.wave.puts s.wave.stage (subst (λ ms. All (λ m. is_to_send m ≡ false) ms) s.wave.whole whole)) in
          subst (λ ms. All IsPlainOrPut ms) (sym s.wave.whole)
          (All-append IsPlainOrPut s.wave.puts s.wave.stage
          (All-weaker (SendsAgain calls.Commit true k w.t x) IsPlainOrPut
          (λ m a. inr (λ isnt. record {
            f = a.w;
            there = a.there isnt;
            puts = ap (is_put_of w.t.id w.t.epoch a.w.seq) a.said ∙ puts_it a.anchor a.ts a.w;
            waits = subst (IsPutWaitedFor k w.s.call) (sym a.said) (subst (λ call. WaitsFor k a.w.key call) (sym s.commits.call) tt);
            may = subst MayBlock (sym s.commits.call) tt;
            beaten = b;
            each = λ g in_flight on.
                subst (λ ms. Any (IsOwnOut g) ms) (sym s.wave.whole)
                (any_front (IsOwnOut g) s.wave.puts s.wave.stage (own_out calls.Commit true s.wave.puts s.wave.again g (All-contains (λ f. Any (IsOpenFor f) s.wave.puts) x.in_flight g s.wave.each in_flight)));
            staged = λ commits. subst (IsPutStaged k) (sym a.said) (staged_put st.0 st.1 st.2 a.w (a.there isnt) a.anchor a.ts);
          })) s.wave.puts s.wave.again)
          (of_stage s.commits.anchor s.wave.stage s.wave.stands))
      by (purposes.Query n holder puts) b plain s = of_one s.m s.asks (inl (ap is_put s.said))
      by (purposes.Commit n) b plain s = of_one s.m s.one (inl (ap is_put s.said))
      by (purposes.LastBeat answer reading) b plain s = of_one s.m s.one (inl (ap is_put s.said))
      by (purposes.Abort why) b plain s = of_one s.m s.one (inl (ap is_put s.said))

  -- a put that is out is still out as its session has it, where no put was heard in the call
  still_out : HeardNoPut k → (v : Write) → Any (IsOwnOut (in_flight_as v)) ms → IsStillOut k w.t v
  still_out none v (n, m, low, same, (puts, isnt)) = by m.progress refl stands.as_far
    where
      there : Contains ms m
      there = (n, low, same)

      stands : MessageStands set.course k m
      stands = All-contains (MessageStands set.course k) ms m w.wave.stand there

      put_no : (r : Request) → is_put_of w.t.id w.t.epoch v.seq r ≡ true → is_put r ≡ false → ⊥
      put_no (requests.Put meta seq ts key value) puts isnt = cc
      put_no r puts isnt = cc

      by : (p : Progress) → m.progress ≡ p → IsAsFar set.course k m.request m.conflicts p → IsStillOut k w.t v
      by progresses.ToSend is far = let e : false ≡ true = sym (All-contains (λ m. is_to_send m ≡ false) ms m whole there) ∙ ap progress_to_send is in absurd cc
      by (progresses.Sent number) is far =
          any_more (λ (s : Sent). (s.number ≡ number) × (s.request ≡ m.request)) (λ (s : Sent). IsTrue (is_put_of w.t.id w.t.epoch v.seq s.request) × IsTrue (not (is_heard k.heard s)))
          (λ s at. (ap (is_put_of w.t.id w.t.epoch v.seq) at.1 ∙ puts, none_heard number s k.heard at.0 far.0.unheard)) k.sent (numbered_in number m.request k.sent far.0.out.said)
      by (progresses.Met number conflict) is far =
          let in_now : Contains k.heard_now far.h = subst (λ hs. Contains hs far.h) (sym far.whole) (middle_in far.before far.h far.later) in
          absurd (put_no far.h.request (ap (is_put_of w.t.id w.t.epoch v.seq) far.reply.asked ∙ puts) (All-contains (λ h. is_put h.request ≡ false) k.heard_now far.h none in_now))
      by (progresses.Answered number reply) is far = let e : false ≡ true = sym isnt ∙ ap progress_has_answer is in absurd cc

  -- an unproved write is in flight
  flies : (v : Write) → Contains w.t.writes v → is_proved v ≡ false → Contains x.in_flight (in_flight_as v)
  flies v there isnt =
      subst (λ fs. Contains fs (in_flight_as v)) (sym w.stands.flight.in_flight)
      (contains_map in_flight_as (unproved w.t.writes) v (contains_in_filter (λ (w : Write). not (is_proved w)) w.t.writes v there (ap not isnt)))

  on_way : (m : Message) → IsWavePut m → HeardNoPut k → AreAwaitedOnWay k w.s w.t
  on_way m q none =
      all_from_contains (λ v. WaitsFor k v.key w.s.call → (is_proved v ≡ false) → IsStillOut k w.t v) w.t.writes
      (λ v there waits isnt. still_out none v (q.each (in_flight_as v) (flies v there isnt) waits))

  -- so it is heard in turn
  pub heard_turn : (h : Heard) → wave_awaits h.number ms ≡ true → request_sent h.number k.sent ≡ Some h.request → ProvesNothingEarly k (Some h) × HearsOnlyItsPuts k (Some h) × (is_put h.request ≡ true → IsInProvingWave k h)
  heard_turn h out said = by (All-contains IsPlainOrPut ms o.0 all_plain_or_put o.1)
    where
      o : (m : Message) × Contains ms m × (awaits_at h.number m ≡ true)
      o = awaited_in h.number ms out

      under : o.0.progress ≡ progresses.Sent h.number
      under = awaits_as h.number o.0.progress o.2

      same : o.0.request ≡ h.request
      same =
          let st : MessageStands set.course k o.0 = All-contains (MessageStands set.course k) ms o.0 w.wave.stand o.1 in
          let far : IsAsFar set.course k o.0.request o.0.conflicts (progresses.Sent h.number) = subst (λ p. IsAsFar set.course k o.0.request o.0.conflicts p) under st.as_far in
          same_Some o.0.request h.request (sym far.0.out.said ∙ said)

      by : IsPlainOrPut o.0 → ProvesNothingEarly k (Some h) × HearsOnlyItsPuts k (Some h) × (is_put h.request ≡ true → IsInProvingWave k h)
      by (inl isnt) =
          let none : is_put h.request ≡ false = sym (ap is_put same) ∙ isnt in
          ((λ asked. no_put_staged k h.request none), (λ call asked. no_put_waited k call h.request none), (λ is. let e : false ≡ true = sym none ∙ is in absurd cc))
      by (inr ready) =
          let q : IsWavePut o.0 = ready (ap progress_has_answer under) in
          let waited : IsPutWaitedFor k w.s.call h.request = subst (IsPutWaitedFor k w.s.call) same q.waits in (
            (λ asked. subst (IsPutStaged k) same (q.staged (same_Some w.s.call calls.Commit (sym called ∙ asked)))),
            (λ call asked. subst (λ call. IsPutWaitedFor k call h.request) (same_Some w.s.call call (sym called ∙ asked)) waited),
            (λ is. record {
              awaited = record {
                s = w.s;
                t = w.t;
                seq = q.f.seq;
                asked = w.opened;
                opened = opened;
                put = subst (λ r. IsTrue (is_put_of w.t.id w.t.epoch q.f.seq r)) same q.puts;
                may_wait = q.may;
                waits = waited;
              };
              beaten = λ u first. subst (λ t. HasBeaten k t) (same_Some w.t u (sym opened ∙ first)) (record { none_due = q.beaten.none_due; heard = q.beaten.heard; alive = q.beaten.alive });
              together = λ s u asked first none.
                  subst (λ s. AreAwaitedOnWay k s u) (same_Some w.s s (sym w.opened ∙ asked)) (subst (λ t. AreAwaitedOnWay k w.s t) (same_Some w.t u (sym opened ∙ first)) (on_way o.0 q none));
            }),
          )

hears_due : (c : Coordination) (k : Known) (h : Heard) (due : Due) → KnowsAt false c k due → awaits_number h.number due ≡ true → SendsNoMore due → request_sent h.number k.sent ≡ Some h.request
    → ProvesNothingEarly k (Some h) × HearsOnlyItsPuts k (Some h) × (is_put h.request ≡ true → IsInProvingWave k h)
hears_due c k h dues.Nothing at waits whole said = absurd cc
hears_due c k h (dues.Tell answer) at waits whole said = absurd cc
hears_due c k h (dues.Call call) at waits whole said =
    heard_turn (setting_of false c) k at.x call.purpose call.wave at.in_call refl whole
    (λ writes. and_once c.pipelining (sym (ap (λ p. c.pipelining && is_writing p) writes) ∙ out_once (c.pipelining && is_writing call.purpose) h.number call.wave at.aside.unsent waits)) h waits said

-- so it is with all that is waited for
pub hears_in_turn_ok : (c : Coordination) (k : Known) (h : Heard) → Knows false c k → IsAwaitedNext c k h → ProvesNothingEarly k (Some h) × HearsOnlyItsPuts k (Some h) × (is_put h.request ≡ true → IsInProvingWave k h)
hears_in_turn_ok c k h knows next = hears_due c k h c.due knows.stands next.waited next.whole next.said
