-- A message that is waited for is of a kind that is sent for the open call.
use Rattle.std.proofs.Common.{◌<◌, ◌≡◌, ℕ, ◌+◌, Bool, true, false, ◌⊎◌, inl, inr, List, [], ◌∷◌, map, Option, Some, refl, sym, ap, ◌∙◌, subst, All, Any, Contains, IsTrue}
use Rattle.std.proofs.lemmas.List.Elements.{All-append, All-cons, All-contains, All-map, All-nil, All-weaker}
use Rattle.std.proofs.lemmas.Option.{same_Some}
use Rattle.pc_base.specs.declared.limits.TheConstants.{MOST_CONFLICTS}
use Rattle.pc_base.specs.declared.span.Span.{Span}
use Rattle.pc_call.proofs.Facts.{open_is}
use Rattle.pc_call.proofs.Lists.{all_unmapped}
use Rattle.pc_call.proofs.QueryReady.{pipelined_by}
use Rattle.pc_call.proofs.Ready.{again_for, any_from, plain_again, plain_for, put_on, waits_for}
use Rattle.pc_call.specs.declared.purpose.Purpose.{Purpose}
use Rattle.pc_call.specs.declared.purpose.Purpose.TheVariants as purposes
use Rattle.pc_call.specs.Serving.{AreReadsOf, InCall, LaysLast, LaysNext, SendsAgain, Serves, StageStands, out_of, write_call}
use Rattle.pc_call.specs.Setting.{Setting}
use Rattle.pc_call.specs.Suiting.{SuitsFlightIn}
use Rattle.pc_coord.proofs.Aside.{awaited_in}
use Rattle.pc_coord.proofs.Lists.{every}
use Rattle.pc_coord.specs.Coordination.{Coordination, awaits_number, setting_of}
use Rattle.pc_coord.specs.declared.due.Due.{Due}
use Rattle.pc_coord.specs.declared.due.Due.TheVariants as dues
use Rattle.pc_coord.specs.Knows.{Knows, KnowsAt}
use Rattle.pc_flight.specs.declared.write.WriteInFlight.{WriteInFlight}
use Rattle.pc_follows.specs.CallMessages.{IsFor, IsForCall, IsPipelinedFor, IsPlainFor, IsPutAgain}
use Rattle.pc_follows.specs.Heartbeats.{is_heartbeat}
use Rattle.pc_follows.specs.PipelinedPuts.{WaitsFor}
use Rattle.pc_proto.specs.declared.call.Call.{Call}
use Rattle.pc_proto.specs.declared.call.Call.TheVariants as calls
use Rattle.pc_proto.specs.declared.request.Request.{Request}
use Rattle.pc_proto.specs.Requests.{is_abort, is_commit, is_put_of, is_stage}
use Rattle.pc_reads.specs.ReadsStanding.{refresh_to}
use Rattle.pc_txn.proofs.Laying.{known_one, place_is, seq_is}
use Rattle.pc_txn.proofs.Puts.{puts-own}
use Rattle.pc_txn.specs.declared.txn.OpenTxn.{OpenTxn}
use Rattle.pc_txn.specs.Opened.{meta_now, next_put, own_get, own_put, own_scan, put_at}
use Rattle.pc_txn.specs.Queries.{own_query}
use Rattle.pc_wave.proofs.Hearing.{awaits_as}
use Rattle.pc_wave.specs.declared.message.Message.{Message}
use Rattle.pc_wave.specs.Messages.{has_answer, progress_has_answer, wave_awaits}
use Rattle.pc_wave.specs.Standing.{IsAsFar, IsOnItsWay, MessageStands}
use Rattle.pc_world.specs.Known.{Known}
use Rattle.pc_world.specs.Known.Statements.{Statement}
use Rattle.pc_world.specs.Known.Traffic.{Sent, request_sent}
use Rattle.pc_world.specs.RangeOf.{pieces}
use Rattle.pc_world.specs.Send.Recovery.{IsBlockedWrite}
use Rattle.pc_world.specs.Tell.Data.{sent_before}
use Rattle.pc_world.specs.Tell.Refusal.{MayBlock}

module _ (set : Setting) (k : Known) (x : OpenTxn) (p : Purpose) (ms : List Message) (w : InCall set k x p ms) where
  abbrev IsOfCall : Request → Type 0
  IsOfCall r = IsForCall set.course.pipelines k r

  -- The message is of such a kind, unless it was answered.
  abbrev IsOpenOfCall : Message → Type 0
  IsOpenOfCall m = has_answer m ≡ false → IsOfCall m.request

  of_plain : (call : Call) (r : Request) → w.s.call ≡ call → IsPlainFor call r → IsOfCall r
  of_plain call r is kind = record { s = w.s; opened = w.opened; kind = inl (plain_for set.course.pipelines k w.s.call r (subst (λ c. IsPlainFor c r) (sym is) kind)) }

  of_beat : (r : Request) → MayBlock w.s.call → is_heartbeat r ≡ true → IsOfCall r
  of_beat r may beats = record { s = w.s; opened = w.opened; kind = inr (may, beats) }

  of_commit : (r : Request) → set.course.pipelines ≡ true → w.s.call ≡ calls.Commit → IsPipelinedFor k calls.Commit r → IsOfCall r
  of_commit r piped commits is = record { s = w.s; opened = w.opened; kind = inl (subst (λ b. IsFor b k w.s.call r) (sym piped) (inr (subst (λ call. IsPipelinedFor k call r) (sym commits) is))) }

  puts_it : (anchor : List ℕ) (ts : ℕ) (f : WriteInFlight) → is_put_of w.t.id w.t.epoch f.seq (put_at x anchor ts f) ≡ true
  puts_it anchor ts f =
      ap (λ id. is_put_of id w.t.epoch f.seq (put_at x anchor ts f)) (sym (ap (λ (x : OpenTxn). x.id) w.stands.same))
      ∙ (ap (λ epoch. is_put_of x.id epoch f.seq (put_at x anchor ts f)) (sym (ap (λ (x : OpenTxn). x.epoch) w.stands.same)) ∙ puts-own (meta_now x anchor) f.seq ts f.key f.value)

  -- a write in flight is put again
  puts_again : (call : Call) (all : Bool) (m : Message) (a : SendsAgain call all k w.t x m) → Contains x.in_flight a.w → WaitsFor k a.w.key call → IsPutAgain k call m.request
  puts_again call all m a there waits =
      let one = known_one k w.stages (out_of p ms) w.t x w.stands a.w there in
      let seq : one.w.seq ≡ a.w.seq = seq_is k w.stages (out_of p ms) w.t x w.stands a.w there in
      record {
        t = w.t;
        w = one.w;
        opened = open_is k w.t w.open_in;
        written = one.written;
        put = subst (λ n. is_put_of w.t.id w.t.epoch n m.request ≡ true) (sym seq) (ap (is_put_of w.t.id w.t.epoch a.w.seq) a.said ∙ puts_it a.anchor a.ts a.w);
        before =
            subst (λ n. Any (λ (m : Sent). IsTrue (is_put_of w.t.id w.t.epoch n m.request)) (sent_before k)) (sym seq)
            (any_from (λ (m : Sent). is_put_of w.t.id w.t.epoch a.w.seq m.request) (sent_before k) a.before);
        waits = subst (λ key. WaitsFor k key call) (sym (place_is k w.stages (out_of p ms) w.t x w.stands a.w there)) waits;
      }

  of_one : (m : Message) → ms ≡ m ∷ [] → IsOfCall m.request → All IsOpenOfCall ms
  of_one m one is = subst (λ ms. All IsOpenOfCall ms) (sym one) (All-cons IsOpenOfCall m [] (λ isnt. is) (All-nil IsOpenOfCall))

  of_asked : (asked : List Request) → map (λ (m : Message). m.request) ms ≡ asked → All IsOfCall asked → All IsOpenOfCall ms
  of_asked asked same are =
      All-weaker (λ (m : Message). IsOfCall m.request) IsOpenOfCall (λ m is isnt. is) ms (all_unmapped IsOfCall (λ (m : Message). m.request) ms (subst (λ rs. All IsOfCall rs) (sym same) are))

  of_reads : (call : Call) → w.s.call ≡ call → AreReadsOf set.splits x call (map (λ (m : Message). m.request) ms) → All IsOpenOfCall ms
  of_reads (calls.Get key) is asked = of_asked (own_get x key ∷ []) asked (All-cons IsOfCall (own_get x key) [] (of_plain (calls.Get key) (own_get x key) is refl) (All-nil IsOfCall))
  of_reads (calls.Scan span) is asked =
      of_asked (map (λ (p : ℕ × Span). own_scan x p.1) (pieces set.splits span)) asked
      (All-map IsOfCall (λ (p : ℕ × Span). own_scan x p.1) (pieces set.splits span) (every (λ (p : ℕ × Span). IsOfCall (own_scan x p.1)) (λ p. of_plain (calls.Scan span) (own_scan x p.1) is refl) (pieces set.splits span)))
  of_reads call is asked = absurd asked

  of_lays : (key : List ℕ) (value : Option (List ℕ)) (m : Message) → w.s.call ≡ write_call key value → LaysNext k w.s w.t x key value m ⊎ LaysLast k w.t x key value m → IsOfCall m.request
  of_lays key value m is (inl l) = subst IsOfCall (sym l.said) (of_plain (write_call key value) (next_put x key value) is (put_on key value _ (x.seq + 1) x.write_ts value))
  of_lays key value m is (inr l) =
      subst IsOfCall (sym l.said)
      (of_plain (write_call l.w.key value) (own_put x l.anchor l.w) (is ∙ ap (λ key. write_call key value) (sym l.place)) (put_on l.w.key value _ l.w.seq x.write_ts l.w.value))

  of_stage : (anchor : List ℕ) (stage : List Message) → set.course.pipelines ≡ true → w.s.call ≡ calls.Commit → StageStands k w.s w.t x w.stages anchor stage → All IsOpenOfCall stage
  of_stage anchor [] piped commits st = All-nil IsOpenOfCall
  of_stage anchor (m ∷ []) piped commits (inl s) = All-cons IsOpenOfCall m [] (λ isnt. of_commit m.request piped commits (inr (inl (ap is_stage s.said)))) (All-nil IsOpenOfCall)
  of_stage anchor (m ∷ []) piped commits (inr s) = All-cons IsOpenOfCall m [] (λ isnt. of_commit m.request piped commits (inr (inl (ap is_stage s.said)))) (All-nil IsOpenOfCall)
  of_stage anchor (m ∷ other ∷ more) piped commits st = absurd st

  of_proof : (call : Call) (all : Bool) (m : Message) (a : SendsAgain call all k w.t x m) → Contains x.in_flight a.w → (b : Bool) → SuitsFlightIn b call x.in_flight → IsPutAgain k call m.request → (IsPutAgain k call m.request → IsPipelinedFor k call m.request)
      → ((suits : SuitsFlightIn false call x.in_flight) → IsPlainFor call (put_at x a.anchor a.ts a.w)) → IsFor b k call m.request
  of_proof call all m a there true suits again piped plain = inr (piped again)
  of_proof call all m a there false suits again piped plain = subst (IsPlainFor call) (sym a.said) (plain suits)

  pub all_of_call : All IsOpenOfCall ms
  all_of_call = by p w.serves
    where
      by : (p : Purpose) → Serves set k w.s w.t x w.stages p ms → All IsOpenOfCall ms
      by (purposes.Beat call reading) s = of_one s.m s.one (of_beat s.m.request (subst MayBlock (sym (ap (λ (s : Statement). s.call) s.asked)) s.asks) (ap is_heartbeat s.said))
      by (purposes.Prove call all) s =
          All-weaker (SendsAgain call all k w.t x) IsOpenOfCall
          (λ m a isnt.
          let there : Contains x.in_flight a.w = a.there isnt in
          let again : IsPutAgain k call m.request = puts_again call all m a there (waits_for k call all a.w.key s.begins s.writes (λ is. (w.t, open_is k w.t w.open_in, s.full is)) a.waits) in
          let suits = subst (λ c. SuitsFlightIn set.course.pipelines c x.in_flight) s.asked w.plain in
          let kind = of_proof call all m a there set.course.pipelines suits again (again_for k call m.request s.begins) (λ suits. plain_again call x.in_flight a.w (meta_now x a.anchor) a.ts s.begins suits there) in
          record { s = w.s; opened = w.opened; kind = inl (subst (λ c. IsFor set.course.pipelines k c m.request) (sym s.asked) kind) }) ms s.again
      by purposes.Read s = of_reads w.s.call refl s.asked
      by purposes.Write s = of_one s.m s.one (of_lays s.key s.value s.m s.call s.lays)
      by (purposes.Refresh n puts) s =
          of_asked (map (refresh_to x.id x.reads.ts x.write_ts) x.reads.spans) s.asked
          (All-map IsOfCall (refresh_to x.id x.reads.ts x.write_ts) x.reads.spans
          (every (λ (span : Span). IsOfCall (refresh_to x.id x.reads.ts x.write_ts span)) (λ span. of_plain calls.Commit (refresh_to x.id x.reads.ts x.write_ts span) s.commits.call (inr refl)) x.reads.spans))
      by (purposes.Stage n) s =
          subst (λ ms. All IsOpenOfCall ms) (sym s.wave.whole)
          (All-append IsOpenOfCall s.wave.puts s.wave.stage
          (All-weaker (SendsAgain calls.Commit true k w.t x) IsOpenOfCall (λ m a isnt. of_commit m.request s.piped s.commits.call (inl (puts_again calls.Commit true m a (a.there isnt) tt))) s.wave.puts s.wave.again)
          (of_stage s.commits.anchor s.wave.stage s.piped s.commits.call s.wave.stands))
      by (purposes.Query n holder puts) s =
          let id_is : x.id ≡ w.t.id = ap (λ (x : OpenTxn). x.id) w.stands.same in
          let blocked = subst (λ id. IsBlockedWrite k.heard_now id x.epoch s.w.seq) (sym id_is) (subst (λ n. IsBlockedWrite k.heard_now w.t.id n s.w.seq) (sym (ap (λ (x : OpenTxn). x.epoch) w.stands.same)) s.blocked) in
          let piped = pipelined_by set.course.pipelines x.in_flight s.w (subst (λ call. SuitsFlightIn set.course.pipelines call x.in_flight) s.commits.call w.plain) s.there in
          of_one s.m s.asks (subst IsOfCall (sym s.said) (of_commit (own_query x s.w.key s.w.seq) piped s.commits.call (inr (inr ((w.t, open_is k w.t w.open_in, sym id_is), blocked)))))
      by (purposes.Commit n) s = of_one s.m s.one (of_plain calls.Commit s.m.request s.commits.call (inl (ap is_commit s.said)))
      by (purposes.LastBeat answer reading) s = of_one s.m s.one (of_beat s.m.request (subst MayBlock (sym s.gives_up.call) tt) (ap is_heartbeat s.said))
      by (purposes.Abort why) s = of_one s.m s.one (of_plain calls.Rollback s.m.request s.call (ap is_abort s.said))

  -- so is each whose reply is waited for
  pub awaited_of_call : (number : ℕ) (request : Request) → wave_awaits number ms ≡ true → request_sent number k.sent ≡ Some request → IsForCall set.course.pipelines k request
  awaited_of_call number request waits said =
      let o = awaited_in number ms waits in
      let sent = awaits_as number o.0.progress o.2 in
      let st : MessageStands set.course k o.0 = All-contains (MessageStands set.course k) ms o.0 w.wave.stand o.1 in
      let far : IsOnItsWay set.course k number o.0.request × (o.0.conflicts < MOST_CONFLICTS) = subst (λ p. IsAsFar set.course k o.0.request o.0.conflicts p) sent st.as_far in
      let same : o.0.request ≡ request = same_Some o.0.request request (sym far.0.out.said ∙ said) in
      subst IsOfCall same (All-contains IsOpenOfCall ms o.0 all_of_call o.1 (ap progress_has_answer sent))

awaits_at_due : (loses : Bool) (c : Coordination) (k : Known) (due : Due) (number : ℕ) (request : Request) → KnowsAt loses c k due → awaits_number number due ≡ true → request_sent number k.sent ≡ Some request → IsForCall c.pipelining k request
awaits_at_due loses c k dues.Nothing number request h waits said = absurd cc
awaits_at_due loses c k (dues.Tell answer) number request h waits said = absurd cc
awaits_at_due loses c k (dues.Call call) number request h waits said = awaited_of_call (setting_of loses c) k h.x call.purpose call.wave h.in_call number request waits said

pub awaits_its_puts_ok : (c : Coordination) (k : Known) (number : ℕ) (request : Request) → Knows false c k → awaits_number number c.due ≡ true → request_sent number k.sent ≡ Some request → IsForCall c.pipelining k request
awaits_its_puts_ok c k number request knows waits said = awaits_at_due false c k c.due number request knows.stands waits said
