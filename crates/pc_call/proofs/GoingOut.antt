-- What goes out of an open call: a new write behind those that are proved for which the call waits, and a stage beside the puts of those that are not.
use Rattle.std.proofs.Common.{◌≡◌, ◌≢◌, ℕ, Bool, true, false, not, ◌&&◌, ◌==◌, ◌⊎◌, inl, inr, List, [], ◌∷◌, ◌++◌, map, find, Option, Some, None, refl, sym, ap, ◌∙◌, subst, All, Any, Contains, IsTrue, cond}
use Rattle.std.proofs.lemmas.List.Elements.{All-append, All-cons, All-contains, All-head, All-map, All-nil, All-weaker}
use Rattle.std.proofs.lemmas.List.Folds.{list_any_none}
use Rattle.std.proofs.lemmas.Option.{same_Some}
use Rattle.std.proofs.lemmas.Bool.{ne_eqb}
use Rattle.pc_call.proofs.Facts.{before_is, open_is}
use Rattle.pc_call.proofs.Lists.{all_front, all_unmapped}
use Rattle.pc_call.proofs.ProofMessages.{sent_as}
use Rattle.pc_call.proofs.Reading.{reads_plain}
use Rattle.pc_call.proofs.Ready.{any_from, put_same}
use Rattle.pc_call.proofs.StageLists.{find_behind, found_front}
use Rattle.pc_call.specs.declared.purpose.Purpose.{Purpose}
use Rattle.pc_call.specs.declared.purpose.Purpose.TheVariants as purposes
use Rattle.pc_call.specs.Serving.{InCall, IsOpenFor, LaysLast, LaysNext, SendsAgain, Serves, ServesStage, ServesWrite, StageIsNext, StageIsOut, StageStands, write_call, IsFirstUnmet, AreReadsOf, out_of}
use Rattle.pc_call.specs.Setting.{Setting}
use Rattle.pc_flight.specs.declared.write.WriteInFlight.{WriteInFlight}
use Rattle.pc_flight.specs.InFlight.{in_flight_as}
use Rattle.pc_follows.specs.OwnStages.{AreAllOnWay, IsBesidePuts, IsStillOut}
use Rattle.pc_follows.specs.PipelinedPuts.{IsFull, WaitsFor}
use Rattle.pc_follows.specs.Proving.{IsNewPut, WritesBehindProved}
use Rattle.pc_lists.proofs.Anywhere.{any_behind, any_kept, any_of, any_weaker}
use Rattle.pc_lists.proofs.Lists.{all_from_contains, contains_in_filter, contains_map, contains_nil}
use Rattle.pc_lists.proofs.Same.{same_key-equal}
use Rattle.pc_base.specs.Span.{same_key}
use Rattle.pc_base.specs.declared.span.Span.{Span}
use Rattle.pc_proto.specs.declared.call.Call.{Call}
use Rattle.pc_proto.specs.declared.call.Call.TheVariants as calls
use Rattle.pc_proto.specs.declared.event.Event.TheVariants as events
use Rattle.pc_proto.specs.declared.request.Request.{Request}
use Rattle.pc_proto.specs.declared.request.Request.TheVariants as requests
use Rattle.pc_proto.specs.Requests.{is_put, is_put_of, is_stage}
use Rattle.pc_reads.specs.ReadsStanding.{refresh_to}
use Rattle.pc_txn.proofs.Laying.{sent_of}
use Rattle.pc_txn.proofs.Puts.{puts-own}
use Rattle.pc_txn.specs.declared.txn.OpenTxn.{OpenTxn}
use Rattle.pc_txn.specs.Opened.{meta_now, put_at, own_get, own_scan}
use Rattle.pc_wave.proofs.Changed.{found_all, found_none}
use Rattle.pc_wave.specs.declared.message.Message.{Message}
use Rattle.pc_wave.specs.declared.message.Progress.{Progress}
use Rattle.pc_wave.specs.declared.message.Progress.TheVariants as progresses
use Rattle.pc_wave.specs.Messages.{is_in_conflict, is_to_send, progress_has_answer, progress_in_conflict, progress_to_send}
use Rattle.pc_wave.specs.Standing.{IsAsFar, IsMessageAt, MessageStands, goes_beside}
use Rattle.pc_world.specs.Known.{Known}
use Rattle.pc_world.specs.Known.Traffic.{Sent}
use Rattle.pc_world.specs.Known.Writes.{Write, is_proved, unproved}
use Rattle.pc_world.specs.SameRequest.{IsSameRequest}
use Rattle.pc_world.specs.StageFate.{stage_request}
use Rattle.pc_world.specs.Tell.Data.{sent_before}
use Rattle.pc_world.specs.Tell.Refusal.{is_heard}
use Rattle.pc_world.specs.RangeOf.{pieces}

-- what is no stage goes out beside no put
beside_other : (k : Known) (r : Request) → is_stage r ≡ false → IsBesidePuts k r
beside_other k (requests.Stage meta ts now writes locks) other = absurd cc
beside_other k r other = tt

module _ (set : Setting) (k : Known) (x : OpenTxn) (p : Purpose) (ms : List Message) (w : InCall set k x p ms) where
  same_id : x.id ≡ w.t.id
  same_id = ap (λ (x : OpenTxn). x.id) w.stands.same

  same_epoch : x.epoch ≡ w.t.epoch
  same_epoch = ap (λ (x : OpenTxn). x.epoch) w.stands.same

  put_is : (seq : ℕ) (r : Request) → is_put_of x.id x.epoch seq r ≡ is_put_of w.t.id w.t.epoch seq r
  put_is seq r = ap (λ id. is_put_of id x.epoch seq r) same_id ∙ ap (λ n. is_put_of w.t.id n seq r) same_epoch

  puts_it : (anchor : List ℕ) (ts : ℕ) (f : WriteInFlight) → is_put_of w.t.id w.t.epoch f.seq (put_at x anchor ts f) ≡ true
  puts_it anchor ts f = sym (put_is f.seq (put_at x anchor ts f)) ∙ puts-own (meta_now x anchor) f.seq ts f.key f.value

  -- what is not proved is in flight
  flies : (v : Write) → Contains w.t.writes v → is_proved v ≡ false → Contains x.in_flight (in_flight_as v)
  flies v there un =
      subst (λ fs. Contains fs (in_flight_as v)) (sym w.stands.flight.in_flight)
      (contains_map in_flight_as (unproved w.t.writes) v (contains_in_filter (λ v. not (is_proved v)) w.t.writes v there (ap not un)))

  -- ---- a new write

  -- If the message goes out with a new write, each write for which the call waits is proved.
  abbrev PutsBehindProved : Message → Type 0
  PutsBehindProved m = IsNewPut k m.request → All (λ v. WaitsFor k v.key w.s.call → IsTrue (is_proved v)) w.t.writes

  plain : (m : Message) → is_put m.request ≡ false → PutsBehindProved m
  plain m none = λ new. let f : false ≡ true = sym none ∙ new.put in absurd cc

  old : (m : Message) → Any (λ s. IsSameRequest m.request s.request) k.sent → PutsBehindProved m
  old m some = λ new. let f = any_of (λ s. IsSameRequest m.request s.request → ⊥) (λ s. IsSameRequest m.request s.request) k.sent new.unsent some in absurd (f.1 f.2)

  -- a put of a write that was put before is not new
  put_old : (m : Message) (anchor : List ℕ) (ts : ℕ) (f : WriteInFlight) → m.request ≡ put_at x anchor ts f → Any (λ s. IsTrue (is_put_of w.t.id w.t.epoch f.seq s.request)) k.sent → PutsBehindProved m
  put_old m anchor ts f said some =
      old m
      (any_weaker (λ s. IsTrue (is_put_of w.t.id w.t.epoch f.seq s.request)) (λ s. IsSameRequest m.request s.request)
      (λ s put. subst (λ r. IsSameRequest r s.request) (sym said) (put_same (meta_now x anchor) f.seq ts f.key f.value s.request (put_is f.seq s.request ∙ put))) k.sent some)

  again_old : (call : Call) (all : Bool) (m : Message) → SendsAgain call all k w.t x m → PutsBehindProved m
  again_old call all m a =
      let P : Sent → Type 0 = λ s. IsTrue (is_put_of w.t.id w.t.epoch a.w.seq s.request) in
      let before : Any P w.split.sent_first = subst (λ ms. Any P ms) (before_is k w.split) (any_from (λ s. is_put_of w.t.id w.t.epoch a.w.seq s.request) (sent_before k) a.before) in
      put_old m a.anchor a.ts a.w a.said (subst (λ ms. Any P ms) (sym w.split.sent) (any_kept P w.split.sent_first k.sent_now before))

  -- the own write of a call that writes
  next_behind : (key : List ℕ) (value : Option (List ℕ)) (m : Message) → w.s.call ≡ write_call key value → LaysNext k w.s w.t x key value m → All (λ v. WaitsFor k v.key w.s.call → IsTrue (is_proved v)) w.t.writes
  next_behind key value m call l =
      all_from_contains (λ v. WaitsFor k v.key w.s.call → IsTrue (is_proved v)) w.t.writes (λ v there waits. by v there (subst (λ c. WaitsFor k v.key c) call waits) (is_proved v) refl)
    where
      which : (value : Option (List ℕ)) (place : List ℕ) → WaitsFor k place (write_call key value) → (key ≡ place) ⊎ IsFull k
      which None place waits = waits
      which (Some what) place waits = waits

      by : (v : Write) → Contains w.t.writes v → WaitsFor k v.key (write_call key value) → (b : Bool) → is_proved v ≡ b → is_proved v ≡ true
      by v there waits true is = is
      by v there waits false un =
          let f = flies v there un in
          elim (which value v.key waits) [
            | inl same ↦
                let free : same_key v.key key ≡ false = All-contains (λ f. same_key f.key key ≡ false) x.in_flight (in_flight_as v) l.free f in
                let hit : same_key v.key key ≡ true = same_key-equal v.key key (sym same) in
                absurd cc
            | inr full ↦ absurd (contains_nil (in_flight_as v) (subst (λ fs. Contains fs (in_flight_as v)) (l.full full) f))
          ]

  one_behind : (m : Message) → ms ≡ m ∷ [] → PutsBehindProved m → All PutsBehindProved ms
  one_behind m one behind = subst (λ ms. All PutsBehindProved ms) (sym one) (All-cons PutsBehindProved m [] behind (All-nil PutsBehindProved))

  write_behind : ServesWrite k w.s w.t x ms → All PutsBehindProved ms
  write_behind r = by r.lays
    where
      by : LaysNext k w.s w.t x r.key r.value r.m ⊎ LaysLast k w.t x r.key r.value r.m → All PutsBehindProved ms
      by (inl l) = one_behind r.m r.one (λ new. next_behind r.key r.value r.m r.call l)
      by (inr l) = one_behind r.m r.one (put_old r.m l.anchor x.write_ts l.w l.said (sent_of k w.stages (out_of p ms) w.t x w.stands l.w l.there))

  refreshes : (spans : List Span) → All (λ r. is_put r ≡ false) (map (refresh_to x.id x.reads.ts x.write_ts) spans)
  refreshes [] = All-nil (λ r. is_put r ≡ false)
  refreshes (span ∷ spans) = All-cons (λ r. is_put r ≡ false) (refresh_to x.id x.reads.ts x.write_ts span) (map (refresh_to x.id x.reads.ts x.write_ts) spans) refl (refreshes spans)

  stage_plain : (anchor : List ℕ) (stage : List Message) → StageStands k w.s w.t x w.stages anchor stage → All PutsBehindProved stage
  stage_plain anchor [] left = All-nil PutsBehindProved
  stage_plain anchor (m ∷ []) (inl next) = All-cons PutsBehindProved m [] (plain m (ap is_put next.said)) (All-nil PutsBehindProved)
  stage_plain anchor (m ∷ []) (inr out) = All-cons PutsBehindProved m [] (plain m (ap is_put out.said)) (All-nil PutsBehindProved)
  stage_plain anchor (m ∷ other ∷ more) both = absurd both

  all_behind_proved : All PutsBehindProved ms
  all_behind_proved = by p refl w.serves
    where
      by : (q : Purpose) → p ≡ q → Serves set k w.s w.t x w.stages q ms → All PutsBehindProved ms
      by (purposes.Beat call reading) e r = one_behind r.m r.one (plain r.m (ap is_put r.said))
      by (purposes.Prove call all) e r = All-weaker (SendsAgain call all k w.t x) PutsBehindProved (λ m a. again_old call all m a) ms r.again
      by purposes.Read e r =
          All-weaker (λ m. is_put m.request ≡ false) PutsBehindProved plain ms
          (all_unmapped (λ q. is_put q ≡ false) (λ (m : Message). m.request) ms
          (All-weaker (λ q. (is_put q ≡ false) × (goes_beside q ≡ false)) (λ q. is_put q ≡ false) (λ q both. both.0) (map (λ (m : Message). m.request) ms) (reads_plain set.splits x w.s.call (map (λ (m : Message). m.request) ms) r.asked)))
      by purposes.Write e r = write_behind r
      by (purposes.Refresh n puts) e r =
          All-weaker (λ m. is_put m.request ≡ false) PutsBehindProved plain ms (all_unmapped (λ q. is_put q ≡ false) (λ (m : Message). m.request) ms (subst (λ rs. All (λ q. is_put q ≡ false) rs) (sym r.asked) (refreshes x.reads.spans)))
      by (purposes.Stage n) e r =
          subst (λ ms. All PutsBehindProved ms) (sym r.wave.whole)
          (All-append PutsBehindProved r.wave.puts r.wave.stage (All-weaker (SendsAgain calls.Commit true k w.t x) PutsBehindProved (λ m a. again_old calls.Commit true m a) r.wave.puts r.wave.again) (stage_plain r.commits.anchor r.wave.stage r.wave.stands))
      by (purposes.Query n holder puts) e r = one_behind r.m r.asks (plain r.m (ap is_put r.said))
      by (purposes.Commit n) e r = one_behind r.m r.one (plain r.m (ap is_put r.said))
      by (purposes.LastBeat answer reading) e r = one_behind r.m r.one (plain r.m (ap is_put r.said))
      by (purposes.Abort why) e r = one_behind r.m r.one (plain r.m (ap is_put r.said))

  -- so what goes out next does
  pub proved_first : (m : Message) → find is_to_send ms ≡ Some m → (number range : ℕ) → WritesBehindProved k (events.Send number range m.request)
  proved_first m found number range = λ s t asked opened new.
      let same_s : w.s ≡ s = same_Some w.s s (sym w.opened ∙ asked) in
      let same_t : w.t ≡ t = same_Some w.t t (sym (open_is k w.t w.open_in) ∙ opened) in
      subst (λ s. All (λ v. WaitsFor k v.key s.call → IsTrue (is_proved v)) t.writes) same_s
      (subst (λ t. All (λ v. WaitsFor k v.key w.s.call → IsTrue (is_proved v)) t.writes) same_t (found_all is_to_send PutsBehindProved ms m found all_behind_proved new))

  -- ---- a stage

  module _ (n : ℕ) (r : ServesStage set.course n k w.s w.t x w.stages ms) (m : Message) (none : find is_to_send r.wave.puts ≡ None) (one : r.wave.stage ≡ m ∷ []) (to_send : is_to_send m ≡ true) where
    stand_puts : All (MessageStands set.course k) r.wave.puts
    stand_puts = all_front (MessageStands set.course k) r.wave.puts r.wave.stage (subst (λ ms. All (MessageStands set.course k) ms) r.wave.whole w.wave.stand)

    -- a put that is waited for is on its way
    on_way : (v : Write) (f : WriteInFlight) → f.seq ≡ v.seq → (y : Message) → MessageStands set.course k y → SendsAgain calls.Commit true k w.t x y → is_to_send y ≡ false → is_in_conflict y ≡ false → IsOpenFor f y → IsStillOut k w.t v
    on_way v f number y stands a out free opens = by y.progress refl out free opens.1 stands.as_far
      where
        asked : requests.Put opens.0.0 f.seq opens.0.1 f.key f.value ≡ put_at x a.anchor a.ts a.w
        asked = sym opens.0.2 ∙ a.said

        seq : a.w.seq ≡ v.seq
        seq = let both : requests.Put opens.0.0 f.seq opens.0.1 f.key f.value ≡ put_at x a.anchor a.ts a.w = asked in let e : f.seq ≡ a.w.seq = cc in sym e ∙ number

        puts_v : is_put_of w.t.id w.t.epoch v.seq y.request ≡ true
        puts_v = ap (is_put_of w.t.id w.t.epoch v.seq) a.said ∙ ap (λ n. is_put_of w.t.id w.t.epoch n (put_at x a.anchor a.ts a.w)) (sym seq) ∙ puts_it a.anchor a.ts a.w

        by : (q : Progress) → y.progress ≡ q → progress_to_send q ≡ false → progress_in_conflict q ≡ false → progress_has_answer q ≡ false → IsAsFar set.course k y.request y.conflicts q → IsStillOut k w.t v
        by progresses.ToSend is out free unanswered far = absurd cc
        by (progresses.Sent at) is out free unanswered far =
            any_weaker (IsMessageAt at y.request) (λ s. IsTrue (is_put_of w.t.id w.t.epoch v.seq s.request) × IsTrue (not (is_heard k.heard s)))
            (λ s it. (
              ap (is_put_of w.t.id w.t.epoch v.seq) it.asked ∙ puts_v,
              ap not (list_any_none (λ h. h.number == s.number) k.heard (All-weaker (λ h. h.number ≢ at) (λ h. (h.number == s.number) ≡ false) (λ h other. ne_eqb h.number s.number (λ e. other (e ∙ it.numbered))) k.heard far.0.unheard)),
            ))
            k.sent (sent_as at y.request k.sent far.0.out.said)
        by (progresses.Met at conflict) is out free unanswered far = absurd cc
        by (progresses.Answered at reply) is out free unanswered far = absurd cc

    next_beside : StageIsNext k w.s w.t x r.commits.anchor m → AreAllOnWay k
    next_beside next = λ t opened.
        subst (λ t. All (λ v. IsTrue (is_proved v) ⊎ IsStillOut k t v) t.writes) (same_Some w.t t (sym (open_is k w.t w.open_in) ∙ opened))
        (all_from_contains (λ v. IsTrue (is_proved v) ⊎ IsStillOut k w.t v) w.t.writes (λ v there. by v there (is_proved v) refl))
      where
        free : All (λ put. is_in_conflict put ≡ false) r.wave.puts
        free =
            All-head (IsFirstUnmet r.wave.puts) m [] (subst (λ stage. All (IsFirstUnmet r.wave.puts) stage) one r.wave.unmet)
            (ap (λ b. b && (m.lost == 0)) next.to_send ∙ ap (λ n. n == 0) next.unlost)

        by : (v : Write) → Contains w.t.writes v → (b : Bool) → is_proved v ≡ b → IsTrue (is_proved v) ⊎ IsStillOut k w.t v
        by v there true is = inl is
        by v there false un =
            let f = in_flight_as v in
            let open_put : Any (IsOpenFor f) r.wave.puts = All-contains (λ f. Any (IsOpenFor f) r.wave.puts) x.in_flight f r.wave.each (flies v there un) in
            let inside : Contains r.wave.puts open_put.1 = (open_put.0, open_put.2, open_put.3) in
            inr
            (on_way v f refl open_put.1 (All-contains (MessageStands set.course k) r.wave.puts open_put.1 stand_puts inside) (All-contains (SendsAgain calls.Commit true k w.t x) r.wave.puts open_put.1 r.wave.again inside)
            (All-contains (λ y. is_to_send y ≡ false) r.wave.puts open_put.1 (found_none is_to_send r.wave.puts none) inside) (All-contains (λ y. is_in_conflict y ≡ false) r.wave.puts open_put.1 free inside) open_put.4)

    stage_beside : StageIsNext k w.s w.t x r.commits.anchor m ⊎ StageIsOut k w.t x w.stages m → IsBesidePuts k m.request
    stage_beside (inl next) = subst (IsBesidePuts k) (sym next.said) (λ new. next_beside next)
    stage_beside (inr out) =
        let P : Sent → Type 0 = λ s. s.request ≡ stage_request out.one in
        subst (IsBesidePuts k) (sym out.said) (λ new. absurd (new (subst (λ ms. Any P ms) (sym w.split.sent) (any_behind P w.split.sent_first k.sent_now out.here))))

  -- a put that goes out is no stage
  put_beside : (m : Message) → SendsAgain calls.Commit true k w.t x m → IsBesidePuts k m.request
  put_beside m a = beside_other k m.request (ap is_stage a.said)

  stage_out : (n : ℕ) → ServesStage set.course n k w.s w.t x w.stages ms → (m : Message) → find is_to_send ms ≡ Some m → IsBesidePuts k m.request
  stage_out n r m found = by (find is_to_send r.wave.puts) refl
    where
      whole : find is_to_send (r.wave.puts ++ r.wave.stage) ≡ Some m
      whole = subst (λ ms. find is_to_send ms ≡ Some m) r.wave.whole found

      in_stage : (stage : List Message) → r.wave.stage ≡ stage → find is_to_send stage ≡ Some m → find is_to_send r.wave.puts ≡ None → StageStands k w.s w.t x w.stages r.commits.anchor stage → IsBesidePuts k m.request
      in_stage [] is there none stands = absurd cc
      in_stage (y ∷ []) is there none stands = here (is_to_send y) refl there
        where
          here : (b : Bool) → is_to_send y ≡ b → cond b (Some y) None ≡ Some m → IsBesidePuts k m.request
          here true to_send e =
              let same : y ≡ m = same_Some y m e in
              subst (λ (y : Message). IsBesidePuts k y.request) same (stage_beside n r y none is to_send stands)
          here false out e = absurd cc
      in_stage (y ∷ other ∷ more) is there none stands = absurd stands

      by : (o : Option Message) → find is_to_send r.wave.puts ≡ o → IsBesidePuts k m.request
      by (Some y) first =
          let same : y ≡ m = same_Some y m (sym (found_front is_to_send r.wave.puts r.wave.stage y first) ∙ whole) in
          subst (λ (y : Message). IsBesidePuts k y.request) same (put_beside y (found_all is_to_send (SendsAgain calls.Commit true k w.t x) r.wave.puts y first r.wave.again))
      by None none = in_stage r.wave.stage refl (sym (find_behind is_to_send r.wave.puts r.wave.stage (found_none is_to_send r.wave.puts none)) ∙ whole) none r.wave.stands

  -- What is not a stage.
  abbrev IsNoStage : Message → Type 0
  IsNoStage m = is_stage m.request ≡ false

  of_all : (m : Message) → find is_to_send ms ≡ Some m → All IsNoStage ms → IsBesidePuts k m.request
  of_all m found all = beside_other k m.request (found_all is_to_send IsNoStage ms m found all)

  of_one : (m y : Message) → find is_to_send ms ≡ Some m → ms ≡ y ∷ [] → is_stage y.request ≡ false → IsBesidePuts k m.request
  of_one m y found one none = of_all m found (subst (λ ms. All IsNoStage ms) (sym one) (All-cons IsNoStage y [] none (All-nil IsNoStage)))

  no_stages : (splits : List (List ℕ)) (call : Call) (rs : List Request) → AreReadsOf splits x call rs → All (λ r. is_stage r ≡ false) rs
  no_stages splits (calls.Get key) rs asked = subst (λ rs. All (λ r. is_stage r ≡ false) rs) (sym asked) (All-cons (λ r. is_stage r ≡ false) (own_get x key) [] refl (All-nil (λ r. is_stage r ≡ false)))
  no_stages splits (calls.Scan span) rs asked = subst (λ rs. All (λ r. is_stage r ≡ false) rs) (sym asked) (All-map (λ r. is_stage r ≡ false) (λ p. own_scan x p.1) (pieces splits span) (every (pieces splits span)))
    where
      every : (ps : List (ℕ × Span)) → All (λ p. is_stage (own_scan x p.1) ≡ false) ps
      every [] = All-nil (λ (p : ℕ × Span). is_stage (own_scan x p.1) ≡ false)
      every (p ∷ ps) = All-cons (λ (p : ℕ × Span). is_stage (own_scan x p.1) ≡ false) p ps refl (every ps)
  no_stages splits call rs asked = absurd asked

  refreshes_no : (spans : List Span) → All (λ r. is_stage r ≡ false) (map (refresh_to x.id x.reads.ts x.write_ts) spans)
  refreshes_no [] = All-nil (λ r. is_stage r ≡ false)
  refreshes_no (span ∷ spans) = All-cons (λ r. is_stage r ≡ false) (refresh_to x.id x.reads.ts x.write_ts span) (map (refresh_to x.id x.reads.ts x.write_ts) spans) refl (refreshes_no spans)

  write_no : (r : ServesWrite k w.s w.t x ms) → LaysNext k w.s w.t x r.key r.value r.m ⊎ LaysLast k w.t x r.key r.value r.m → is_stage r.m.request ≡ false
  write_no r (inl l) = ap is_stage l.said
  write_no r (inr l) = ap is_stage l.said

  -- so it goes out beside the puts of the writes that it lists
  pub beside_puts : (m : Message) → find is_to_send ms ≡ Some m → IsBesidePuts k m.request
  beside_puts m found = by p refl w.serves
    where
      by : (q : Purpose) → p ≡ q → Serves set k w.s w.t x w.stages q ms → IsBesidePuts k m.request
      by (purposes.Beat call reading) e r = of_one m r.m found r.one (ap is_stage r.said)
      by (purposes.Prove call all) e r = of_all m found (All-weaker (SendsAgain call all k w.t x) IsNoStage (λ m a. ap is_stage a.said) ms r.again)
      by purposes.Read e r = of_all m found (all_unmapped (λ q. is_stage q ≡ false) (λ (m : Message). m.request) ms (no_stages set.splits w.s.call (map (λ (m : Message). m.request) ms) r.asked))
      by purposes.Write e r = of_one m r.m found r.one (write_no r r.lays)
      by (purposes.Refresh n puts) e r = of_all m found (all_unmapped (λ q. is_stage q ≡ false) (λ (m : Message). m.request) ms (subst (λ rs. All (λ q. is_stage q ≡ false) rs) (sym r.asked) (refreshes_no x.reads.spans)))
      by (purposes.Stage n) e r = stage_out n r m found
      by (purposes.Query n holder puts) e r = of_one m r.m found r.asks (ap is_stage r.said)
      by (purposes.Commit n) e r = of_one m r.m found r.one (ap is_stage r.said)
      by (purposes.LastBeat answer reading) e r = of_one m r.m found r.one (ap is_stage r.said)
      by (purposes.Abort why) e r = of_one m r.m found r.one (ap is_stage r.said)
