-- Messages of an open call that are waited for, and those that are sent.
use Rattle.std.proofs.Common.{◌≡◌, ℕ, zero, suc, ◌+◌, ◌≤◌, ◌<◌, Bool, true, false, ◌||◌, ◌⊎◌, inl, inr, List, [], ◌∷◌, find, Option, Some, refl, sym, ap, ◌∙◌, subst, arith, All, Contains}
use Rattle.std.specs.List.{list_all}
use Rattle.std.proofs.lemmas.List.Elements.{All-append, All-cons, All-contains, All-head, All-map, All-nil, All-tail, All-weaker}
use Rattle.std.proofs.lemmas.Option.{same_Some}
use Rattle.pc_base.specs.declared.limits.TheConstants.{MOST_CONFLICTS}
use Rattle.pc_base.specs.declared.span.Span.{Span}
use Rattle.pc_call.proofs.Lists.{all_unmapped}
use Rattle.pc_call.specs.declared.purpose.Purpose.{Purpose}
use Rattle.pc_call.specs.declared.purpose.Purpose.TheVariants as purposes
use Rattle.pc_call.specs.Serving.{AreReadsOf, InCall, LaysLast, LaysNext, SendsAgain, Serves, StageStands, StageWave}
use Rattle.pc_call.specs.Setting.{Setting}
use Rattle.pc_coord.proofs.Aside.{awaited_in, found_in}
use Rattle.pc_coord.proofs.Lists.{every}
use Rattle.pc_proto.specs.declared.call.Call.{Call}
use Rattle.pc_proto.specs.declared.call.Call.TheVariants as calls
use Rattle.pc_proto.specs.declared.request.Request.{Request}
use Rattle.pc_proto.specs.declared.request.Request.TheVariants as requests
use Rattle.pc_proto.specs.Requests.{is_stage}
use Rattle.pc_reads.specs.ReadsStanding.{refresh_to}
use Rattle.pc_staging.specs.Standing.{WasStageSent}
use Rattle.pc_txn.specs.Counted.{IsOwn}
use Rattle.pc_txn.specs.declared.txn.OpenTxn.{OpenTxn}
use Rattle.pc_txn.specs.Opened.{own_get, own_scan}
use Rattle.pc_txn.specs.Silence.{own_beat}
use Rattle.pc_wave.proofs.Changed.{found_all, found_passes}
use Rattle.pc_wave.proofs.Hearing.{awaits_as}
use Rattle.pc_wave.proofs.Sending.{sends_first}
use Rattle.pc_wave.specs.Course.{Course}
use Rattle.pc_wave.specs.declared.message.Message.{Message}
use Rattle.pc_wave.specs.declared.message.Progress.{Progress}
use Rattle.pc_wave.specs.declared.message.Progress.TheVariants as progresses
use Rattle.pc_wave.specs.declared.step.Step.TheVariants as steps
use Rattle.pc_wave.specs.Messages.{awaits_at, first_in_conflict, has_answer, is_to_send, progress_awaits, progress_to_send, step_of, wave_awaits}
use Rattle.pc_wave.specs.Standing.{AreOfTwo, IsAsFar, IsOnItsWay, MessageStands, Pairwise, WaveStands}
use Rattle.pc_world.specs.Known.{Known}
use Rattle.pc_world.specs.Known.Traffic.{request_sent}
use Rattle.pc_world.specs.RangeOf.{pieces}
use Rattle.pc_world.specs.SameRequest.{IsSameRequest}

-- a message that is waited for is on its way
pub awaited_out : (c : Course) (k : Known) (number : ℕ) (ms : List Message) → All (MessageStands c k) ms → wave_awaits number ms ≡ true → (r : Request) × IsOnItsWay c k number r
awaited_out c k number [] a waits = absurd cc
awaited_out c k number (m ∷ ms) a waits = by (awaited_out c k number ms (All-tail (MessageStands c k) m ms a)) (awaits_at number m) refl waits
  where
    by : (wave_awaits number ms ≡ true → (r : Request) × IsOnItsWay c k number r) → (b : Bool) → awaits_at number m ≡ b → (b || wave_awaits number ms) ≡ true → (r : Request) × IsOnItsWay c k number r
    by later true is e =
        let far : IsOnItsWay c k number m.request × (m.conflicts < MOST_CONFLICTS) = subst (λ p. IsAsFar c k m.request m.conflicts p) (awaits_as number m.progress is) (All-head (MessageStands c k) m ms a).as_far in
        (m.request, far.0)
    by later false is e = later e

differ_two : (ms : List Message) → Pairwise AreOfTwo ms → (one other : Message) → Contains ms one → Contains ms other → (one ≡ other → ⊥) → IsSameRequest one.request other.request → ⊥
differ_two [] two one other (n, low, same) there differ is = absurd (omega (arith, low))
differ_two (m ∷ ms) two one other (zero, low, same) (zero, low2, same2) differ is = differ (sym same ∙ same2)
differ_two (m ∷ ms) two one other (zero, low, same) (suc n, low2, same2) differ is =
    (subst (λ q. AreOfTwo q other) same (All-contains (AreOfTwo m) ms other two.0 (n, omega (arith, low2), same2))).differ is
differ_two (m ∷ ms) two one other (suc n, low, same) (zero, low2, same2) differ is =
    (subst (λ q. AreOfTwo q one) same2 (All-contains (AreOfTwo m) ms one two.0 (n, omega (arith, low), same))).back is
differ_two (m ∷ ms) two one other (suc n, low, same) (suc n2, low2, same2) differ is =
    differ_two ms two.1 one other (n, omega (arith, low), same) (n2, omega (arith, low2), same2) differ is

sends_awaits : (n : ℕ) (p : Progress) → progress_to_send p ≡ true → progress_awaits n p ≡ true → ⊥
sends_awaits n progresses.ToSend is waits = cc
sends_awaits n (progresses.Sent number) is waits = cc
sends_awaits n (progresses.Met number conflict) is waits = cc
sends_awaits n (progresses.Answered number reply) is waits = cc

-- where a request is to be sent, none of the same is waited for
pub none_awaited : (c : Course) (k : Known) (ms : List Message) → WaveStands c k ms → (request : Request) → step_of ms ≡ steps.Send request
    → (number : ℕ) (other : Request) → wave_awaits number ms ≡ true → request_sent number k.sent ≡ Some other → IsSameRequest request other → ⊥
none_awaited c k ms w request due number other waits said same =
    let f = sends_first (first_in_conflict ms) (find is_to_send ms) (list_all has_answer ms) request due in
    let o = awaited_in number ms waits in
    let there : Contains ms f.0 = found_in is_to_send ms f.0 f.1 in
    let far : IsOnItsWay c k number o.0.request × (o.0.conflicts < MOST_CONFLICTS) =
    subst (λ p. IsAsFar c k o.0.request o.0.conflicts p) (awaits_as number o.0.progress o.2) (All-contains (MessageStands c k) ms o.0 w.stand o.1).as_far in
    let is : o.0.request ≡ other = same_Some o.0.request other (sym far.0.out.said ∙ said) in
    differ_two ms w.differ f.0 o.0 there o.1
    (λ e. sends_awaits number o.0.progress (ap is_to_send (sym e) ∙ found_passes is_to_send ms f.0 f.1) o.2)
    (subst (λ r. IsSameRequest f.0.request r) (sym is) (subst (λ r. IsSameRequest r other) (sym f.2) same))

module _ (session : ℕ) (set : Setting) (k : Known) (x : OpenTxn) (p : Purpose) (ms : List Message) (w : InCall set k x p ms) where
  low : x.id.number ≤ k.begun
  low = omega (arith, w.stands.number, ap (λ x. x.id.number) w.stands.same)

  own_put : (r : Request) → (meta : _) (seq ts : ℕ) (key : List ℕ) (value : Option (List ℕ)) → r ≡ requests.Put meta seq ts key value → meta.id ≡ x.id → IsOwn session k.begun r
  own_put r meta seq ts key value is same =
      subst (IsOwn session k.begun) (sym is) (record { write = omega (arith, low, ap (λ i. i.number) same); record_of = λ id about whose. absurd cc; query_of = tt })

  own_stage : (r : Request) → (meta : _) (ts now : ℕ) (writes : List (List ℕ × ℕ)) (locks : List (List ℕ)) → r ≡ requests.Stage meta ts now writes locks → meta.id ≡ x.id → IsOwn session k.begun r
  own_stage r meta ts now writes locks is same =
      subst (IsOwn session k.begun) (sym is)
      (record { write = omega (arith, low, ap (λ i. i.number) same); record_of = λ id about whose. let e : meta.id ≡ id = same_Some meta.id id about in omega (arith, low, ap (λ i. i.number) (sym same ∙ e)); query_of = tt })

  own_one : (m : Message) → ms ≡ m ∷ [] → IsOwn session k.begun m.request → All (λ m. IsOwn session k.begun m.request) ms
  own_one m one own =
      let P : Message → Type 0 = λ m. IsOwn session k.begun m.request in
      subst (λ ms. All P ms) (sym one) (All-cons P m [] own (All-nil P))

  own_get_is : (key : List ℕ) → IsOwn session k.begun (own_get x key)
  own_get_is key = record { write = tt; record_of = λ id about whose. absurd cc; query_of = tt }

  own_scan_is : (span : Span) → IsOwn session k.begun (own_scan x span)
  own_scan_is span = record { write = tt; record_of = λ id about whose. absurd cc; query_of = tt }

  own_reads : (call : Call) (rs : List Request) → AreReadsOf set.splits x call rs → All (IsOwn session k.begun) rs
  own_reads (calls.Get key) rs e = subst (λ rs. All (IsOwn session k.begun) rs) (sym e) (All-cons (IsOwn session k.begun) (own_get x key) [] (own_get_is key) (All-nil (IsOwn session k.begun)))
  own_reads (calls.Scan span) rs e =
      subst (λ rs. All (IsOwn session k.begun) rs) (sym e)
      (All-map (IsOwn session k.begun) (λ p. own_scan x p.1) (pieces set.splits span) (every (λ p. IsOwn session k.begun (own_scan x p.1)) (λ p. own_scan_is p.1) (pieces set.splits span)))
  own_reads call rs e = absurd e

  own_writes : (key : List ℕ) (value : Option (List ℕ)) (m : Message) → LaysNext k w.s w.t x key value m ⊎ LaysLast k w.t x key value m → IsOwn session k.begun m.request
  own_writes key value m (inl l) = own_put m.request _ (x.seq + 1) x.write_ts key value l.said refl
  own_writes key value m (inr l) = own_put m.request _ l.w.seq x.write_ts l.w.key l.w.value l.said refl

  own_again : (call : Call) (all : Bool) (m : Message) → SendsAgain call all k w.t x m → IsOwn session k.begun m.request
  own_again call all m a = own_put m.request _ a.w.seq a.ts a.w.key a.w.value a.said refl

  abbrev Own : Message → Type 0
  Own m = IsOwn session k.begun m.request

  stages_own : (anchor : List ℕ) (stage : List Message) → StageStands k w.s w.t x w.stages anchor stage → All Own stage
  stages_own anchor [] s = All-nil Own
  stages_own anchor (m ∷ []) (inl s) = All-cons Own m [] (own_stage m.request _ _ _ _ _ s.said refl) (All-nil Own)
  stages_own anchor (m ∷ []) (inr s) =
      let sent : WasStageSent k.sent w.t.id s.one = All-contains (WasStageSent k.sent w.t.id) w.stages s.one w.stands.staging.sent s.kept in
      All-cons Own m [] (own_stage m.request s.one.meta s.one.ts s.one.now s.one.writes s.one.locks s.said (sent.whose ∙ sym (ap (λ x. x.id) w.stands.same))) (All-nil Own)
  stages_own anchor (m ∷ other ∷ more) s = absurd s

  own_wave : (anchor : List ℕ) → StageWave set.course.loses k w.s w.t x w.stages anchor ms → All Own ms
  own_wave anchor v =
      subst (λ ms. All Own ms) (sym v.whole)
      (All-append Own v.puts v.stage (All-weaker (SendsAgain calls.Commit true k w.t x) Own (λ m a. own_again calls.Commit true m a) v.puts v.again) (stages_own anchor v.stage v.stands))

  own_beat_is : (m : Message) (reading : ℕ) (anchor : List ℕ) → m.request ≡ own_beat x reading anchor → IsOwn session k.begun m.request
  own_beat_is m reading anchor said =
      subst (IsOwn session k.begun) (sym said)
      (record { write = tt; record_of = λ id about whose. let e : x.id ≡ id = same_Some x.id id about in omega (arith, low, ap (λ i. i.number) e); query_of = tt })

  all_own : (p : Purpose) → Serves set k w.s w.t x w.stages p ms → All Own ms
  all_own (purposes.Beat call reading) s = own_one s.m s.one (own_beat_is s.m reading s.anchor s.said)
  all_own (purposes.Prove call all) s = All-weaker (SendsAgain call all k w.t x) Own (λ m a. own_again call all m a) ms s.again
  all_own purposes.Read s = all_unmapped (IsOwn session k.begun) (λ m. m.request) ms (own_reads w.s.call _ s.asked)
  all_own purposes.Write s = own_one s.m s.one (own_writes s.key s.value s.m s.lays)
  all_own (purposes.Refresh n puts) s =
      all_unmapped (IsOwn session k.begun) (λ m. m.request) ms
      (subst (λ rs. All (IsOwn session k.begun) rs) (sym s.asked)
      (All-map (IsOwn session k.begun) (refresh_to x.id x.reads.ts x.write_ts) x.reads.spans
      (every (λ span. IsOwn session k.begun (refresh_to x.id x.reads.ts x.write_ts span)) (λ span. record { write = tt; record_of = λ id about whose. absurd cc; query_of = tt }) x.reads.spans)))
  all_own (purposes.Stage n) s = own_wave s.commits.anchor s.wave
  all_own (purposes.Query n holder puts) s =
      own_one s.m s.asks (subst (IsOwn session k.begun) (sym s.said) (record { write = tt; record_of = λ id about whose. absurd cc; query_of = λ whose. low }))
  all_own (purposes.Commit n) s =
      own_one s.m s.one (subst (IsOwn session k.begun) (sym s.said)
      (record { write = low; record_of = λ id about whose. let e : x.id ≡ id = same_Some x.id id about in omega (arith, low, ap (λ i. i.number) e); query_of = tt }))
  all_own (purposes.LastBeat answer reading) s = own_one s.m s.one (own_beat_is s.m reading s.gives_up.anchor s.said)
  all_own (purposes.Abort why) s =
      own_one s.m s.one (subst (IsOwn session k.begun) (sym s.said)
      (record { write = tt; record_of = λ id about whose. let e : x.id ≡ id = same_Some x.id id about in omega (arith, low, ap (λ i. i.number) e); query_of = tt }))

  -- what is sent is the session's own
  pub sends_own : (request : Request) → step_of ms ≡ steps.Send request → IsOwn session k.begun request
  sends_own request due =
      let f = sends_first (first_in_conflict ms) (find is_to_send ms) (list_all has_answer ms) request due in
      subst (IsOwn session k.begun) f.2 (found_all is_to_send Own ms f.0 f.1 (all_own p w.serves))

  stage_no : (r : Request) → is_stage r ≡ false → (m : Message) → m.request ≡ r → is_stage m.request ≡ false
  stage_no r isnt m said = ap is_stage said ∙ isnt

  abbrev Plain : Message → Type 0
  Plain m = is_stage m.request ≡ false

  plain_one : (m : Message) → ms ≡ m ∷ [] → is_stage m.request ≡ false → All Plain ms
  plain_one m one isnt = subst (λ ms. All Plain ms) (sym one) (All-cons Plain m [] isnt (All-nil Plain))

  plain_reads : (call : Call) (rs : List Request) → AreReadsOf set.splits x call rs → All (λ r. is_stage r ≡ false) rs
  plain_reads (calls.Get key) rs e = subst (λ rs. All (λ r. is_stage r ≡ false) rs) (sym e) (All-cons (λ r. is_stage r ≡ false) (own_get x key) [] refl (All-nil (λ r. is_stage r ≡ false)))
  plain_reads (calls.Scan span) rs e =
      subst (λ rs. All (λ r. is_stage r ≡ false) rs) (sym e)
      (All-map (λ r. is_stage r ≡ false) (λ p. own_scan x p.1) (pieces set.splits span) (every (λ p. is_stage (own_scan x p.1) ≡ false) (λ p. refl) (pieces set.splits span)))
  plain_reads call rs e = absurd e

  plain_writes : (key : List ℕ) (value : Option (List ℕ)) (m : Message) → LaysNext k w.s w.t x key value m ⊎ LaysLast k w.t x key value m → is_stage m.request ≡ false
  plain_writes key value m (inl l) = ap is_stage l.said
  plain_writes key value m (inr l) = ap is_stage l.said

  -- only a call that stages sends a stage, and so where writes are pipelined alone
  all_plain : set.course.pipelines ≡ false → (p : Purpose) → Serves set k w.s w.t x w.stages p ms → All Plain ms
  all_plain isnt (purposes.Beat call reading) s = plain_one s.m s.one (ap is_stage s.said)
  all_plain isnt (purposes.Prove call all) s = All-weaker (SendsAgain call all k w.t x) Plain (λ m a. ap is_stage a.said) ms s.again
  all_plain isnt purposes.Read s = all_unmapped (λ r. is_stage r ≡ false) (λ m. m.request) ms (plain_reads w.s.call _ s.asked)
  all_plain isnt purposes.Write s = plain_one s.m s.one (plain_writes s.key s.value s.m s.lays)
  all_plain isnt (purposes.Refresh n puts) s =
      all_unmapped (λ r. is_stage r ≡ false) (λ m. m.request) ms
      (subst (λ rs. All (λ r. is_stage r ≡ false) rs) (sym s.asked)
      (All-map (λ r. is_stage r ≡ false) (refresh_to x.id x.reads.ts x.write_ts) x.reads.spans (every (λ span. is_stage (refresh_to x.id x.reads.ts x.write_ts span) ≡ false) (λ span. refl) x.reads.spans)))
  all_plain isnt (purposes.Stage n) s = let e : true ≡ false = sym s.piped ∙ isnt in absurd cc
  all_plain isnt (purposes.Query n holder puts) s = plain_one s.m s.asks (ap is_stage s.said)
  all_plain isnt (purposes.Commit n) s = plain_one s.m s.one (ap is_stage s.said)
  all_plain isnt (purposes.LastBeat answer reading) s = plain_one s.m s.one (ap is_stage s.said)
  all_plain isnt (purposes.Abort why) s = plain_one s.m s.one (ap is_stage s.said)

  pub sends_plain : set.course.pipelines ≡ false → (request : Request) → step_of ms ≡ steps.Send request → is_stage request ≡ false
  sends_plain isnt request due =
      let f = sends_first (first_in_conflict ms) (find is_to_send ms) (list_all has_answer ms) request due in
      sym (ap is_stage f.2) ∙ found_all is_to_send Plain ms f.0 f.1 (all_plain isnt p w.serves)
