-- An open call goes on after a reply or a round: what its messages may come to, and which replies end it.
use Rattle.std.proofs.Common.{◌≡◌, ℕ, Bool, true, false, cond, not, ◌&&◌, ◌||◌, ◌==◌, ◌⊎◌, inl, inr, List, [], ◌∷◌, find, Option, None, Some, refl, sym, ap, ◌∙◌, subst, All}
use Rattle.std.proofs.lemmas.List.Elements.{All-append, All-cons, All-nil, All-weaker}
use Rattle.std.specs.List.{list_all, list_any}
use Rattle.std.proofs.lemmas.Bool.{eq-eqb, eqb-true}
use Rattle.pc_base.specs.declared.transaction.TxnId.{TxnId}
use Rattle.pc_call.proofs.Facts.{open_is}
use Rattle.pc_call.proofs.Hearing.{found, one_asked, same_request}
use Rattle.pc_call.specs.declared.call.OpenCall.{OpenCall}
use Rattle.pc_call.specs.declared.purpose.Purpose.{Purpose}
use Rattle.pc_call.specs.declared.purpose.Purpose.TheVariants as purposes
use Rattle.pc_call.specs.Opening.{GoesOn}
use Rattle.pc_call.specs.Serving.{InCall, KeepsStages, LaysLast, LaysNext, SendsAgain, Serves, ServesAbort, ServesBeat, ServesCommit, ServesLastBeat, ServesProve, ServesQuery, ServesStage, ServesWrite, StageStands, out_of}
use Rattle.pc_call.specs.Setting.{Setting}
use Rattle.pc_coord.proofs.Dues.{answered_all}
use Rattle.pc_coord.specs.Coordination.{Coordination, setting_of}
use Rattle.pc_coord.specs.Events.{IsAnsweredAlive, ShowsUncommitted}
use Rattle.pc_coord.specs.Going.{HearsNow, IsForMany}
use Rattle.pc_coord.specs.Knows.{is_under_way}
use Rattle.pc_proto.specs.declared.answer.Answer.{Answer}
use Rattle.pc_proto.specs.declared.call.Call.{Call}
use Rattle.pc_proto.specs.declared.call.Call.TheVariants as calls
use Rattle.pc_proto.specs.declared.reply.Reply.{Reply}
use Rattle.pc_proto.specs.declared.request.Request.{Request}
use Rattle.pc_proto.specs.declared.why.Why.{Why}
use Rattle.pc_proto.specs.Replies.{is_conflict}
use Rattle.pc_txn.specs.declared.txn.OpenTxn.{OpenTxn}
use Rattle.pc_txn.proofs.Rows.{is_uncommitted}
use Rattle.pc_txn.specs.Opened.{next_put, own_abort, own_commit, own_put, put_at}
use Rattle.pc_txn.specs.Queries.{own_query}
use Rattle.pc_txn.specs.Silence.{own_beat}
use Rattle.pc_txn.specs.Standing.{TxnStands}
use Rattle.pc_wave.proofs.Awaiting.{heard_awaits}
use Rattle.pc_wave.proofs.Changed.{found_all}
use Rattle.pc_wave.proofs.Rounds.{due_round, first_found}
use Rattle.pc_wave.specs.declared.message.Message.{Message}
use Rattle.pc_wave.specs.declared.message.Progress.{Progress}
use Rattle.pc_wave.specs.declared.message.Progress.TheVariants as progresses
use Rattle.pc_wave.specs.declared.step.Step.TheVariants as steps
use Rattle.pc_wave.specs.Messages.{awaits_at, back_with, back_with_by, conflicts_at, first_changed, goes_again, has_answer, is_in_conflict, message_to_send, progress_awaits, progress_conflicts, step_of, wave_awaits}
use Rattle.pc_world.specs.Answering.{IsAbortReply, IsPutReply, IsQueryReply, IsRecordReply, MayAnswer}
use Rattle.pc_world.specs.Known.{Known}
use Rattle.pc_world.specs.Known.Traffic.{Heard}

and_false : (a b : Bool) → b ≡ false → (a && b) ≡ false
and_false true b e = e
and_false false b e = refl

module _ {X : Type 0} (test p : X → Bool) (change : X → X) (fails : (x : X) → p (change x) ≡ false) where
  -- where an element was changed that fails then, not all pass
  changed_fails : (xs : List X) → list_any test xs ≡ true → list_all p (first_changed test change xs) ≡ false
  changed_fails [] some = absurd cc
  changed_fails (x ∷ xs) some = by (changed_fails xs) (test x) some
    where
      by : (list_any test xs ≡ true → list_all p (first_changed test change xs) ≡ false) → (b : Bool) → (b || list_any test xs) ≡ true → list_all p (cond b (change x ∷ xs) (x ∷ first_changed test change xs)) ≡ false
      by later true e = ap (λ b. b && list_all p xs) (fails x)
      by later false e = and_false (p x) (list_all p (first_changed test change xs)) (later e)

not_answered : (ms : List Message) → list_all has_answer ms ≡ false → step_of ms ≡ steps.Answered → ⊥
not_answered ms some due = let e : false ≡ true = sym some ∙ answered_all ms due in cc

-- what came back with a conflict has no answer
back_unanswered : (number : ℕ) (reply : Reply) → is_conflict reply ≡ true → (m : Message) → has_answer (back_with number reply m) ≡ false
back_unanswered number reply is m = ap (λ b. has_answer (back_with_by b number reply m)) is

-- after a reply by which the call goes on, all is answered only where many may answer
pub many_heard : (p : Purpose) (number : ℕ) (reply : Reply) (ms : List Message) → GoesOn p reply → wave_awaits number ms ≡ true → step_of (first_changed (awaits_at number) (back_with number reply) ms) ≡ steps.Answered → IsForMany p
many_heard (purposes.Beat call reading) number reply ms on waits due = absurd on
many_heard (purposes.Prove call all) number reply ms on waits due = tt
many_heard purposes.Read number reply ms on waits due = tt
many_heard (purposes.Refresh n puts) number reply ms on waits due = tt
many_heard (purposes.Stage n) number reply ms on waits due = tt
many_heard (purposes.Query n holder puts) number reply ms on waits due = absurd on
many_heard (purposes.LastBeat answer reading) number reply ms on waits due = absurd on
many_heard purposes.Write number reply ms on waits due =
    absurd (not_answered (first_changed (awaits_at number) (back_with number reply) ms) (changed_fails (awaits_at number) has_answer (back_with number reply) (back_unanswered number reply on) ms waits) due)
many_heard (purposes.Commit n) number reply ms on waits due = absurd on
many_heard (purposes.Abort why) number reply ms on waits due = absurd on

found_any : {X : Type 0} (test p : X → Bool) (xs : List X) (x : X) → find test xs ≡ Some x → p x ≡ true → list_any p xs ≡ true
found_any test p [] x found is = absurd cc
found_any test p (y ∷ xs) x found is = by (found_any test p xs x) (test y) found
  where
    or_true : (b : Bool) → (b || true) ≡ true
    or_true true = refl
    or_true false = refl

    by : (find test xs ≡ Some x → p x ≡ true → list_any p xs ≡ true) → (b : Bool) → cond b (Some y) (find test xs) ≡ Some x → (p y || list_any p xs) ≡ true
    by later true e = let same : y ≡ x = cc in ap (λ b. b || list_any p xs) (ap p same ∙ is)
    by later false e = ap (λ b. p y || b) (later e is) ∙ or_true (p y)

-- after a round the message that met the conflict is not answered
pub again_unanswered : (number : ℕ) (conflict : Reply) (ms : List Message) → step_of ms ≡ steps.Round number conflict → step_of (first_changed (conflicts_at number) goes_again ms) ≡ steps.Answered → ⊥
again_unanswered number conflict ms round due =
    let f = due_round ms number conflict round in
    let first = first_found ms f.0 f.1 in
    let some : list_any (conflicts_at number) ms ≡ true =
    found_any is_in_conflict (conflicts_at number) ms f.0 first.0 (ap (progress_conflicts number) f.2.progress ∙ eq-eqb number number refl) in
    not_answered (first_changed (conflicts_at number) goes_again ms) (changed_fails (conflicts_at number) has_answer goes_again (λ m. refl) ms some) due

-- one message to be sent goes out next
pub one_goes : (ms : List Message) (request : Request) → ms ≡ message_to_send request ∷ [] → is_under_way (step_of ms)
one_goes ms request one = subst (λ ms. is_under_way (step_of ms)) (sym one) tt

not_other : (number other : ℕ) (b : Bool) → (b || false) ≡ true → (number == other) ≡ false → b ≡ true
not_other number other true e d = refl
not_other number other false e d = absurd cc

awaits_both : (number other : ℕ) (m : Message) → awaits_at number m ≡ true → awaits_at other m ≡ true → (number == other) ≡ true
awaits_both number other m a b = by m.progress a b
  where
    by : (p : Progress) → progress_awaits number p ≡ true → progress_awaits other p ≡ true → (number == other) ≡ true
    by progresses.ToSend a b = absurd cc
    by (progresses.Sent sent) a b = eq-eqb number other (sym (eqb-true sent number a) ∙ eqb-true sent other b)
    by (progresses.Met sent conflict) a b = absurd cc
    by (progresses.Answered sent reply) a b = absurd cc

or_false : (b c : Bool) → (b || false) ≡ c → b ≡ c
or_false true c e = e
or_false false c e = e

-- where one message is waited for, no other is
pub one_waits : (number other : ℕ) (ms : List Message) (m : Message) → ms ≡ m ∷ [] → wave_awaits number ms ≡ true → false ≡ (wave_awaits other ms && not (number == other))
one_waits number other ms m one waits = by (awaits_at other m) refl (number == other) refl
  where
    here : awaits_at number m ≡ true
    here = or_false (awaits_at number m) true (sym (ap (wave_awaits number) one) ∙ waits)

    other_is : wave_awaits other ms ≡ awaits_at other m
    other_is = ap (wave_awaits other) one ∙ or_is (awaits_at other m)
      where
        or_is : (b : Bool) → (b || false) ≡ b
        or_is true = refl
        or_is false = refl

    by : (b : Bool) → awaits_at other m ≡ b → (e : Bool) → (number == other) ≡ e → false ≡ (wave_awaits other ms && not (number == other))
    by false is e same = sym (ap (λ b. b && not (number == other)) (other_is ∙ is))
    by true is e same = sym (ap (λ e. wave_awaits other ms && not e) (awaits_both number other m here is) ∙ and_false (wave_awaits other ms) false refl)

-- The call has one message.
abbrev pub IsAlone : Purpose → Type 0
IsAlone purposes.Write = Unit {0}
IsAlone (purposes.Beat call reading) = Unit {0}
IsAlone (purposes.Query n holder puts) = Unit {0}
IsAlone (purposes.Commit n) = Unit {0}
IsAlone (purposes.LastBeat answer reading) = Unit {0}
IsAlone (purposes.Abort why) = Unit {0}
IsAlone p = ⊥

module _ (set : Setting) (k : Known) (x : OpenTxn) (p : Purpose) (ms : List Message) (w : InCall set k x p ms) where
  pub served_write : p ≡ purposes.Write → ServesWrite k w.s w.t x ms
  served_write e = subst (λ q. Serves set k w.s w.t x w.stages q ms) e w.serves

  pub served_prove : (call : Call) (all : Bool) → p ≡ purposes.Prove call all → ServesProve call all k w.s w.t x ms
  served_prove call all e = subst (λ q. Serves set k w.s w.t x w.stages q ms) e w.serves

  pub served_commit : (n : ℕ) → p ≡ purposes.Commit n → ServesCommit n k w.s w.t x ms
  served_commit n e = subst (λ q. Serves set k w.s w.t x w.stages q ms) e w.serves

  pub served_stage : (n : ℕ) → p ≡ purposes.Stage n → ServesStage set.course n k w.s w.t x w.stages ms
  served_stage n e = subst (λ q. Serves set k w.s w.t x w.stages q ms) e w.serves

  pub served_query : (n : ℕ) (holder : TxnId) (puts : List Message) → p ≡ purposes.Query n holder puts → ServesQuery set.course n holder puts k w.s w.t x w.stages ms
  served_query n holder puts e = subst (λ q. Serves set k w.s w.t x w.stages q ms) e w.serves

  pub served_last : (answer : Answer) (reading : ℕ) → p ≡ purposes.LastBeat answer reading → ServesLastBeat set.course.loses answer reading k w.s w.t x w.stages ms
  served_last answer reading e = subst (λ q. Serves set k w.s w.t x w.stages q ms) e w.serves

  pub served_abort : (why : Why) → p ≡ purposes.Abort why → ServesAbort why k w.s w.t x ms
  served_abort why e = subst (λ q. Serves set k w.s w.t x w.stages q ms) e w.serves

  pub served_beat : (call : Call) (reading : ℕ) → p ≡ purposes.Beat call reading → ServesBeat call reading k w.s w.t x ms
  served_beat call reading e = subst (λ q. Serves set k w.s w.t x w.stages q ms) e w.serves

  -- once a message that is alone came back, no reply is waited for
  pub back_idle : (number : ℕ) (reply : Reply) (m : Message) → ms ≡ m ∷ [] → wave_awaits number ms ≡ true → (other : ℕ) → wave_awaits other (first_changed (awaits_at number) (back_with number reply) ms) ≡ false
  back_idle number reply m one waits other = heard_awaits number other reply set.course k ms w.wave waits ∙ sym (one_waits number other ms m one waits)

  -- a call that is told written has one message, and so have those of a heartbeat, a query, a commit and an abort
  pub alone : (q : Purpose) → p ≡ q → IsAlone q → (m : Message) × (ms ≡ m ∷ [])
  alone purposes.Write e is = let s = served_write e in (s.m, s.one)
  alone (purposes.Beat call reading) e is = let s = served_beat call reading e in (s.m, s.one)
  alone (purposes.Query n holder puts) e is = let s = served_query n holder puts e in (s.m, s.asks)
  alone (purposes.Commit n) e is = let s = served_commit n e in (s.m, s.one)
  alone (purposes.LastBeat answer reading) e is = let s = served_last answer reading e in (s.m, s.one)
  alone (purposes.Abort why) e is = let s = served_abort why e in (s.m, s.one)
  alone q e is = absurd is

module _ (loses : Bool) (c : Coordination) (call : OpenCall) (x : OpenTxn) (number : ℕ) (reply : Reply) (k : Known) (h : Heard) (is : HearsNow loses c call x number reply k h) where
  abbrev set : Setting
  set = setting_of loses c

  abbrev w : InCall set k x call.purpose call.wave
  w = is.in_call

  abbrev same_id : x.id ≡ w.t.id
  same_id = ap (λ x. x.id) w.stands.same

  pub asked_one : (m : Message) → call.wave ≡ m ∷ [] → h.request ≡ m.request
  asked_one m one = one_asked c.session is.before c.begun set k x call.purpose call.wave is.counted w number reply h is.waited is.heard m one

  kind_as : (r : Request) → h.request ≡ r → MayAnswer r reply
  kind_as r said = subst (λ r. MayAnswer r reply) said is.heard.kind

  -- the reply to a commit shows a record
  pub commit_kind : (n : ℕ) → call.purpose ≡ purposes.Commit n → IsRecordReply reply
  commit_kind n e = let s = served_commit set k x call.purpose call.wave w n e in kind_as (own_commit x s.commits.anchor) (asked_one s.m s.one ∙ s.said)

  -- so does that to the last heartbeat
  pub last_kind : (answer : Answer) (reading : ℕ) → call.purpose ≡ purposes.LastBeat answer reading → IsRecordReply reply
  last_kind answer reading e = let s = served_last set k x call.purpose call.wave w answer reading e in kind_as (own_beat x reading s.gives_up.anchor) (asked_one s.m s.one ∙ s.said)

  -- that to a heartbeat shows a record that was not committed
  pub beat_kind : (kept : Call) (reading : ℕ) → call.purpose ≡ purposes.Beat kept reading → ShowsUncommitted reply
  beat_kind kept reading e =
      let s = served_beat set k x call.purpose call.wave w kept reading e in
      let none : w.stages ≡ [] = subst (λ q. KeepsStages q k w.stages) e w.kept in
      let st : TxnStands k [] None w.t x = subst (λ ss. TxnStands k ss None w.t x) none (subst (λ o. TxnStands k w.stages o w.t x) (ap (λ q. out_of q call.wave) e) w.stands) in
      let alive : IsAnsweredAlive k (own_beat x reading s.anchor) reply = subst (λ r. IsAnsweredAlive k r reply) (asked_one s.m s.one ∙ s.said) is.alive in
      alive w.t (open_is k w.t w.open_in) same_id (is_uncommitted k w.t x st)

  -- that to an abort is final
  pub abort_kind : (why : Why) → call.purpose ≡ purposes.Abort why → IsAbortReply reply
  abort_kind why e = let s = served_abort set k x call.purpose call.wave w why e in kind_as (own_abort x why s.anchor) (asked_one s.m s.one ∙ s.said)

  write_said : (key : List ℕ) (value : Option (List ℕ)) (m : Message) → call.wave ≡ m ∷ [] → LaysNext k w.s w.t x key value m ⊎ LaysLast k w.t x key value m → IsPutReply x.id reply
  write_said key value m one (inl l) = kind_as (next_put x key value) (asked_one m one ∙ l.said)
  write_said key value m one (inr l) = kind_as (own_put x l.anchor l.w) (asked_one m one ∙ l.said)

  -- and that to a write
  pub write_kind : call.purpose ≡ purposes.Write → IsPutReply x.id reply
  write_kind e = let s = served_write set k x call.purpose call.wave w e in write_said s.key s.value s.m s.one s.lays

  pub found_one : (m : Message) × (find (awaits_at number) call.wave ≡ Some m)
  found_one = found c.session is.before c.begun set k x call.purpose call.wave is.counted w number reply h is.waited is.heard

  pub asked_found : h.request ≡ found_one.0.request
  unfolding found_one
  asked_found = same_request c.session is.before c.begun set k x call.purpose call.wave is.counted w number reply h is.waited is.heard

  -- to one of an earlier call, too
  pub proof_kind : (kept : Call) (all : Bool) → call.purpose ≡ purposes.Prove kept all → IsPutReply x.id reply
  proof_kind kept all e =
      let r = served_prove set k x call.purpose call.wave w kept all e in
      let a : SendsAgain kept all k w.t x found_one.0 = found_all (awaits_at number) (SendsAgain kept all k w.t x) call.wave found_one.0 found_one.1 r.again in
      kind_as (put_at x a.anchor a.ts a.w) (asked_found ∙ a.said)

  -- that to a query says whether it was found
  pub query_kind : (n : ℕ) (holder : TxnId) (puts : List Message) → call.purpose ≡ purposes.Query n holder puts → IsQueryReply reply
  query_kind n holder puts e = let s = served_query set k x call.purpose call.wave w n holder puts e in kind_as (own_query x s.w.key s.w.seq) (asked_one s.m s.asks ∙ s.said)

  -- The reply is one to a put of the transaction, or shows a record.
  abbrev IsStageReply : Message → Type 0
  IsStageReply m = (MayAnswer m.request reply → IsPutReply x.id reply) ⊎ (MayAnswer m.request reply → IsRecordReply reply)

  stage_said : (anchor : List ℕ) (stage : List Message) → StageStands k w.s w.t x w.stages anchor stage → All IsStageReply stage
  stage_said anchor [] s = All-nil IsStageReply
  stage_said anchor (m ∷ []) (inl s) = All-cons IsStageReply m [] (inr (λ may. subst (λ r. MayAnswer r reply) s.said may)) (All-nil IsStageReply)
  stage_said anchor (m ∷ []) (inr s) = All-cons IsStageReply m [] (inr (λ may. subst (λ r. MayAnswer r reply) s.said may)) (All-nil IsStageReply)
  stage_said anchor (m ∷ other ∷ more) s = absurd s

  -- so is each reply in the wave of a stage
  pub stage_kind : (n : ℕ) → call.purpose ≡ purposes.Stage n → IsPutReply x.id reply ⊎ IsRecordReply reply
  stage_kind n e =
      let s = served_stage set k x call.purpose call.wave w n e in
      let v = s.wave in
      let all : All IsStageReply call.wave =
      subst (λ ms. All IsStageReply ms) (sym v.whole)
      (All-append IsStageReply v.puts v.stage
      (All-weaker (SendsAgain calls.Commit true k w.t x) IsStageReply (λ m a. inl (λ may. subst (λ r. MayAnswer r reply) a.said may)) v.puts v.again) (stage_said s.commits.anchor v.stage v.stands)) in
      let one = found_all (awaits_at number) IsStageReply call.wave found_one.0 found_one.1 all in
      let may = kind_as found_one.0.request asked_found in
      elim one [ inl put ↦ inl (put may) | inr record_of ↦ inr (record_of may) ]
