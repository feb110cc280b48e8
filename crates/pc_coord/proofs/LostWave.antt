-- Nothing is heard of a message of the open call: what its wave waits for then, and what stands aside of it.
use Rattle.std.proofs.Common.{◌≡◌, ℕ, Bool, true, false, cond, not, ◌&&◌, ◌||◌, ◌==◌, inl, inr, List, [], ◌∷◌, ◌++◌, is_some, position, Result, Ok, Err, OnOk, refl, sym, ap, ◌∙◌, subst, All, Contains, Some}
use Rattle.std.specs.List.{after_first, before_first, list_all}
use Rattle.std.proofs.lemmas.Option.{same_Some}
use Rattle.std.proofs.lemmas.List.Elements.{All-cons, All-contains, All-head, All-nil, All-tail, All-weaker}
use Rattle.pc_call.proofs.Anew.{left_true, not_there}
use Rattle.pc_call.proofs.Outboxes.{all_left, left_kept, left_passed}
use Rattle.pc_call.specs.declared.call.OpenCall.{OpenCall}
use Rattle.pc_call.specs.declared.later.LaterPut.{LaterPut}
use Rattle.pc_call.specs.declared.purpose.Purpose.{Purpose}
use Rattle.pc_call.specs.declared.purpose.Purpose.TheVariants as purposes
use Rattle.pc_call.specs.Losses.{is_late_out, stages_late, wave_lost}
use Rattle.pc_call.specs.Outbox.{IsApartFrom, has_put}
use Rattle.pc_call.specs.Serving.{InCall, SendsAgain, Serves}
use Rattle.pc_call.specs.Setting.{Setting}
use Rattle.pc_coord.proofs.Aside.{apart_changed, awaited_in, out_once, proofs_changed}
use Rattle.pc_coord.proofs.Dues.{answered_all}
use Rattle.pc_coord.specs.Aside.{AreUnsent, HasProofs, KeepsAside}
use Rattle.pc_coord.specs.Coming.{AwaitsAfter, AwaitsBy}
use Rattle.pc_coord.specs.Coordination.{Coordination, awaits_number, is_writing}
use Rattle.pc_coord.specs.declared.due.Due.{Due}
use Rattle.pc_coord.specs.declared.due.Due.TheVariants as dues
use Rattle.pc_coord.specs.Going.{IsForMany}
use Rattle.pc_proto.specs.declared.request.Request.{Request}
use Rattle.pc_proto.specs.declared.request.Request.TheVariants as requests
use Rattle.pc_proto.specs.Requests.{is_stage}
use Rattle.pc_txn.specs.declared.txn.OpenTxn.{OpenTxn}
use Rattle.pc_wave.proofs.Awaiting.{lost_awaits}
use Rattle.pc_wave.proofs.Hearing.{awaits_as}
use Rattle.pc_wave.specs.Course.{Course}
use Rattle.pc_wave.specs.declared.message.Message.{Message}
use Rattle.pc_wave.specs.declared.step.Step.TheVariants as steps
use Rattle.pc_wave.specs.Messages.{awaits_at, first_changed, has_answer, lost_of, step_of, wave_awaits}
use Rattle.pc_wave.specs.Standing.{IsAsFar, MessageStands, WaveStands}
use Rattle.pc_world.specs.Known.{Known}
use Rattle.pc_world.specs.Known.Traffic.{request_sent}
use Rattle.pc_lists.proofs.Lists.{all_from_contains}
use Rattle.pc_proto.specs.declared.call.Call.{Call}

-- ---- what is waited for

and_same : (a l : Bool) → (a ≡ true → l ≡ true) → (a && l) ≡ a
and_same true l h = h refl
and_same false l h = refl

-- what is no stage is no stage that is late
pub no_stage_late : (x : OpenTxn) (r : Request) → is_stage r ≡ false → stages_late x r ≡ false
no_stage_late x (requests.Stage meta ts now writes locks) none = absurd cc
no_stage_late x r none = refl

module _ (number tries : ℕ) (x : OpenTxn) where
  abbrev late : Message → Bool
  late = is_late_out number x

  abbrev left : List Message → List Message
  left ms = before_first late ms ++ after_first late ms

  abbrev again : List Message → List Message
  again ms = first_changed (awaits_at number) (lost_of tries) ms

  -- a stage that leaves is waited for no more, just as one that is to be sent again
  left_waits : (other : ℕ) (ms : List Message) → wave_awaits other (left ms) ≡ wave_awaits other (first_changed late (lost_of tries) ms)
  left_waits other [] = refl
  left_waits other (m ∷ ms) = by (left_waits other ms) (late m) refl
    where
      by : wave_awaits other (left ms) ≡ wave_awaits other (first_changed late (lost_of tries) ms) → (b : Bool) → late m ≡ b → wave_awaits other (left (m ∷ ms)) ≡ wave_awaits other (cond b (lost_of tries m ∷ ms) (m ∷ first_changed late (lost_of tries) ms))
      by rest true is = ap (wave_awaits other) (left_passed late m ms is)
      by rest false is = ap (wave_awaits other) (left_kept late m ms is) ∙ ap (λ b. awaits_at other m || b) rest

  same_first : (ms : List Message) → All (λ m. awaits_at number m ≡ true → stages_late x m.request ≡ true) ms → first_changed late (lost_of tries) ms ≡ again ms
  same_first [] a = refl
  same_first (m ∷ ms) a =
      ap (λ b. cond b (lost_of tries m ∷ ms) (m ∷ first_changed late (lost_of tries) ms)) (and_same (awaits_at number m) (stages_late x m.request) (All-head (λ m. awaits_at number m ≡ true → stages_late x m.request ≡ true) m ms a))
      ∙ ap (λ ys. cond (awaits_at number m) (lost_of tries m ∷ ms) (m ∷ ys)) (same_first ms (All-tail (λ m. awaits_at number m ≡ true → stages_late x m.request ≡ true) m ms a))

  none_late : (ms : List Message) → All (λ m. stages_late x m.request ≡ false) ms → wave_lost number tries x ms ≡ again ms
  none_late ms a =
      ap (λ o. cond (is_some o) (left ms) (again ms))
      (not_there late ms (All-weaker (λ m. stages_late x m.request ≡ false) (λ m. late m ≡ false) (λ m no. off (awaits_at number m) (stages_late x m.request) no) ms a))
    where
      off : (a l : Bool) → l ≡ false → (a && l) ≡ false
      off true l none = none
      off false l none = refl

  module _ (c : Course) (k : Known) (ms : List Message) (w : WaveStands c k ms) (waits : wave_awaits number ms ≡ true) where
    said_of : (m : Message) → Contains ms m → awaits_at number m ≡ true → request_sent number k.sent ≡ Some m.request
    said_of m there is =
        let s : MessageStands c k m = All-contains (MessageStands c k) ms m w.stand there in
        (subst (λ p. IsAsFar c k m.request m.conflicts p) (awaits_as number m.progress is) s.as_far).0.out.said

    one : (m : Message) × Contains ms m × (awaits_at number m ≡ true)
    one = awaited_in number ms waits

    all_late : stages_late x one.0.request ≡ true → All (λ m. awaits_at number m ≡ true → stages_late x m.request ≡ true) ms
    all_late is =
        all_from_contains (λ m. awaits_at number m ≡ true → stages_late x m.request ≡ true) ms
        (λ m there here. ap (stages_late x) (same_Some m.request one.0.request (sym (said_of m there here) ∙ said_of one.0 one.1 one.2)) ∙ is)

    all_live : stages_late x one.0.request ≡ false → All (λ m. late m ≡ false) ms
    all_live is = all_from_contains (λ m. late m ≡ false) ms (λ m there. by m there (awaits_at number m) refl)
      where
        by : (m : Message) → Contains ms m → (b : Bool) → awaits_at number m ≡ b → (b && stages_late x m.request) ≡ false
        by m there true here = ap (stages_late x) (same_Some m.request one.0.request (sym (said_of m there here) ∙ said_of one.0 one.1 one.2)) ∙ is
        by m there false here = refl

    -- what was waited for is waited for, but for what was lost
    pub lost_waits : (other : ℕ) → wave_awaits other (wave_lost number tries x ms) ≡ (wave_awaits other ms && not (number == other))
    lost_waits other = by (stages_late x one.0.request) refl
      where
        goes_again : wave_awaits other (again ms) ≡ (wave_awaits other ms && not (number == other))
        goes_again = lost_awaits number other tries c k ms w waits

        by : (b : Bool) → stages_late x one.0.request ≡ b → wave_awaits other (wave_lost number tries x ms) ≡ (wave_awaits other ms && not (number == other))
        by true is =
            elim (is_some (position late ms)) as (λ b. wave_awaits other (cond b (left ms) (again ms)) ≡ (wave_awaits other ms && not (number == other)))
            [ true ↦ left_waits other ms ∙ ap (wave_awaits other) (same_first ms (all_late is)) ∙ goes_again | false ↦ goes_again ]
        by false is = ap (λ o. wave_awaits other (cond (is_some o) (left ms) (again ms))) (not_there late ms (all_live is)) ∙ goes_again

lost_by : (number tries : ℕ) (x : OpenTxn) (c : Course) (k : Known) (call : OpenCall) → WaveStands c k call.wave → wave_awaits number call.wave ≡ true → (s : Coordination) → s.due ≡ dues.Call call → (due : Due)
    → AwaitsBy (wave_lost number tries x call.wave) s.later due → AwaitsAfter number s due
lost_by number tries x c k call w waits s at due (inl same) =
    inl (λ other. same other ∙ (lost_waits number tries x c k call.wave w waits other ∙ sym (ap (λ d. awaits_number other d && not (number == other)) at)))
lost_by number tries x c k call w waits s at due (inr new) =
    inr ((λ other. ap (λ d. awaits_number other d && not (number == other)) at ∙ (sym (lost_waits number tries x c k call.wave w waits other) ∙ new.0 other)), new.1)

pub lost_ok : {T E : Type 0} (r : Result T E) (number tries : ℕ) (x : OpenTxn) (c : Course) (k : Known) (call : OpenCall) → WaveStands c k call.wave → wave_awaits number call.wave ≡ true → (s : Coordination) → s.due ≡ dues.Call call → (due : Due)
    → OnOk r (AwaitsBy (wave_lost number tries x call.wave) s.later due) → OnOk r (AwaitsAfter number s due)
lost_ok (Ok value) number tries x c k call w waits s at due by = lost_by number tries x c k call w waits s at due by
lost_ok (Err error) number tries x c k call w waits s at due by = tt

-- ---- what stands aside, and what is due

module _ (set : Setting) (k : Known) (x : OpenTxn) (p : Purpose) (ms : List Message) (w : InCall set k x p ms) (number tries : ℕ) (waits : wave_awaits number ms ≡ true) where
  abbrev lost : List Message
  lost = wave_lost number tries x ms

  proofs_late : (call : Call) (all : Bool) → All (SendsAgain call all k w.t x) ms → All (λ m. stages_late x m.request ≡ false) ms
  proofs_late call all again = All-weaker (SendsAgain call all k w.t x) (λ m. stages_late x m.request ≡ false) (λ m a. ap (stages_late x) a.said) ms again

  some_lost : HasProofs p ms → HasProofs p lost
  some_lost some = by p refl w.serves
    where
      by : (q : Purpose) → p ≡ q → Serves set k w.s w.t x w.stages q ms → HasProofs p lost
      by (purposes.Prove call all) e r =
          subst (λ q. HasProofs q lost) (sym e)
          (subst (λ ys. HasProofs (purposes.Prove call all) ys) (sym (none_late number tries x ms (proofs_late call all r.again)))
          (proofs_changed (awaits_at number) (lost_of tries) (purposes.Prove call all) ms (subst (λ q. HasProofs q ms) e some)))
      by (purposes.Beat call reading) e r = subst (λ q. HasProofs q lost) (sym e) tt
      by purposes.Read e r = subst (λ q. HasProofs q lost) (sym e) tt
      by purposes.Write e r = subst (λ q. HasProofs q lost) (sym e) tt
      by (purposes.Refresh n puts) e r = subst (λ q. HasProofs q lost) (sym e) tt
      by (purposes.Stage n) e r = subst (λ q. HasProofs q lost) (sym e) tt
      by (purposes.Query n holder puts) e r = subst (λ q. HasProofs q lost) (sym e) tt
      by (purposes.Commit n) e r = subst (λ q. HasProofs q lost) (sym e) tt
      by (purposes.LastBeat answer reading) e r = subst (λ q. HasProofs q lost) (sym e) tt
      by (purposes.Abort why) e r = subst (λ q. HasProofs q lost) (sym e) tt

  pub lost_aside : (b : Bool) (later : List LaterPut) → set.course.loses ≡ true → KeepsAside set.course.loses b k x p later ms → KeepsAside set.course.loses b k x p later lost
  lost_aside b later loses a = record {
    outbox = record {
      has = record { t = a.outbox.has.t; opened = a.outbox.has.opened; stands = a.outbox.has.stands; left = λ quiet. let e : true ≡ false = sym loses ∙ quiet in absurd cc };
      apart =
          elim (is_some (position (late number tries x) ms)) as (λ b. All (IsApartFrom (cond b (left number tries x ms) (again number tries x ms))) later) [
            | true ↦
                All-weaker (IsApartFrom ms) (IsApartFrom (left number tries x ms))
                (λ put apart. all_left (late number tries x) (λ m. (seq : ℕ) → has_put seq put.request ≡ true → has_put seq m.request ≡ false) ms apart) later a.outbox.apart
            | false ↦ apart_changed (awaits_at number) (lost_of tries) (λ m. refl) ms later a.outbox.apart
          ];
    };
    joined = a.joined;
    some = some_lost a.some;
    heard = λ quiet. let e : true ≡ false = sym loses ∙ quiet in absurd cc;
    others = a.others;
    free = a.free;
    unsent = subst (λ b. AreUnsent b lost) (sym (out_once (b && is_writing p) number ms a.unsent waits)) tt;
  }

  -- a message that is alone, and no stage, is to be sent again
  alone_again : (m : Message) → ms ≡ m ∷ [] → is_stage m.request ≡ false → step_of lost ≡ steps.Answered → ⊥
  alone_again m one none due =
      let here : awaits_at number m ≡ true = left_true (awaits_at number m) (subst (λ ms. wave_awaits number ms ≡ true) one waits) in
      let is : lost ≡ lost_of tries m ∷ [] =
      ap (wave_lost number tries x) one
      ∙ none_late number tries x (m ∷ []) (All-cons (λ (m : Message). stages_late x m.request ≡ false) m [] (no_stage_late x m.request none) (All-nil (λ (m : Message). stages_late x m.request ≡ false)))
      ∙ ap (λ b. cond b (lost_of tries m ∷ []) (m ∷ [])) here in
      let e : false ≡ true = sym (ap (list_all has_answer) is) ∙ answered_all lost due in
      cc

  -- where all is answered then, the call is for many messages
  pub lost_many : step_of lost ≡ steps.Answered → IsForMany p
  lost_many due = by p refl w.serves
    where
      by : (q : Purpose) → p ≡ q → Serves set k w.s w.t x w.stages q ms → IsForMany p
      by (purposes.Prove call all) e r = subst IsForMany (sym e) tt
      by purposes.Read e r = subst IsForMany (sym e) tt
      by (purposes.Refresh n puts) e r = subst IsForMany (sym e) tt
      by (purposes.Stage n) e r = subst IsForMany (sym e) tt
      by (purposes.Beat call reading) e r = absurd (alone_again r.m r.one (ap is_stage r.said) due)
      by purposes.Write e r = absurd (elim r.lays [ inl l ↦ alone_again r.m r.one (ap is_stage l.said) due | inr l ↦ alone_again r.m r.one (ap is_stage l.said) due ])
      by (purposes.Query n holder puts) e r = absurd (alone_again r.m r.asks (ap is_stage r.said) due)
      by (purposes.Commit n) e r = absurd (alone_again r.m r.one (ap is_stage r.said) due)
      by (purposes.LastBeat answer reading) e r = absurd (alone_again r.m r.one (ap is_stage r.said) due)
      by (purposes.Abort why) e r = absurd (alone_again r.m r.one (ap is_stage r.said) due)
