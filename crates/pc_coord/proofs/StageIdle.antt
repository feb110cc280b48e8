-- Where no put waits, and no message of the call is on its way, no reply to the messages of a stage is waited for.
use Rattle.std.proofs.Common.{◌<◌, ◌≡◌, ◌≢◌, ℕ, ◌==◌, Bool, true, false, cond, ◌||◌, ◌⊎◌, inl, inr, List, [], ◌∷◌, find, Some, refl, sym, ap, ◌∙◌, subst, arith, All, Any, Contains, IsTrue}
use Rattle.std.specs.Option.{option_map}
use Rattle.std.proofs.lemmas.Bool.{eqb-true}
use Rattle.std.proofs.lemmas.List.Elements.{All-append, All-cons, All-contains, All-head, All-nil, All-tail, All-weaker}
use Rattle.std.proofs.lemmas.Option.{same_Some}
use Rattle.pc_base.specs.declared.limits.TheConstants.{MOST_CONFLICTS}
use Rattle.pc_call.proofs.Facts.{open_is}
use Rattle.pc_call.specs.declared.purpose.Purpose.{Purpose}
use Rattle.pc_call.specs.declared.purpose.Purpose.TheVariants as purposes
use Rattle.pc_call.specs.Outbox.{IsHeardOrLeft, IsOnWayAs, IsReplyToMessage, IsSentAs}
use Rattle.pc_call.specs.Serving.{InCall, SendsAgain, ServesStage, StageStands}
use Rattle.pc_call.specs.Setting.{Setting}
use Rattle.pc_coord.proofs.Aside.{awaited_in}
use Rattle.pc_coord.proofs.Onward.{served_stage}
use Rattle.pc_coord.proofs.Tells.{all_left}
use Rattle.pc_coord.specs.Aside.{HasAside}
use Rattle.pc_flight.specs.declared.write.WriteInFlight.{WriteInFlight}
use Rattle.pc_proto.specs.declared.call.Call.TheVariants as calls
use Rattle.pc_proto.specs.declared.request.Request.{Request}
use Rattle.pc_proto.specs.Requests.{is_put, is_put_of}
use Rattle.pc_txn.proofs.Puts.{puts-own}
use Rattle.pc_txn.specs.declared.txn.OpenTxn.{OpenTxn}
use Rattle.pc_txn.specs.Opened.{meta_now, put_at}
use Rattle.pc_wave.proofs.Hearing.{awaits_as}
use Rattle.pc_wave.specs.declared.message.Message.{Message}
use Rattle.pc_wave.specs.Messages.{wave_awaits}
use Rattle.pc_wave.specs.Standing.{IsAsFar, IsOnItsWay, MessageStands, goes_beside}
use Rattle.pc_world.specs.Known.{Known}
use Rattle.pc_world.specs.Known.Traffic.{Heard, Sent, request_sent}
use Rattle.pc_world.specs.Tell.Refusal.{is_heard}

-- what holds of all that was sent holds of the message of this number
sent_all : (P : Sent → Type 0) (n : ℕ) (r : Request) (ms : List Sent) → request_sent n ms ≡ Some r → All P ms → (m : Sent) × (m.number ≡ n) × (m.request ≡ r) × P m
sent_all P n r [] said a = absurd cc
sent_all P n r (m ∷ ms) said a = by (sent_all P n r ms) (m.number == n) refl said
  where
    by : (request_sent n ms ≡ Some r → All P ms → (q : Sent) × (q.number ≡ n) × (q.request ≡ r) × P q) → (b : Bool) → (m.number == n) ≡ b
        → option_map (λ (s : Sent). s.request) (cond b (Some m) (find (λ (s : Sent). s.number == n) ms)) ≡ Some r → (q : Sent) × (q.number ≡ n) × (q.request ≡ r) × P q
    by later true here e = (m, eqb-true m.number n here, same_Some m.request r e, All-head P m ms a)
    by later false here e = later e (All-tail P m ms a)

unheard_stays : (n : ℕ) (m : Sent) (hs : List Heard) → m.number ≡ n → All (λ h. h.number ≢ n) hs → IsTrue (is_heard hs m) → ⊥
unheard_stays n m [] same none is = cc
unheard_stays n m (h ∷ hs) same none is = by (unheard_stays n m hs same (All-tail (λ (h : Heard). h.number ≢ n) h hs none)) (h.number == m.number) refl is
  where
    by : (IsTrue (is_heard hs m) → ⊥) → (b : Bool) → (h.number == m.number) ≡ b → IsTrue (b || is_heard hs m) → ⊥
    by rest true e r = All-head (λ (h : Heard). h.number ≢ n) h hs none (eqb-true h.number m.number e ∙ same)
    by rest false e r = rest r

none_left : (m : Sent) → Any (IsSentAs m) [] ⊎ Any (IsOnWayAs m) [] ⊎ Any (IsReplyToMessage m) [] → ⊥
none_left m (inl waits) = absurd (omega (arith, waits.2))
none_left m (inr (inl out)) = absurd (omega (arith, out.2))
none_left m (inr (inr replied)) = absurd (omega (arith, replied.2))

module _ (set : Setting) (k : Known) (x : OpenTxn) (p : Purpose) (ms : List Message) (w : InCall set k x p ms) (n : ℕ) (stages : p ≡ purposes.Stage n) (quiet : set.course.loses ≡ false) (a : HasAside set.course.loses k x []) where
  s : ServesStage set.course n k w.s w.t x w.stages ms
  s = served_stage set k x p ms w n stages

  same_t : a.outbox.t ≡ w.t
  same_t = same_Some a.outbox.t w.t (sym a.outbox.opened ∙ open_is k w.t w.open_in)

  puts_it : (anchor : List ℕ) (ts : ℕ) (f : WriteInFlight) → is_put_of w.t.id w.t.epoch f.seq (put_at x anchor ts f) ≡ true
  puts_it anchor ts f =
      ap (λ id. is_put_of id w.t.epoch f.seq (put_at x anchor ts f)) (sym (ap (λ (x : OpenTxn). x.id) w.stands.same))
      ∙ (ap (λ epoch. is_put_of x.id epoch f.seq (put_at x anchor ts f)) (sym (ap (λ (x : OpenTxn). x.epoch) w.stands.same)) ∙ puts-own (meta_now x anchor) f.seq ts f.key f.value)

  -- The request puts a write of the open transaction, or none.
  abbrev IsOwnOrNone : Request → Type 0
  IsOwnOrNone r = ((seq : ℕ) × (is_put_of w.t.id w.t.epoch seq r ≡ true)) ⊎ (is_put r ≡ false)

  of_put : (m : Message) → SendsAgain calls.Commit true k w.t x m → IsOwnOrNone m.request
  of_put m again = inl (again.w.seq, ap (is_put_of w.t.id w.t.epoch again.w.seq) again.said ∙ puts_it again.anchor again.ts again.w)

  of_stage : (anchor : List ℕ) (stage : List Message) → StageStands k w.s w.t x w.stages anchor stage → All (λ (m : Message). IsOwnOrNone m.request) stage
  of_stage anchor [] st = All-nil (λ (m : Message). IsOwnOrNone m.request)
  of_stage anchor (m ∷ []) (inl s) = All-cons (λ (m : Message). IsOwnOrNone m.request) m [] (inr (ap is_put s.said)) (All-nil (λ (m : Message). IsOwnOrNone m.request))
  of_stage anchor (m ∷ []) (inr s) = All-cons (λ (m : Message). IsOwnOrNone m.request) m [] (inr (ap is_put s.said)) (All-nil (λ (m : Message). IsOwnOrNone m.request))
  of_stage anchor (m ∷ other ∷ more) st = absurd st

  of_all : All (λ (m : Message). IsOwnOrNone m.request) ms
  of_all =
      subst (λ ms. All (λ (m : Message). IsOwnOrNone m.request) ms) (sym s.wave.whole)
      (All-append (λ (m : Message). IsOwnOrNone m.request) s.wave.puts s.wave.stage (All-weaker (SendsAgain calls.Commit true k w.t x) (λ (m : Message). IsOwnOrNone m.request) of_put s.wave.puts s.wave.again)
      (of_stage s.commits.anchor s.wave.stage s.wave.stands))

  none_sent : (m : Message) (q : Sent) → Contains ms m → q.request ≡ m.request → goes_beside m.request ≡ false → (IsTrue (is_heard k.heard q) → ⊥) → IsHeardOrLeft k.heard [] a.outbox.t [] [] q → ⊥
  none_sent m q there same plain unheard (inl was) = unheard was
  none_sent m q there same plain unheard (inr (inl beside)) = let e : false ≡ true = sym plain ∙ (ap goes_beside (sym same) ∙ beside) in cc
  none_sent m q there same plain unheard (inr (inr l)) =
      elim (All-contains (λ (m : Message). IsOwnOrNone m.request) ms m of_all there) [
        | inl own ↦ none_left q (l.waits own.0 (subst (λ t. is_put_of t.id t.epoch own.0 q.request ≡ true) (sym same_t) (ap (is_put_of w.t.id w.t.epoch own.0) same ∙ own.1)))
        | inr isnt ↦ (let e : false ≡ true = sym isnt ∙ (ap is_put (sym same) ∙ l.put) in cc)
      ]

  none_waits : (number : ℕ) → wave_awaits number ms ≡ true → ⊥
  none_waits number waits =
      let o = awaited_in number ms waits in
      let st : MessageStands set.course k o.0 = All-contains (MessageStands set.course k) ms o.0 w.wave.stand o.1 in
      let far : IsOnItsWay set.course k number o.0.request × (o.0.conflicts < MOST_CONFLICTS) = subst (λ p. IsAsFar set.course k o.0.request o.0.conflicts p) (awaits_as number o.0.progress o.2) st.as_far in
      let q = sent_all (IsHeardOrLeft k.heard [] a.outbox.t [] []) number o.0.request k.sent far.0.out.said (all_left k w.split x [] a quiet) in
      none_sent o.0 q.0 o.1 q.2 st.no_round (unheard_stays number q.0 k.heard q.1 far.0.unheard) q.3

  pub staged_idle : (number : ℕ) → wave_awaits number ms ≡ false
  staged_idle number = by (wave_awaits number ms) refl
    where
      by : (b : Bool) → wave_awaits number ms ≡ b → wave_awaits number ms ≡ false
      by false e = e
      by true e = absurd (none_waits number e)
