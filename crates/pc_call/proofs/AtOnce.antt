-- Where writes are pipelined, a call that writes is told so as its put goes out.
use Rattle.std.proofs.Common.{◌≡◌, ℕ, ◌<◌, ◌≤◌, true, false, ◌⊎◌, inl, inr, List, [], ◌∷◌, Option, None, Some, length, refl, sym, ap, ◌∙◌, subst, arith, All}
use Rattle.std.proofs.lemmas.List.Elements.{All-cons, All-contains, All-head, All-nil, All-push, All-weaker}
use Rattle.std.proofs.lemmas.Option.{same_Some}
use Rattle.pc_base.specs.declared.limits.TheConstants.{MOST_CONFLICTS}
use Rattle.pc_base.specs.Span.{same_key}
use Rattle.pc_call.proofs.Eighths.{none_eighth}
use Rattle.pc_call.proofs.Facts.{are_numbered, open_is}
use Rattle.pc_call.proofs.Landing.{HasWritten, asks_for, not_false, written_told}
use Rattle.pc_call.proofs.Lists.{all_behind}
use Rattle.pc_call.proofs.Steps.{first_back, one2, one_message, open2, write_sends}
use Rattle.pc_call.specs.declared.purpose.Purpose.{Purpose}
use Rattle.pc_call.specs.declared.purpose.Purpose.TheVariants as purposes
use Rattle.pc_call.specs.Learned.{known_sent}
use Rattle.pc_call.specs.Opening.{laid_first}
use Rattle.pc_call.specs.Serving.{HasBeatenBy, InCall, KeepsStages, LaysLast, LaysNext, Serves, ServesWrite, WaitsMeanwhile, out_of, write_call}
use Rattle.pc_call.specs.Setting.{Setting}
use Rattle.pc_call.specs.Telling.{MayTellOpen}
use Rattle.pc_flight.specs.declared.write.WriteInFlight.{WriteInFlight}
use Rattle.pc_follows.specs.Eighth.{MetEighth}
use Rattle.pc_follows.specs.PipelinedPuts.{IsToOwnPut}
use Rattle.pc_lists.proofs.Anywhere.{any_last}
use Rattle.pc_lists.proofs.Same.{same_key-self}
use Rattle.pc_proto.specs.declared.answer.Answer.TheVariants as answers
use Rattle.pc_proto.specs.declared.call.Call.{Call}
use Rattle.pc_proto.specs.declared.call.Call.TheVariants as calls
use Rattle.pc_proto.specs.declared.request.Request.{Request}
use Rattle.pc_txn.specs.Counted.{IsCounted}
use Rattle.pc_txn.specs.declared.txn.OpenTxn.{OpenTxn}
use Rattle.pc_txn.specs.Opened.{own_put}
use Rattle.pc_txn.specs.Standing.{TxnStands}
use Rattle.pc_wave.specs.declared.message.Message.{Message}
use Rattle.pc_wave.specs.declared.message.Progress.TheVariants as progresses
use Rattle.pc_wave.specs.declared.step.Step.TheVariants as steps
use Rattle.pc_wave.specs.Messages.{first_changed, is_to_send, progress_to_send, sent_under, step_of}
use Rattle.pc_wave.specs.Standing.{IsAsFar, MessageStands}
use Rattle.pc_world.specs.Known.{Known, next_number}
use Rattle.pc_world.specs.Known.Traffic.{Heard, Sent}
use Rattle.pc_world.specs.Known.Transactions.{Txn, txn_sent}
use Rattle.pc_world.specs.Tell.Data.{IsFirstPut, IsPutFor}

-- a call writes one key
key_of_write : (one other : List ℕ) (a b : Option (List ℕ)) → write_call one a ≡ write_call other b → one ≡ other
key_of_write one other None None e = cc
key_of_write one other None (Some b) e = absurd cc
key_of_write one other (Some a) None e = absurd cc
key_of_write one other (Some a) (Some b) e = cc

one_same : (a b : Message) → a ∷ [] ≡ b ∷ [] → a ≡ b
one_same a b e = cc

module _ (session clock count : ℕ) (set : Setting) (k : Known) (x : OpenTxn) (p : Purpose) (ms : List Message) (counted : IsCounted session clock count k) (w : InCall set k x p ms)
    (request : Request) (due : step_of ms ≡ steps.Send request) (number : ℕ) (next : number ≡ next_number k) (range : ℕ) (piped : set.course.pipelines ≡ true) (e : p ≡ purposes.Write) (key : List ℕ) (value : Option (List ℕ)) (asked : w.s.call ≡ write_call key value)
    (free : All (λ f. same_key f.key key ≡ false) x.in_flight) where
  abbrev m2 : Sent
  m2 = record { number = number; range = range; request = request }

  abbrev k2 : Known
  k2 = known_sent number range request k

  abbrev ms2 : List Message
  ms2 = first_changed is_to_send (sent_under number) ms

  abbrev t2 : Txn
  t2 = txn_sent request w.t

  abbrev x2 : OpenTxn
  x2 = laid_first ms x

  r : ServesWrite k w.s w.t x ms
  r = subst (λ q. Serves set k w.s w.t x w.stages q ms) e w.serves

  pub w2 : InCall set k2 x2 p ms2
  w2 = write_sends session clock count set k x p ms counted w request due number next range e (subst (λ q. KeepsStages q k w.stages) e w.kept) r

  r2 : ServesWrite k2 w2.s w2.t x2 ms2
  r2 = subst (λ q. Serves set k2 w2.s w2.t x2 w2.stages q ms2) e w2.serves

  same_s : w2.s ≡ w.s
  same_s = same_Some w2.s w.s (sym w2.opened ∙ w.opened)

  same_t : w2.t ≡ t2
  same_t = same_Some w2.t t2 (sym (open_is k2 w2.t w2.open_in) ∙ open_is k2 t2 (open2 session clock count set k x p ms counted w request due number next range))

  -- its put did not go out before
  new_before : All (λ m. IsFirstPut k w.s w.t m → ⊥) k.sent_now
  new_before = by r.lays
    where
      by : LaysNext k w.s w.t x r.key r.value r.m ⊎ LaysLast k w.t x r.key r.value r.m → All (λ m. IsFirstPut k w.s w.t m → ⊥) k.sent_now
      by (inl l) = l.new
      by (inr l) =
          let same : r.key ≡ key = key_of_write r.key key r.value value (sym r.call ∙ asked) in
          let none : same_key l.w.key key ≡ false = All-contains (λ (f : WriteInFlight). same_key f.key key ≡ false) x.in_flight l.w free l.there in
          let f : true ≡ false = sym (same_key-self key) ∙ ap (λ q. same_key q key) (sym (l.place ∙ same)) ∙ none in
          absurd cc

  is_sent : r2.m ≡ sent_under number r.m
  is_sent = one_same r2.m (sent_under number r.m) (sym r2.one ∙ one2 session clock count set k x p ms counted w request due number next range r.key r.value r.m r.call r.one)

  last : LaysLast k2 w2.t x2 r2.key r2.value r2.m
  last = by r2.lays
    where
      by : LaysNext k2 w2.s w2.t x2 r2.key r2.value r2.m ⊎ LaysLast k2 w2.t x2 r2.key r2.value r2.m → LaysLast k2 w2.t x2 r2.key r2.value r2.m
      by (inl l) = let f : false ≡ true = sym (ap is_to_send is_sent) ∙ ap progress_to_send l.to_send in absurd cc
      by (inr l) = l

  st : TxnStands k2 [] None w2.t x2
  st = subst (λ ss. TxnStands k2 ss None w2.t x2) (subst (λ q. KeepsStages q k2 w2.stages) e w2.kept) (subst (λ o. TxnStands k2 w2.stages o w2.t x2) (ap (λ q. out_of q ms2) e) w2.stands)

  said : request ≡ own_put x2 last.anchor last.w
  said = sym (one_message session clock count set k x p ms counted w request due number next range r.m r.one).0 ∙ sym (ap (λ (m : Message). m.request) is_sent) ∙ last.said

  pub first : IsFirstPut k2 w2.s w2.t m2
  first = record {
    seq = last.w.seq;
    key = r2.key;
    value = r2.value;
    asked = asks_for w2.s r2.key r2.value r2.call;
    put = subst (λ q. IsPutFor w2.t r2.key r2.value last.w.seq q) (sym said) (ap (λ x. x.id) st.same, ap (λ x. x.epoch) st.same, refl, last.place, last.what);
    first = not_false last.first;
  }

  few : All (λ m. m.conflicts < MOST_CONFLICTS) ms2
  few =
      let P : Message → Type 0 = λ m. m.conflicts < MOST_CONFLICTS in
      let stands : MessageStands set.course k2 r2.m = All-head (MessageStands set.course k2) r2.m [] (subst (λ ms. All (MessageStands set.course k2) ms) r2.one w2.wave.stand) in
      let far = subst (λ pr. IsAsFar set.course k2 r2.m.request r2.m.conflicts pr) (ap (λ (m : Message). m.progress) is_sent) stands.as_far in
      subst (λ ms. All P ms) (sym r2.one) (All-cons P r2.m [] far.1 (All-nil P))

  unmet : (q : Request) → MetEighth k2 q → ⊥
  unmet q eight =
      none_eighth set.course k2 (WaitsMeanwhile p w2.t.id w2.t.epoch x2.in_flight) ms2 w2.fewer w2.wave.stand few q (λ left. absurd (subst (λ p. WaitsMeanwhile p w2.t.id w2.t.epoch x2.in_flight q) e left)) eight

  -- no reply to it was heard
  unheard : All (λ h. IsToOwnPut k2 w.s t2 h → ⊥) k.heard_now
  unheard = All-weaker (λ (h : Heard). h.number ≤ length k.sent) (λ h. IsToOwnPut k2 w.s t2 h → ⊥) none k.heard_now low
    where
      low : All (λ (h : Heard). h.number ≤ length k.sent) k.heard_now
      low =
          let P : Heard → Type 0 = λ h. h.number ≤ length k.sent in
          all_behind P w.split.heard_first k.heard_now (subst (λ hs. All P hs) w.split.heard (are_numbered session clock count k counted).heard)

      none : (h : Heard) → h.number ≤ length k.sent → IsToOwnPut k2 w.s t2 h → ⊥
      none h low o =
          let Q : Sent → Type 0 = λ m. IsFirstPut k2 w.s t2 m → h.number ≡ m.number → ⊥ in
          let before : All Q k.sent_now =
          All-weaker (λ m. IsFirstPut k w.s w.t m → ⊥) Q (λ m new own to. new (first_back session clock count set k x p ms counted w request due number next range t2 refl refl m own)) k.sent_now new_before in
          let all : All Q k2.sent_now = All-push Q k.sent_now m2 before (λ own to. omega (arith, low, to, next)) in
          All-contains Q k2.sent_now o.m all o.sent o.own o.to

  written : HasWritten set.course.loses true k2 x2
  written = record {
    t = w2.t;
    open_in = w2.open_in;
    stands = st;
    cause = w2.cause;
    s = w2.s;
    opened = w2.opened;
    key = r2.key;
    value = r2.value;
    call = r2.call;
    unmet = unmet;
    beaten = λ quiet. subst (λ q. HasBeatenBy q k2 w2.t) e (w2.beaten quiet);
    told = record { t = w2.t; opened = open_is k2 w2.t w2.open_in; sent = any_last (IsFirstPut k2 w2.s w2.t) k.sent_now m2 first };
    heard = subst (λ (s : _). All (λ h. IsToOwnPut k2 s w2.t h → ⊥) k.heard_now) (sym same_s) (subst (λ t. All (λ h. IsToOwnPut k2 w.s t h → ⊥) k.heard_now) (sym same_t) unheard);
    suits = tt;
  }

  -- so the call may be told
  pub told_at_once : MayTellOpen set session k2 answers.Written x2
  told_at_once = written_told set session k2 x2 (subst (λ b. HasWritten set.course.loses b k2 x2) (sym piped) written)
