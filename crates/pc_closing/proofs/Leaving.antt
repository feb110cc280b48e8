-- An actor's messages are settled once what it left was evaluated, up to one whose range is full.
use Rattle.std.proofs.Common.{◌≡◌, ℕ, ◌≤◌, ◌⊎◌, inl, inr, false, All, Contains, IsTrue, List, [], ◌∷◌, ◌++◌, map, refl, sym, ap, subst, ◌∙◌, arith}
use Rattle.std.proofs.lemmas.List.{append_assoc}
use Rattle.std.proofs.lemmas.List.Elements.{All-contains, All-weaker, Contains-append_cases, Contains-append_left}
use Rattle.pc_base.specs.declared.actor.ActorId.{ActorId}
use Rattle.pc_closing.specs.Leaving.{HasSettledAll, IsSettled, KnowsHeldUp, MayLeave, WaitsOrIsSettled}
use Rattle.pc_desk.proofs.Ending.{all_wait, not_lost}
use Rattle.pc_desk.proofs.Refusing.{refused_still, was_given_back}
use Rattle.pc_desk.specs.Desk.{DeskMeaning, GivesOnce, IsReadyToGo, KeepsTrack, Posted, WaitingMessage, as_sent, posting}
use Rattle.pc_desk.specs.Ending.{IsAtFullRange, IsAtOwnEnd, IsAtStop, IsNotLost, IsSpent, KnowsEvaluation, WaitsStill, WaitsUnheard, all_waiting}
use Rattle.pc_desk.specs.Refused.{WasGivenBack}
use Rattle.pc_desk.specs.Rest.{HasOnlyLearnt, IsEvaluatedIn}
use Rattle.pc_history.specs.declared.named.Named.{Ghosts}
use Rattle.pc_history.specs.declared.view.Known.{Known as KnownEntry}
use Rattle.pc_history.specs.declared.view.Part.{Part}
use Rattle.pc_history.specs.Meanings.{ActorMeaning}
use Rattle.pc_history.specs.Parts.{known_entry, told, uses_left}
use Rattle.pc_lists.proofs.Lists.{all_from_contains, contains_cons, contains_in_map, contains_map}
use Rattle.pc_proto.specs.declared.event.Event.{Event}
use Rattle.pc_range.specs.declared.commit_world.CommitWorld.{CommitWorld}
use Rattle.pc_range.specs.declared.message.Message.{Message}
use Rattle.pc_range.specs.Message.{IsFullNote, evaluation}
use Rattle.pc_world.specs.Caused.{Evaluates}
use Rattle.pc_world.specs.Known.{known_of}
use Rattle.pc_world.specs.Known.Traffic.{Sent}
use Rattle.pc_world.specs.Local.{Head}
use Rattle.pc_world.specs.Tell.Refusal.{is_heard}

-- ---- when a session may leave

module _ {C : Type 0} (d : DeskMeaning C) (rest : List WaitingMessage) (posted : map (λ (w : WaitingMessage). w.posted) rest ≡ all_waiting d) (given : GivesOnce d.log.part) where
  waits-posted : All (WaitsUnheard (known_of d.log.part.own)) (all_waiting d) → All (λ (w : WaitingMessage). WaitsUnheard (known_of d.log.part.own) w.posted) rest
  waits-posted waits = all_from_contains (λ (w : WaitingMessage). WaitsUnheard (known_of d.log.part.own) w.posted) rest (λ w there.
      All-contains (WaitsUnheard (known_of d.log.part.own)) (all_waiting d) w.posted waits (subst (λ l. Contains l w.posted) posted (contains_map (λ (x : WaitingMessage). x.posted) rest w there)))

  not-lost : (m : Sent) → IsNotLost d m → WaitsOrIsSettled d.range_limit d.log.part rest m
  not-lost m (inl heard) = inr (inl heard)
  not-lost m (inr (inl waits)) = inl (subst (λ l. WaitsStill l m.number) (sym posted) waits)
  not-lost m (inr (inr knows)) = inr (inr (inl knows))

  -- it goes on, and each of its messages stands at its stage
  pub going_may_leave : KeepsTrack d → MayLeave d.range_limit d.log.part rest
  going_may_leave track = record {
    given = given;
    waits = waits-posted (all_wait d track);
    messages = All-weaker (IsNotLost d) (WaitsOrIsSettled d.range_limit d.log.part rest) not-lost (known_of d.log.part.own).sent (not_lost d track);
  }

  -- its own list is full
  pub own_end_may_leave : IsAtOwnEnd d → MayLeave d.range_limit d.log.part rest
  own_end_may_leave end = record {
    given = given;
    waits = waits-posted end.waits;
    messages = All-weaker (IsNotLost d) (WaitsOrIsSettled d.range_limit d.log.part rest) not-lost (known_of d.log.part.own).sent end.each;
  }

  -- its list is at its stop
  pub stop_may_leave : IsAtStop d → MayLeave d.range_limit d.log.part rest
  stop_may_leave end = record {
    given = given;
    waits = waits-posted end.waits;
    messages = All-weaker (IsNotLost d) (WaitsOrIsSettled d.range_limit d.log.part rest) not-lost (known_of d.log.part.own).sent end.each;
  }

  -- a range is full
  pub full_range_may_leave : IsAtFullRange d → MayLeave d.range_limit d.log.part rest
  full_range_may_leave end = record {
    given = given;
    waits = waits-posted end.waits;
    messages = all_from_contains (WaitsOrIsSettled d.range_limit d.log.part rest) (known_of d.log.part.own).sent (λ m there. by m there (All-contains (λ x. IsSpent d x ⊎ IsNotLost d x) (known_of d.log.part.own).sent m end.others there));
  }
    where
      by : (m : Sent) → Contains (known_of d.log.part.own).sent m → IsSpent d m ⊎ IsNotLost d m → WaitsOrIsSettled d.range_limit d.log.part rest m
      by m there (inl it) = inr (inr (inr (record { front = m; sent = there; no_later = omega arith; unheard = it.unheard; refused = it.refused })))
      by m there (inr kept) = not-lost m kept

-- ---- what is settled stays so

module _ (limit : ℕ) (old new : Part Event) (own : new.own ≡ old.own) (id : new.id ≡ old.id) (more : (k : KnownEntry Event) → Contains old.known k → Contains new.known k) where
  knows-on : (number : ℕ) → KnowsEvaluation old number → KnowsEvaluation new number
  knows-on number knows = record { evaluation = knows.evaluation; knows = more knows.evaluation knows.knows; of_it = subst (λ (i : ActorId). Evaluates i number knows.evaluation.entry.event) (sym id) knows.of_it }

  pub refused-on : (m : Sent) → WasGivenBack limit old m → WasGivenBack limit new m
  refused-on m refused = refused_still limit limit old new m refl id more refused

  held-on : (m : Sent) → KnowsHeldUp limit old m → KnowsHeldUp limit new m
  held-on m held = record {
    front = held.front;
    sent = subst (λ o. Contains (known_of o).sent held.front) (sym own) held.sent;
    no_later = held.no_later;
    unheard = subst (λ o. is_heard (known_of o).heard held.front ≡ false) (sym own) held.unheard;
    refused = refused-on held.front held.refused;
  }

  settled-on : (m : Sent) → IsSettled limit old m → IsSettled limit new m
  settled-on m (inl heard) = inl (subst (λ o. IsTrue (is_heard (known_of o).heard m)) (sym own) heard)
  settled-on m (inr (inl knows)) = inr (inl (knows-on m.number knows))
  settled-on m (inr (inr held)) = inr (inr (held-on m held))

-- the actor knows the evaluation of a message that was delivered
evaluated-knows : (part : Part Event) (w : WaitingMessage) (number : ℕ) → w.posted.number ≡ number → IsEvaluatedIn part w → KnowsEvaluation part number
evaluated-knows part w number is e = record { evaluation = known_entry (evaluation e.step w.posted.range part.id w.posted.number e.reply) e.place 0; knows = e.knows; of_it = (refl, is) }

-- ---- what was left was evaluated

module _ (limit : ℕ) (splits : List (List ℕ)) (old new : ActorMeaning Head Event) (rest : List WaitingMessage) (ready : All (IsReadyToGo old.part.id splits) rest) (may : MayLeave limit old.part rest) (learnt : HasOnlyLearnt old new) where
  own-same : new.part.own ≡ old.part.own
  own-same = ap (λ (a : ActorMeaning Head Event). a.part.own) learnt.rest

  id-same : new.part.id ≡ old.part.id
  id-same = ap (λ (a : ActorMeaning Head Event). a.part.id) learnt.rest

  gives-still : GivesOnce new.part
  gives-still = subst GivesOnce (sym (ap (λ (a : ActorMeaning Head Event). a.part) learnt.rest)) (record { each = may.given.each; once = may.given.once })

  pub left_all : All (IsEvaluatedIn new.part) rest → HasSettledAll limit old.part new.part
  left_all evaluated = record {
    own = own-same;
    id = id-same;
    known = learnt.more;
    given = gives-still;
    settled = subst (λ o. All (IsSettled limit new.part) (known_of o).sent) (sym own-same) (All-weaker (WaitsOrIsSettled limit old.part rest) (IsSettled limit new.part) by (known_of old.part.own).sent may.messages);
  }
    where
      by : (m : Sent) → WaitsOrIsSettled limit old.part rest m → IsSettled limit new.part m
      by m (inl waits) =
          let w = contains_in_map (λ (x : WaitingMessage). x.posted) rest waits.waiting waits.there in
          inr (inl (evaluated-knows new.part w.0 m.number (ap (λ (p : Posted). p.number) w.2 ∙ waits.is) (All-contains (IsEvaluatedIn new.part) rest w.0 evaluated w.1)))
      by m (inr settled) = settled-on limit old.part new.part own-same id-same learnt.more m settled

  -- up to one whose range is full
  module _ (after : ActorMeaning Head Event) (note : List (KnownEntry Event)) (done behind : List WaitingMessage) (refused : WaitingMessage) (each : All (λ (w : WaitingMessage). Contains (done ++ refused ∷ behind) w) rest) (there-refused : Contains rest refused) (evaluated : All (IsEvaluatedIn new.part) done)
      (rises : All (λ (w : WaitingMessage). refused.key ≤ w.key) behind) (took : after ≡ record new { part = told note new.part }) (spent : WasGivenBack limit (told note new.part) (as_sent refused.posted)) where
    known-is : after.part.known ≡ new.part.known ++ note
    known-is = ap (λ (a : ActorMeaning Head Event). a.part.known) took

    more-now : (k : KnownEntry Event) → Contains new.part.known k → Contains after.part.known k
    more-now k there = subst (λ l. Contains l k) (sym known-is) (Contains-append_left new.part.known note k there)

    own-now : after.part.own ≡ old.part.own
    own-now = ap (λ (a : ActorMeaning Head Event). a.part.own) took ∙ own-same

    id-now : after.part.id ≡ old.part.id
    id-now = ap (λ (a : ActorMeaning Head Event). a.part.id) took ∙ id-same

    waited : WaitsUnheard (known_of old.part.own) refused.posted
    waited = All-contains (λ (w : WaitingMessage). WaitsUnheard (known_of old.part.own) w.posted) rest refused may.waits there-refused

    held-up : (m : Sent) → refused.posted.number ≤ m.number → KnowsHeldUp limit after.part m
    held-up m later = record {
      front = as_sent refused.posted;
      sent = subst (λ o. Contains (known_of o).sent (as_sent refused.posted)) (sym own-now) waited.sent;
      no_later = later;
      unheard = subst (λ o. is_heard (known_of o).heard (as_sent refused.posted) ≡ false) (sym own-now) waited.unheard;
      refused = subst (λ (a : ActorMeaning Head Event). WasGivenBack limit a.part (as_sent refused.posted)) (sym took) spent;
    }

    key-is : (w : WaitingMessage) → Contains rest w → w.key ≡ w.posted.number
    key-is w there = (All-contains (IsReadyToGo old.part.id splits) rest w ready there).numbered

    pub left_till : HasSettledAll limit old.part after.part
    left_till = record {
      own = own-now;
      id = id-now;
      known = λ k there. more-now k (learnt.more k there);
      given = subst GivesOnce (sym (ap (λ (a : ActorMeaning Head Event). a.part) took)) (record { each = gives-still.each; once = gives-still.once });
      settled = subst (λ o. All (IsSettled limit after.part) (known_of o).sent) (sym own-now) (All-weaker (WaitsOrIsSettled limit old.part rest) (IsSettled limit after.part) by (known_of old.part.own).sent may.messages);
    }
      where
        waiting : (m : Sent) (w : WaitingMessage) → Contains rest w → w.posted.number ≡ m.number → Contains done w ⊎ Contains (refused ∷ behind) w → IsSettled limit after.part m
        waiting m w there is (inl before) =
            inr (inl (knows-on limit new.part after.part (ap (λ (a : ActorMeaning Head Event). a.part.own) took) (ap (λ (a : ActorMeaning Head Event). a.part.id) took) more-now m.number
            (evaluated-knows new.part w m.number is (All-contains (IsEvaluatedIn new.part) done w evaluated before))))
        waiting m w there is (inr later) = inr (inr (held-up m (elim (contains_cons refused behind w later) [
          | inl here ↦ (let same : refused.posted.number ≡ w.posted.number = ap (λ (x : WaitingMessage). x.posted.number) here in omega arith)
          | inr after ↦ (let below : refused.key ≤ w.key = All-contains (λ (x : WaitingMessage). refused.key ≤ x.key) behind w rises after in omega (arith, key-is refused there-refused, key-is w there))
        ])))

        by : (m : Sent) → WaitsOrIsSettled limit old.part rest m → IsSettled limit after.part m
        by m (inl waits) =
            let w = contains_in_map (λ (x : WaitingMessage). x.posted) rest waits.waiting waits.there in
            waiting m w.0 w.1 (ap (λ (p : Posted). p.number) w.2 ∙ waits.is) (Contains-append_cases done (refused ∷ behind) w.0 (All-contains (λ (x : WaitingMessage). Contains (done ++ refused ∷ behind) x) rest w.0 each w.1))
        by m (inr settled) = settled-on limit old.part after.part own-now id-now (λ k there. more-now k (learnt.more k there)) m settled

  -- it took what the range gave, and then the use of its message
  pub refused_at_end : {N : Type 0} {G : Ghosts N CommitWorld} (after : ActorMeaning Head Event) (last : List (KnownEntry Event)) (message : Message N G) (done behind : List WaitingMessage) (refused : WaitingMessage) → All (λ (w : WaitingMessage). Contains (done ++ refused ∷ behind) w) rest → Contains rest refused → All (IsEvaluatedIn new.part) done
      → All (λ (w : WaitingMessage). refused.key ≤ w.key) behind → IsFullNote refused.posted.range limit last → message.sender ≡ new.part.id → posting message.number message.range message.request (uses_left message.note.known) ≡ refused.posted
      → after ≡ record new { part = told message.note.known (told last new.part) } → HasSettledAll limit old.part after.part
  refused_at_end after last message done behind refused each there evaluated rises full whose is back =
      let notes = last ++ message.note.known in
      let some = (All-contains (IsReadyToGo old.part.id splits) rest refused ready there).use_left in
      left_till after notes done behind refused each there evaluated rises (back ∙ ap (λ ks. record new { part = record new.part { known = ks } }) (append_assoc new.part.known last message.note.known))
      (was_given_back limit (told notes new.part) refused.posted message last new.part.known refl full whose is some)
