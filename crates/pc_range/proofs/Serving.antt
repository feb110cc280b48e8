-- What a range knows when it evaluates a message whose note it took.
use Rattle.std.proofs.Common.{◌≡◌, ℕ, ◌+◌, ◌<◌, ◌≤◌, ◌^◌, Bool, true, ◌&&◌, ◌==◌, All, Any, Contains, List, [], ◌∷◌, ◌++◌, length, Some, refl, sym, ap, subst, ◌∙◌, arith, length-append}
use Rattle.std.proofs.lemmas.List.Elements.{All-contains, All-push, All-weaker, Contains-append_left, Contains-append_right}
use Rattle.std.proofs.lemmas.List.Sums.{fold-append}
use Rattle.pc_base.specs.declared.actor.ActorId.{ActorId}
use Rattle.pc_base.specs.declared.actor.ActorId.TheVariants as actors
use Rattle.pc_base.specs.declared.entry.Entry.{Entry}
use Rattle.pc_history.proofs.Callers.{can_spend-one, knows-known, knows-told, names-told, uses-told}
use Rattle.pc_history.proofs.Ids.{same_id-equal}
use Rattle.pc_history.specs.declared.pair.Pair.{Pair}
use Rattle.pc_history.specs.declared.view.Known.{Known as KnownEntry}
use Rattle.pc_history.specs.declared.view.Part.{Part}
use Rattle.pc_history.specs.Closed.{IsSound}
use Rattle.pc_history.specs.Meanings.{ActorMeaning}
use Rattle.pc_history.specs.Own.{pair, same_id}
use Rattle.pc_history.specs.Parts.{CanSpend, IsCausedFor, IsLocalFor, acted, entry_of, knowledge, known_entry, named_by, told, uses_left}
use Rattle.pc_lists.proofs.Lists.{all_from_contains}
use Rattle.pc_proto.specs.declared.event.Event.{Event}
use Rattle.pc_proto.specs.declared.event.Event.TheVariants as events
use Rattle.pc_proto.specs.declared.reply.Reply.{Reply}
use Rattle.pc_proto.specs.declared.request.Request.{Request}
use Rattle.pc_proto.specs.Stamps.{request_stamps}
use Rattle.pc_range.specs.Cell.{IsCell, IsEntered, message_end}
use Rattle.pc_range.specs.Message.{ComesAfter, IsToldBefore, IsSendNote, evaluation, sending}
use Rattle.pc_world.proofs.Stamps.{state_at_most}
use Rattle.pc_world.specs.Caused.{IsSendTo}
use Rattle.pc_world.specs.Evaluation.{reply, state_after}
use Rattle.pc_world.specs.Local.{Head, IsLocal as MayComeAt}
use Rattle.pc_world.specs.Named.{request_in}
use Rattle.pc_world.specs.RangeState.{RangeState, no_state}
use Rattle.pc_world.specs.Run.{IsKept, clock_end, protocol}
use Rattle.pc_world.specs.Stamps.{AllAtMost, all_stamps}
use Rattle.pc_world.specs.StateOf.{evaluated, state_of, state_with}

both-true : (a b : Bool) → a ≡ true → b ≡ true → (a && b) ≡ true
both-true a b h k = grind arith

same-number : (n : ℕ) → (n == n) ≡ true
same-number n = grind arith

module _ (head : Head) (part : Part Event) (range step place uses number : ℕ) (sender : ActorId) (request : Request) (answer : Reply) where
  -- the evaluation names the sending of the message
  pub names-send : IsSound (protocol head) (knowledge (told (known_entry (sending step sender number range request) place uses ∷ []) part))
      → named_by (protocol head) (told (known_entry (sending step sender number range request) place uses ∷ []) part) (events.Eval sender number answer) ≡ Some (sending step sender number range request)
  names-send sound =
      names-told (protocol head) part (events.Eval sender number answer) (sending step sender number range request) place uses sound
      (both-true (same_id sender sender) (number == number) (same_id-equal sender sender refl) (same-number number))

  -- it is caused
  pub caused-by-send : part.id ≡ actors.Range range → IsCausedFor (protocol head) (told (known_entry (sending step sender number range request) place uses ∷ []) part) (events.Eval sender number answer)
  caused-by-send id =
      let there = knows-told part (sending step sender number range request) place uses in
      subst (λ (a : ActorId). Any (IsSendTo a sender number) (knowledge (told (known_entry (sending step sender number range request) place uses ∷ []) part))) (sym id)
      (there.0, sending step sender number range request, there.1, there.2, record { whose = refl; send = (refl, refl) })

  -- it is what the range's state and the request say
  pub local-answer : part.id ≡ actors.Range range → range ≤ length head.splits → answer ≡ reply request (state_of part.own)
      → IsSound (protocol head) (knowledge (told (known_entry (sending step sender number range request) place uses ∷ []) part))
      → IsLocalFor (protocol head) (told (known_entry (sending step sender number range request) place uses ∷ []) part) (events.Eval sender number answer)
  local-answer id there is sound =
      rw (names-send sound)
      (subst (λ (a : ActorId). MayComeAt head a part.own (events.Eval sender number answer) (Some (sending step sender number range request))) (sym id) (record { there = there; next = is }))

  -- the use of the note is enough
  pub spends-use : 1 ≤ uses → IsSound (protocol head) (knowledge (told (known_entry (sending step sender number range request) place uses ∷ []) part))
      → CanSpend (protocol head) (told (known_entry (sending step sender number range request) place uses ∷ []) part) (events.Eval sender number answer)
  spends-use one sound =
      can_spend-one (protocol head) (told (known_entry (sending step sender number range request) place uses ∷ []) part) (events.Eval sender number answer) (sending step sender number range request) (names-send sound)
      (let h = uses-told part (sending step sender number range request) place uses in omega arith)

-- what the table keeps of a send holds of its request
kept-request : (number range : ℕ) (sent n : ℕ) (request : Request) → IsKept sent (events.Send number range request) → sent < 2 ^ 48 → message_end ≤ n → AllAtMost n (request_stamps request)
kept-request number range sent n request kept early far =
    All-weaker (λ ts. ts ≤ clock_end + sent + 1) (λ ts. ts ≤ n) (λ ts h. omega arith) (request_stamps request) kept

state-push : (own : List (Pair Event)) (e send : Entry Event) (request : Request) → request_in send.event ≡ Some request → state_of (own ++ pair e (Some send) ∷ []) ≡ state_after request (state_of own)
state-push own e send request is = fold-append evaluated no_state own (pair e (Some send) ∷ []) ∙ ap (λ r. state_with r (state_of own)) is

module _ (range : ℕ) (head : Head) where
  -- a range that evaluated a message is one still
  pub cell-kept : (before after : Part Event) (state : RangeState) (sent step number : ℕ) (sender : ActorId) (request : Request) (answer : Reply)
      → IsCell range head before state → after.id ≡ before.id
      → after.own ≡ before.own ++ pair (evaluation step range sender number answer) (Some (sending sent sender number range request)) ∷ []
      → IsKept sent (events.Send number range request) → sent < 2 ^ 48
      → IsCell range head after (state_after request state)
  cell-kept before after state sent step number sender request answer cell same stored kept early =
      let p = pair (evaluation step range sender number answer) (Some (sending sent sender number range request)) in
      let n = message_end + length before.own in
      let long : length (before.own ++ p ∷ []) ≡ length before.own + 1 = length-append before.own (p ∷ []) in
      let now : state_after request state ≡ state_of (before.own ++ p ∷ []) =
      ap (state_after request) cell.folded ∙ sym (state-push before.own (evaluation step range sender number answer) (sending sent sender number range request) request refl) in
      let bound : AllAtMost (n + 1) (all_stamps (state_after request state)) = state_at_most n request state (kept-request number range sent n request kept early (omega arith)) cell.bounded in
      record {
        id_is = same ∙ cell.id_is;
        there = cell.there;
        whose = subst (λ own. All (λ (q : Pair Event). q.entry.actor ≡ actors.Range range) own) (sym stored) (All-push (λ (q : Pair Event). q.entry.actor ≡ actors.Range range) before.own p cell.whose refl);
        folded = now ∙ ap state_of (sym stored);
        bounded = All-weaker (λ ts. ts ≤ n + 1) (λ ts. ts ≤ message_end + length after.own) (λ ts h. omega (arith, ap length stored, long)) (all_stamps (state_after request state)) bound;
      }

-- a note of a sending, opened
pub record SendTold (sender : ActorId) (number range : ℕ) (request : Request) (ks : List (KnownEntry Event)) : Type 0 where
  pub step : ℕ
  pub place : ℕ
  pub uses : ℕ
  pub tells : ks ≡ known_entry (sending step sender number range request) place uses ∷ []

pub opened : (sender : ActorId) (number range : ℕ) (request : Request) (ks : List (KnownEntry Event)) → IsSendNote sender number range request ks → SendTold sender number range request ks
opened sender number range request [] noted = absurd cc
opened sender number range request (k ∷ ks) noted = record { step = k.entry.step; place = k.place; uses = k.uses; tells = noted }

-- what the table asks of an evaluation
pub record CanEnter (head : Head) (part : Part Event) (event : Event) : Type 0 where
  pub local : IsLocalFor (protocol head) part event
  pub caused : IsCausedFor (protocol head) part event
  pub can_spend : CanSpend (protocol head) part event

module _ (before : ActorMeaning Head Event) (range number : ℕ) (sender : ActorId) (request : Request) (answer : Reply) (ks : List (KnownEntry Event)) where
  pub can-enter : before.part.id ≡ actors.Range range → range ≤ length before.world.splits → answer ≡ reply request (state_of before.part.own)
      → IsSendNote sender number range request ks → 1 ≤ uses_left ks → (mid : ActorMeaning Head Event) → mid ≡ record before { part = told ks before.part }
      → IsSound (protocol before.world) (knowledge mid.part) → CanEnter mid.world mid.part (events.Eval sender number answer)
  can-enter id there is noted one mid took sound =
      let o = opened sender number range request ks noted in
      let sound' : IsSound (protocol before.world) (knowledge (told ks before.part)) = subst (λ (a : ActorMeaning Head Event). IsSound (protocol before.world) (knowledge a.part)) took sound in
      let uses : 1 ≤ o.uses = subst (λ (l : List (KnownEntry Event)). 1 ≤ uses_left l) o.tells one in
      let opened' : CanEnter before.world (told (known_entry (sending o.step sender number range request) o.place o.uses ∷ []) before.part) (events.Eval sender number answer) =
      (let s = subst (λ (l : List (KnownEntry Event)). IsSound (protocol before.world) (knowledge (told l before.part))) o.tells sound' in record {
        local = local-answer before.world before.part range o.step o.place o.uses number sender request answer id there is s;
        caused = caused-by-send before.world before.part range o.step o.place o.uses number sender request answer id;
        can_spend = spends-use before.world before.part range o.step o.place o.uses number sender request answer uses s;
      }) in
      subst (λ (a : ActorMeaning Head Event). CanEnter a.world a.part (events.Eval sender number answer)) (sym took)
      (subst (λ (l : List (KnownEntry Event)). CanEnter before.world (told l before.part) (events.Eval sender number answer)) (sym o.tells) opened')

  pub entered : before.part.id ≡ actors.Range range → IsSendNote sender number range request ks
      → (mid after : ActorMeaning Head Event) (step spare : ℕ) → mid ≡ record before { part = told ks before.part }
      → after ≡ record mid { part = acted (protocol mid.world) step (events.Eval sender number answer) mid.part; spare = spare }
      → IsSound (protocol before.world) (knowledge mid.part) → All (λ (e : Entry Event). e.step < step) (knowledge mid.part) → step < 2 ^ 48
      → IsEntered before after sender number range request step answer
  entered id noted mid after step spare took did sound above small =
      let o = opened sender number range request ks noted in
      let send = sending o.step sender number range request in
      let note = known_entry send o.place o.uses ∷ [] in
      let took' : mid ≡ record before { part = told note before.part } = subst (λ (l : List (KnownEntry Event)). mid ≡ record before { part = told l before.part }) o.tells took in
      let sound' : IsSound (protocol before.world) (knowledge (told note before.part)) = subst (λ (a : ActorMeaning Head Event). IsSound (protocol before.world) (knowledge a.part)) took' sound in
      let above' : All (λ (e : Entry Event). e.step < step) (knowledge (told note before.part)) = subst (λ (a : ActorMeaning Head Event). All (λ (e : Entry Event). e.step < step) (knowledge a.part)) took' above in
      let did' : after ≡ record before { part = acted (protocol before.world) step (events.Eval sender number answer) (told note before.part); spare = spare } =
      subst (λ (m : ActorMeaning Head Event). after ≡ record m { part = acted (protocol m.world) step (events.Eval sender number answer) m.part; spare = spare }) took' did in
      let knows = knows-told before.part send o.place o.uses in
      let later : o.step < step = All-contains (λ (e : Entry Event). e.step < step) (knowledge (told note before.part)) send above' knows in
      let named = names-send before.world before.part range o.step o.place o.uses number sender request answer sound' in
      record {
        sent = o.step;
        same_world = ap (λ (a : ActorMeaning Head Event). a.world) did';
        same_id = ap (λ (a : ActorMeaning Head Event). a.part.id) did';
        stored = ap (λ (a : ActorMeaning Head Event). a.part.own) did'
            ∙ (ap (λ i. before.part.own ++ pair (entry_of step i (events.Eval sender number answer)) (named_by (protocol before.world) (told note before.part) (events.Eval sender number answer)) ∷ []) id
            ∙ ap (λ n. before.part.own ++ pair (evaluation step range sender number answer) n ∷ []) named);
        kept = All-contains (λ (e : Entry Event). IsKept e.step e.event) (knowledge (told note before.part)) send sound'.kept knows;
        early = omega arith;
        later = later;
      }

  pub before-step : IsSendNote sender number range request ks → (mid : ActorMeaning Head Event) (step : ℕ) → mid ≡ record before { part = told ks before.part }
      → All (λ (e : Entry Event). e.step < step) (knowledge mid.part) → IsToldBefore step ks
  before-step noted mid step took above =
      let o = opened sender number range request ks noted in
      let send = sending o.step sender number range request in
      let note = known_entry send o.place o.uses ∷ [] in
      let took' : mid ≡ record before { part = told note before.part } = subst (λ (l : List (KnownEntry Event)). mid ≡ record before { part = told l before.part }) o.tells took in
      let above' : All (λ (e : Entry Event). e.step < step) (knowledge (told note before.part)) = subst (λ (a : ActorMeaning Head Event). All (λ (e : Entry Event). e.step < step) (knowledge a.part)) took' above in
      subst (IsToldBefore step) (sym o.tells) (All-contains (λ (e : Entry Event). e.step < step) (knowledge (told note before.part)) send above' (knows-told before.part send o.place o.uses))

-- what the actor knew before it took the note stands before its step
pub known-before : (before mid : ActorMeaning Head Event) (ks : List (KnownEntry Event)) (step : ℕ) → mid ≡ record before { part = told ks before.part }
    → All (λ (e : Entry Event). e.step < step) (knowledge mid.part) → ComesAfter step before.part.known
known-before before mid ks step took above =
    all_from_contains (λ (k : KnownEntry Event). k.entry.step < step) before.part.known (λ k there.
    All-contains (λ (e : Entry Event). e.step < step) (knowledge (told ks before.part)) k.entry (subst (λ (a : ActorMeaning Head Event). All (λ (e : Entry Event). e.step < step) (knowledge a.part)) took above)
    (knows-known (told ks before.part) k (Contains-append_left before.part.known ks k there)))

-- what an actor that knows more than this one enters, this one enters
pub entered-from : (before mid after : ActorMeaning Head Event) (sender : ActorId) (number range : ℕ) (request : Request) (step : ℕ) (answer : Reply)
    → mid ≡ record before { part = record before.part { known = mid.part.known } } → IsEntered mid after sender number range request step answer → IsEntered before after sender number range request step answer
entered-from before mid after sender number range request step answer same e = record {
  sent = e.sent;
  same_world = e.same_world ∙ ap (λ (a : ActorMeaning Head Event). a.world) same;
  same_id = e.same_id ∙ ap (λ (a : ActorMeaning Head Event). a.part.id) same;
  stored = e.stored ∙ ap (λ (a : ActorMeaning Head Event). a.part.own ++ pair (evaluation step range sender number answer) (Some (sending e.sent sender number range request)) ∷ []) same;
  kept = e.kept;
  early = e.early;
  later = e.later;
}

-- what is known stands before the step
pub all-before : (note known : List (KnownEntry Event)) (step : ℕ) → All (λ (k : KnownEntry Event). Contains known k) note → ComesAfter step known → ComesAfter step note
all-before note known step there above =
    All-weaker (λ (k : KnownEntry Event). Contains known k) (λ (k : KnownEntry Event). k.entry.step < step) (λ k knows. All-contains (λ (k : KnownEntry Event). k.entry.step < step) known k above knows) note there

-- a note that was taken is known
pub all-told : (known note : List (KnownEntry Event)) → All (λ (k : KnownEntry Event). Contains (known ++ note) k) note
all-told known note = all_from_contains (λ (k : KnownEntry Event). Contains (known ++ note) k) note (λ k there. Contains-append_right known note k there)
