-- What a range is once it evaluated a message, from what the parts of the evaluation say.
use Rattle.std.proofs.Common.{◌≡◌, ℕ, ◌+◌, ◌-◌, add-zero, slice_set, ◌<◌, ◌≤◌, ◌^◌, inl, inr, List, [], ◌∷◌, ◌++◌, length, Ok, Err, Option, Some, IfOk, OnErr, OnOk, slice_index, IsSome, Result, refl, sym, ap, subst, ◌∙◌, arith, slice_get}
use Rattle.std.proofs.lemmas.Option.{slice_get_cases}
use Rattle.std.proofs.lemmas.List.{length-map, set-get_or}
use Rattle.std.proofs.lemmas.List.Elements.{All-contains, All-nil}
use Rattle.pc_base.specs.declared.actor.ActorId.{ActorId}
use Rattle.pc_base.specs.declared.actor.ActorId.TheVariants as actors
use Rattle.pc_base.specs.Timestamp.{greatest}
use Rattle.pc_history.proofs.Callers.{noted-at}
use Rattle.pc_history.proofs.NoteStep.{get-map}
use Rattle.pc_history.specs.declared.pair.Pair.{Pair}
use Rattle.pc_history.specs.declared.view.Known.{Known as KnownEntry}
use Rattle.pc_history.specs.Meanings.{ActorMeaning}
use Rattle.pc_history.specs.Own.{entries_of, pair}
use Rattle.pc_history.specs.declared.view.Part.{Part}
use Rattle.pc_history.specs.Parts.{gave, known_entry, noted}
use Rattle.pc_lists.proofs.Lists.{get_contains, get_push}
use Rattle.pc_proto.specs.declared.event.Event.{Event}
use Rattle.pc_proto.specs.declared.event.Event.TheVariants as events
use Rattle.pc_proto.specs.declared.reply.Reply.{Reply}
use Rattle.pc_proto.specs.declared.request.Request.{Request}
use Rattle.pc_proto.specs.declared.request.Request.TheVariants as requests
use Rattle.pc_proto.specs.Stamps.{request_stamps}
use Rattle.pc_range.proofs.Serving.{cell-kept}
use Rattle.pc_range.specs.Cell.{CellMeaning, StoresEvaluation, IsCell, IsEntered, message_end}
use Rattle.pc_range.specs.Message.{IsEvalNote, IsFullNote, evaluation, sending}
use Rattle.pc_world.proofs.Stamps.{has_room}
use Rattle.pc_world.specs.Evaluation.{reply, state_after}
use Rattle.pc_world.specs.Known.Traffic.{reply_named}
use Rattle.pc_world.specs.Local.{Head}
use Rattle.pc_world.specs.RangeState.{RangeState}
use Rattle.pc_world.specs.Run.{IsKept, protocol}
use Rattle.pc_world.specs.Stamps.{AllAtMost, AllBelowGreatest, HasRoom}

-- three things that hold of what was told, where something was, give a fourth
pub if-ok-three : {A E : Type 0} (P Q R S : A → Type 0) → ((a : A) → P a → Q a → R a → S a) → (r : Result A E) → IfOk r P → IfOk r Q → IfOk r R → IfOk r S
if-ok-three P Q R S on (Ok a) p q r = on a p q r
if-ok-three P Q R S on (Err e) p q r = tt

pub on-err : {A E : Type 0} (Q : Type 0) (r : Result A E) → Q → OnErr r Q
on-err Q (Ok a) h = tt
on-err Q (Err e) h = h

-- a range has room for a request
pub cell-room : (range : ℕ) (world : Head) (first : ActorMeaning Head Event) (state : RangeState) (request : Request) → IsCell range world first.part state → length first.part.own < 2 ^ 32 → AllBelowGreatest (request_stamps request) → HasRoom request state
cell-room range world first state request cell short below =
    let n = message_end + length first.part.own in
    let under : n < greatest = omega arith in
    let none : AllAtMost n (request_stamps requests.Records) = All-nil (λ ts. ts ≤ n) in
    record { asked = below; state = (has_room n requests.Records state under none cell.bounded).state }

module _ (range : ℕ) (old : CellMeaning) (first room entered last : ActorMeaning Head Event) (state : RangeState) (sender : ActorId) (number to : ℕ) (request : Request) (step : ℕ) (answer : Reply) where
  -- what the parts of an evaluation say
  pub record Parts : Type 0 where
    pub view_is : record { world = first.world; part = first.part } ≡ old
    pub cell : IsCell range first.world first.part state
    pub roomed : (room.world ≡ first.world) × (room.part ≡ first.part)
    pub here : to ≡ range
    pub answers : answer ≡ reply request state
    pub stored : IsEntered room entered sender number to request step answer
    pub same : (last.world ≡ entered.world) × (last.part.id ≡ entered.part.id) × (last.part.own ≡ entered.part.own)

  sent-here : (p : Parts) → entered.part.own ≡ room.part.own ++ pair (evaluation step range sender number answer) (Some (sending p.stored.sent sender number range request)) ∷ []
  sent-here p = subst (λ r. entered.part.own ≡ room.part.own ++ pair (evaluation step r sender number answer) (Some (sending p.stored.sent sender number r request)) ∷ []) p.here p.stored.stored

  own-after : (p : Parts) → last.part.own ≡ first.part.own ++ pair (evaluation step range sender number answer) (Some (sending p.stored.sent sender number range request)) ∷ []
  own-after p =
      p.same.2 ∙ (sent-here p ∙ ap (λ own. own ++ pair (evaluation step range sender number answer) (Some (sending p.stored.sent sender number range request)) ∷ []) (ap (λ q. q.own) p.roomed.1))

  id-after : Parts → last.part.id ≡ first.part.id
  id-after p = p.same.1 ∙ (p.stored.same_id ∙ ap (λ q. q.id) p.roomed.1)

  world-after : Parts → last.world ≡ first.world
  world-after p = p.same.0 ∙ (p.stored.same_world ∙ p.roomed.0)

  pub is-evaluated : Parts → StoresEvaluation range old (record { world = last.world; part = last.part }) sender number request step answer
  is-evaluated p =
      subst (λ (o : CellMeaning). StoresEvaluation range o (record { world = last.world; part = last.part }) sender number request step answer) p.view_is
      (record {
        sent = p.stored.sent;
        same_world = world-after p;
        same_id = id-after p;
        stored = own-after p;
        answers = p.answers ∙ ap (reply request) p.cell.folded;
        later = p.stored.later;
      })

  pub is-cell : Parts → IsCell range last.world last.part (state_after request state)
  is-cell p =
      let kept = subst (λ r. IsKept p.stored.sent (events.Send number r request)) p.here p.stored.kept in
      subst (λ (w : Head). IsCell range w last.part (state_after request state)) (sym (world-after p))
      (cell-kept range first.world first.part last.part state p.stored.sent step number sender request answer p.cell (id-after p) (own-after p) kept p.stored.early)

  pair-there : (p : Parts) (place : ℕ) → place ≡ length (entries_of room.part.own) → slice_get entered.part.own place ≡ Some (pair (evaluation step range sender number answer) (Some (sending p.stored.sent sender number range request)))
  pair-there p place at =
      let q = pair (evaluation step range sender number answer) (Some (sending p.stored.sent sender number range request)) in
      let long : place ≡ length room.part.own = at ∙ length-map room.part.own (λ (r : Pair Event). r.entry) in
      subst (λ own. slice_get own place ≡ Some q) (sym (sent-here p)) (subst (λ i. slice_get (room.part.own ++ q ∷ []) i ≡ Some q) (sym long) (get_push room.part.own q))

  pub reply-there : (p : Parts) (place : ℕ) → place ≡ length (entries_of room.part.own) → reply_named (slice_get (entries_of entered.part.own) place) ≡ Some answer
  reply-there p place at =
      ap reply_named (get-map (λ (r : Pair Event). r.entry) entered.part.own place _ (pair-there p place at))

  pub note-there : (p : Parts) (place : ℕ) → place ≡ length (entries_of room.part.own) → noted place 0 entered.part ≡ known_entry (evaluation step range sender number answer) place 0 ∷ []
  note-there p place at = noted-at (protocol entered.world) entered.part place 0 (pair (evaluation step range sender number answer) (Some (sending p.stored.sent sender number range request))) (pair-there p place at)

  pub is-there : (p : Parts) (place : ℕ) → place ≡ length (entries_of room.part.own) → IsSome (reply_named (slice_get (entries_of entered.part.own) place))
  is-there p place at = subst (λ o. IsSome o) (sym (reply-there p place at)) refl

some-equal : {A : Type 0} (o : Option A) (x y : A) → o ≡ Some x → o ≡ Some y → x ≡ y
some-equal o x y p q = let h : Some x ≡ Some y = sym p ∙ q in cc h

-- what a note tells where it tells this, at the place where the entry stands
pub told-as : (sender : ActorId) (number range step again place : ℕ) (told copy : Reply) (there : Option Reply) (note : List (KnownEntry Event)) → again ≡ step → there ≡ Some told → there ≡ Some copy → note ≡ known_entry (evaluation step range sender number told) place 0 ∷ []
    → IsEvalNote sender number range again copy note
told-as sender number range step again place told copy there note at was is tells =
    let same = some-equal there told copy was is in record {
      place = place;
      tells = subst (λ n. note ≡ known_entry (evaluation n range sender number copy) place 0 ∷ []) (sym at) (subst (λ r. note ≡ known_entry (evaluation step range sender number r) place 0 ∷ []) same tells);
    }

-- the evaluation, by its copied reply
pub retold : (range : ℕ) (before after : CellMeaning) (sender : ActorId) (number : ℕ) (request : Request) (step again : ℕ) (told copy : Reply) (there : Option Reply) → again ≡ step → there ≡ Some told → there ≡ Some copy
    → StoresEvaluation range before after sender number request step told → StoresEvaluation range before after sender number request again copy
retold range before after sender number request step again told copy there at was is h =
    subst (λ n. StoresEvaluation range before after sender number request n copy) (sym at)
    (subst (λ r. StoresEvaluation range before after sender number request step r) (some-equal there told copy was is) h)

-- a note of no uses leaves the counts of uses as they were
pub gave-nothing : (part : Part Event) (place : ℕ) → gave place 0 part ≡ part
gave-nothing part place =
    let same : slice_set part.given place (slice_index part.given place + 0) ≡ part.given = rw add-zero (set-get_or part.given place 0) in
    ap (λ g. record part { given = g }) same

-- a note of the last entry of a range that has one
pub last-note : (range : ℕ) (head : Head) (part : Part Event) (state : RangeState) (place : ℕ) (note : List (KnownEntry Event)) → IsCell range head part state → 1 ≤ length part.own → place ≡ length (entries_of part.own) - 1 → note ≡ noted place 0 part
    → IsFullNote range (length part.own) note
last-note range head part state place note cell some at is =
    let long : length (entries_of part.own) ≡ length part.own = length-map part.own (λ (r : Pair Event). r.entry) in
    let within : place < length part.own = omega arith in
    elim (slice_get_cases part.own place).1 [
      | inl there ↦ record {
        entry = there.0.entry;
        place = place;
        tells = is ∙ noted-at (protocol head) part place 0 there.0 there.2;
        whose = All-contains (λ (q : Pair Event). q.entry.actor ≡ actors.Range range) part.own there.0 cell.whose (get_contains part.own place there.0 there.2);
        many = omega arith;
      }
      | inr none ↦ absurd (let out = none.0 in omega arith)
    ]

abbrev pub cell_of : Head → Part Event → CellMeaning
cell_of world part = record { world = world; part = part }

-- a note of no uses leaves its actor as it was
pub note-same : {A E : Type 0} (r : Result A E) (before after : ActorMeaning Head Event) (place : ℕ) → after ≡ record before { part = record before.part { given = after.part.given } }
    → OnOk r (after.part ≡ gave place 0 before.part) → OnErr r (after ≡ before) → ◌≡◌ {A = CellMeaning} (record { world = after.world; part = after.part }) (record { world = before.world; part = before.part })
note-same (Ok a) before after place same ok err =
    let world : after.world ≡ before.world = ap (λ (a : ActorMeaning Head Event). a.world) same in
    let part : after.part ≡ before.part = ok ∙ gave-nothing before.part place in
    subst (λ w. ◌≡◌ {A = CellMeaning} (record { world = w; part = after.part }) (record { world = before.world; part = before.part })) (sym world)
    (ap (λ (p : Part Event). cell_of before.world p) part)
note-same (Err e) before after place same ok err = ap (λ (a : ActorMeaning Head Event). cell_of a.world a.part) err
