-- What is kept decides which entry may come next, and is kept when that one is taken.
use Rattle.std.proofs.Common.{◌≡◌, ◌≢◌, ◌↔◌, ℕ, ◌^◌, ◌≤◌, Bool, IsTrue, IfOk, OnOk, Result, Ok, Err, List, [], ◌∷◌, ◌++◌, length, Option, None, Some, slice_get, refl, sym, ap, subst, ◌∙◌, arith, inl, inr}
use Rattle.std.proofs.lemmas.Bool.{cases_eq}
use Rattle.std.proofs.lemmas.Option.{slice_get_within}
use Rattle.std.specs.BTreeMap.{get}
use Rattle.std.specs.Ordering.{nat_cmp}
use Rattle.pc_base.specs.declared.actor.ActorId.{ActorId}
use Rattle.pc_base.specs.declared.actor.ActorId.TheVariants as actors
use Rattle.pc_base.specs.declared.entry.Entry.{Entry}
use Rattle.pc_check.specs.FirstBroken.{head_with}
use Rattle.pc_check.specs.Judging.{IsNextFor, MayComeAfter}
use Rattle.pc_history.specs.Own.{named_in, own, pair}
use Rattle.pc_judge.specs.declared.actors.Actors.{Actors}
use Rattle.pc_judge.specs.Keeping.{IsKeptOf, KeepsActors, KeepsClient}
use Rattle.pc_proto.specs.declared.event.Event.{Event}
use Rattle.pc_proto.specs.declared.request.Request.{Request}
use Rattle.pc_report.proofs.Following.{same_states, states_next}
use Rattle.pc_report.proofs.Naming.{asked_there}
use Rattle.pc_report.specs.Replaying.{AreStates, HasRoomFor, asked_in, over, states_after}
use Rattle.pc_world.proofs.Kept.{run_has_room}
use Rattle.pc_world.proofs.Knowing.{known_other, known_same}
use Rattle.pc_world.specs.After.{known_at, state_at}
use Rattle.pc_world.specs.Known.{Known, learn}
use Rattle.pc_world.specs.Local.{Head, IsActorOf, IsLocal, MayDo, MayEvaluate}
use Rattle.pc_world.specs.Named.{request_named}
use Rattle.pc_world.specs.RangeState.{RangeState}
use Rattle.pc_world.specs.Run.{IsRun, protocol}
use Rattle.pc_world.specs.Stamps.{HasRoom}

-- ---- what may come next

module _ (head : Head) (before : List (Entry Event)) (e : Entry Event) (b : Bool) (there : IsActorOf head e.actor) where
  -- The entry may come next, were it this actor's.
  abbrev MayComeOf : ActorId → Type 0
  MayComeOf actor = IsLocal head actor (own (protocol head) actor before) e.event (named_in (protocol head) before e.event)

  pub range_may : (range : ℕ) → e.actor ≡ actors.Range range → IsTrue b ↔ MayEvaluate (state_at head range before) e.event (named_in (protocol head) before e.event) → IsTrue b ↔ MayComeAfter head before e
  range_may range is same =
      subst (λ a. IsTrue b ↔ MayComeOf a) (sym is) (λ t. record { there = subst (IsActorOf head) is there; next = same.0 t }, λ l. same.1 l.next)

  pub session_may : (number : ℕ) → e.actor ≡ actors.Session number → IsTrue b ↔ MayDo head e.actor (known_at head e.actor before) e.event → IsTrue b ↔ MayComeAfter head before e
  session_may number is same =
      let here = subst (λ a. IsTrue b ↔ MayDo head a (known_at head a before) e.event) is same in
      subst (λ a. IsTrue b ↔ MayComeOf a) (sym is) (λ t. record { there = subst (IsActorOf head) is there; next = here.0 t }, λ l. here.1 l.next)

  pub recoverer_may : (number : ℕ) → e.actor ≡ actors.Recoverer number → IsTrue b ↔ MayDo head e.actor (known_at head e.actor before) e.event → IsTrue b ↔ MayComeAfter head before e
  recoverer_may number is same =
      let here = subst (λ a. IsTrue b ↔ MayDo head a (known_at head a before) e.event) is same in
      subst (λ a. IsTrue b ↔ MayComeOf a) (sym is) (λ t. record { there = subst (IsActorOf head) is there; next = here.0 t }, λ l. here.1 l.next)

-- ---- ranges

module _ (head : Head) (before : List (Entry Event)) (states : List RangeState) (kept : AreStates head.splits before states) where
  -- the state that is kept of a range
  pub state_kept : (range : ℕ) → IsActorOf head (actors.Range range) → slice_get states range ≡ Some (state_at head range before)
  state_kept range there = kept.each range there ∙ ap Some (same_states (over head.splits) head range before)

  -- there is room for what the event evaluates
  pub room : (event : Event) (range : ℕ) → IsRun head before → length before ≤ 2 ^ 64 → HasRoomFor states (actors.Range range) (asked_in before event)
  room event range run short = by (asked_in before event) refl
    where
      by : (asked : Option Request) → asked_in before event ≡ asked → HasRoomFor states (actors.Range range) asked
      by (Some request) q = λ s at.
          let within = slice_get_within states range s at in
          let le : IsActorOf head (actors.Range range) = omega (arith, kept.count) in
          let is : state_at head range before ≡ s = let both : Some (state_at head range before) ≡ Some s = sym (state_kept range le) ∙ at in cc in
          let there = asked_there before event request q in
          subst (HasRoom request) is (run_has_room head (actors.Range range) before there.0 request run short there.1 there.2)
      by None q = tt

-- ---- what is kept, one entry further

module _ {C : Type 0} (keeps : Head → ActorId → Known → C → Type 0) (head : Head) (before : List (Entry Event)) (e : Entry Event) where
  -- what is kept of another actor stays
  stays : (actor : ActorId) (client : Option C) → e.actor ≢ actor → KeepsClient keeps head actor (known_at head actor before) client → KeepsClient keeps head actor (known_at head actor (before ++ e ∷ [])) client
  stays actor client differ kept = subst (λ k. KeepsClient keeps head actor k client) (sym (known_other head actor before e differ)) kept

  -- and what is kept of the entry's actor has learnt it
  learns : (actor : ActorId) (client : Option C) → e.actor ≡ actor → KeepsClient keeps head actor (learn (pair e (named_in (protocol head) before e.event)) (known_at head actor before)) client → KeepsClient keeps head actor (known_at head actor (before ++ e ∷ [])) client
  learns actor client same kept = subst (λ k. KeepsClient keeps head actor k client) (sym (known_same head actor before e same)) kept

  -- the ranges' states after an entry of another actor
  still : (states : List RangeState) → AreStates head.splits before states → ((range : ℕ) → e.actor ≢ actors.Range range) → AreStates head.splits (before ++ e ∷ []) states
  still states kept apart = by e.actor refl (states_next head.splits before e states kept)
    where
      by : (actor : ActorId) → e.actor ≡ actor → AreStates head.splits (before ++ e ∷ []) (states_after states actor (asked_in before e.event)) → AreStates head.splits (before ++ e ∷ []) states
      by (actors.Range range) is next = absurd (apart range is)
      by (actors.Session number) is next = next
      by (actors.Recoverer number) is next = next

  module _ (old new : Actors C) (kept : KeepsActors keeps head before old) (cut : head_with new.splits.now new.sessions new.recoverers ≡ head_with old.splits.now old.sessions old.recoverers) where
    pub range_taken : (range : ℕ) → e.actor ≡ actors.Range range → new.ranges.items ≡ states_after old.ranges.items (actors.Range range) (asked_in before e.event)
        → new.session_clients ≡ old.session_clients → new.recoverer_clients ≡ old.recoverer_clients → KeepsActors keeps head (before ++ e ∷ []) new
    range_taken range is ranges sessions recoverers =
        let states : new.ranges.items ≡ states_after old.ranges.items e.actor (asked_in before e.event) = ranges ∙ ap (λ a. states_after old.ranges.items a (asked_in before e.event)) (sym is) in
        record {
          same = kept.same ∙ sym cut;
          ranges = subst (AreStates head.splits (before ++ e ∷ [])) (sym states) (states_next head.splits before e old.ranges.items kept.ranges);
          sessions = λ number.
              subst (λ table. KeepsClient keeps head (actors.Session number) (known_at head (actors.Session number) (before ++ e ∷ [])) (get nat_cmp table number)) (sym sessions)
              (stays (actors.Session number) (get nat_cmp old.session_clients number) (λ same. absurd cc) (kept.sessions number));
          recoverers = λ number.
              subst (λ table. KeepsClient keeps head (actors.Recoverer number) (known_at head (actors.Recoverer number) (before ++ e ∷ [])) (get nat_cmp table number)) (sym recoverers)
              (stays (actors.Recoverer number) (get nat_cmp old.recoverer_clients number) (λ same. absurd cc) (kept.recoverers number));
        }

    pub session_taken : (mine : ℕ) → e.actor ≡ actors.Session mine → new.ranges.items ≡ old.ranges.items → new.recoverer_clients ≡ old.recoverer_clients
        → KeepsClient keeps head e.actor (learn (pair e (named_in (protocol head) before e.event)) (known_at head e.actor before)) (get nat_cmp new.session_clients mine)
        → ((other : ℕ) → other ≢ mine → get nat_cmp new.session_clients other ≡ get nat_cmp old.session_clients other) → KeepsActors keeps head (before ++ e ∷ []) new
    session_taken mine is ranges recoverers taken others = record {
      same = kept.same ∙ sym cut;
      ranges = subst (AreStates head.splits (before ++ e ∷ [])) (sym ranges) (still old.ranges.items kept.ranges (λ range same. absurd cc));
      sessions = λ number. elim (cases_eq number mine) [
        | inl same ↦
            let here : e.actor ≡ actors.Session number = is ∙ ap actors.Session (sym same) in
            let there = subst (λ n. KeepsClient keeps head e.actor (learn (pair e (named_in (protocol head) before e.event)) (known_at head e.actor before)) (get nat_cmp new.session_clients n)) (sym same) taken in
            learns (actors.Session number) (get nat_cmp new.session_clients number) here
            (subst (λ a. KeepsClient keeps head a (learn (pair e (named_in (protocol head) before e.event)) (known_at head a before)) (get nat_cmp new.session_clients number)) here there)
        | inr differ ↦
            subst (KeepsClient keeps head (actors.Session number) (known_at head (actors.Session number) (before ++ e ∷ []))) (sym (others number differ))
            (stays (actors.Session number) (get nat_cmp old.session_clients number) (λ same. differ (let both : actors.Session mine ≡ actors.Session number = sym is ∙ same in let n : number ≡ mine = cc in n)) (kept.sessions number))
      ];
      recoverers = λ number.
          subst (λ table. KeepsClient keeps head (actors.Recoverer number) (known_at head (actors.Recoverer number) (before ++ e ∷ [])) (get nat_cmp table number)) (sym recoverers)
          (stays (actors.Recoverer number) (get nat_cmp old.recoverer_clients number) (λ same. absurd cc) (kept.recoverers number));
    }

    pub recoverer_taken : (mine : ℕ) → e.actor ≡ actors.Recoverer mine → new.ranges.items ≡ old.ranges.items → new.session_clients ≡ old.session_clients
        → KeepsClient keeps head e.actor (learn (pair e (named_in (protocol head) before e.event)) (known_at head e.actor before)) (get nat_cmp new.recoverer_clients mine)
        → ((other : ℕ) → other ≢ mine → get nat_cmp new.recoverer_clients other ≡ get nat_cmp old.recoverer_clients other) → KeepsActors keeps head (before ++ e ∷ []) new
    recoverer_taken mine is ranges sessions taken others = record {
      same = kept.same ∙ sym cut;
      ranges = subst (AreStates head.splits (before ++ e ∷ [])) (sym ranges) (still old.ranges.items kept.ranges (λ range same. absurd cc));
      recoverers = λ number. elim (cases_eq number mine) [
        | inl same ↦
            let here : e.actor ≡ actors.Recoverer number = is ∙ ap actors.Recoverer (sym same) in
            let there = subst (λ n. KeepsClient keeps head e.actor (learn (pair e (named_in (protocol head) before e.event)) (known_at head e.actor before)) (get nat_cmp new.recoverer_clients n)) (sym same) taken in
            learns (actors.Recoverer number) (get nat_cmp new.recoverer_clients number) here
            (subst (λ a. KeepsClient keeps head a (learn (pair e (named_in (protocol head) before e.event)) (known_at head a before)) (get nat_cmp new.recoverer_clients number)) here there)
        | inr differ ↦
            subst (KeepsClient keeps head (actors.Recoverer number) (known_at head (actors.Recoverer number) (before ++ e ∷ []))) (sym (others number differ))
            (stays (actors.Recoverer number) (get nat_cmp old.recoverer_clients number) (λ same. differ (let both : actors.Recoverer mine ≡ actors.Recoverer number = sym is ∙ same in let n : number ≡ mine = cc in n)) (kept.recoverers number))
      ];
      sessions = λ number.
          subst (λ table. KeepsClient keeps head (actors.Session number) (known_at head (actors.Session number) (before ++ e ∷ [])) (get nat_cmp table number)) (sym sessions)
          (stays (actors.Session number) (get nat_cmp old.session_clients number) (λ same. absurd cc) (kept.sessions number));
    }

-- ---- what is said of the next entry

module _ {C : Type 0} (keeps : Head → ActorId → Known → C → Type 0) (before : List (Entry Event)) (e : Entry Event) (a : Actors C) (next : IsNextFor (KeepsActors keeps) a before e) where
  -- The head that is kept is the one of which the entries are a run.
  same_head : (head : Head) → KeepsActors keeps head before a → next.head ≡ head
  same_head head kept = next.kept.same ∙ sym kept.same

  there_in : (head : Head) → KeepsActors keeps head before a → IsActorOf head e.actor
  there_in head kept = subst (λ h. IsActorOf h e.actor) (same_head head kept) next.there

  -- What was said of a range's state is said of the entry.
  pub range_said : {E : Type 0} (range : ℕ) (named : Option (Entry Event)) (r : Result Bool E) → e.actor ≡ actors.Range range → ((head : Head) → IsRun head before → named ≡ named_in (protocol head) before e.event)
      → IfOk r (λ may. (s : RangeState) → slice_get a.ranges.items range ≡ Some s → IsTrue may ↔ MayEvaluate s e.event named)
      → IfOk r (λ may. (head : Head) → KeepsActors keeps head before a → IsTrue may ↔ MayComeAfter head before e)
  range_said range named (Ok may) is names said = λ head kept.
      let there = there_in head kept in
      let here = said (state_at head range before) (state_kept head before a.ranges.items kept.ranges range (subst (IsActorOf head) is there)) in
      range_may head before e may there range is (subst (λ o. IsTrue may ↔ MayEvaluate (state_at head range before) e.event o) (names next.head next.run) here)
  range_said range named (Err error) is names said = tt

  pub session_said : {E : Type 0} (number : ℕ) (r : Result Bool E) → e.actor ≡ actors.Session number
      → IfOk r (λ may. (head : Head) (k : Known) → head.splits ≡ a.splits.now → KeepsClient keeps head e.actor k (get nat_cmp a.session_clients number) → IsTrue may ↔ MayDo head e.actor k e.event)
      → IfOk r (λ may. (head : Head) → KeepsActors keeps head before a → IsTrue may ↔ MayComeAfter head before e)
  session_said number (Ok may) is said = λ head kept.
      let mine = subst (λ x. KeepsClient keeps head x (known_at head x before) (get nat_cmp a.session_clients number)) (sym is) (kept.sessions number) in
      session_may head before e may (there_in head kept) number is (said head (known_at head e.actor before) (ap (λ h. h.splits) kept.same) mine)
  session_said number (Err error) is said = tt

  pub recoverer_said : {E : Type 0} (number : ℕ) (r : Result Bool E) → e.actor ≡ actors.Recoverer number
      → IfOk r (λ may. (head : Head) (k : Known) → head.splits ≡ a.splits.now → KeepsClient keeps head e.actor k (get nat_cmp a.recoverer_clients number) → IsTrue may ↔ MayDo head e.actor k e.event)
      → IfOk r (λ may. (head : Head) → KeepsActors keeps head before a → IsTrue may ↔ MayComeAfter head before e)
  recoverer_said number (Ok may) is said = λ head kept.
      let mine = subst (λ x. KeepsClient keeps head x (known_at head x before) (get nat_cmp a.recoverer_clients number)) (sym is) (kept.recoverers number) in
      recoverer_may head before e may (there_in head kept) number is (said head (known_at head e.actor before) (ap (λ h. h.splits) kept.same) mine)
  recoverer_said number (Err error) is said = tt

  -- The clause of a judge, from what was said.
  pub may_clause : {E : Type 0} (r : Result Bool E) → IfOk r (λ may. (head : Head) → KeepsActors keeps head before a → IsTrue may ↔ MayComeAfter head before e)
      → IfOk r (λ may. (head : Head) → KeepsActors keeps head before a → IsNextFor (KeepsActors keeps) a before e → IsTrue may ↔ MayComeAfter head before e)
  may_clause (Ok may) said = λ head kept more. said head kept
  may_clause (Err error) said = tt

  -- What a session or recoverer is kept of, for the call.
  pub session_kept : (number : ℕ) → e.actor ≡ actors.Session number → IsKeptOf keeps a.splits.now e.actor (get nat_cmp a.session_clients number)
  session_kept number is = record {
    head = next.head;
    known = known_at next.head e.actor before;
    cut = ap (λ h. h.splits) next.kept.same;
    kept = subst (λ x. KeepsClient keeps next.head x (known_at next.head x before) (get nat_cmp a.session_clients number)) (sym is) (next.kept.sessions number);
  }

  pub recoverer_kept : (number : ℕ) → e.actor ≡ actors.Recoverer number → IsKeptOf keeps a.splits.now e.actor (get nat_cmp a.recoverer_clients number)
  recoverer_kept number is = record {
    head = next.head;
    known = known_at next.head e.actor before;
    cut = ap (λ h. h.splits) next.kept.same;
    kept = subst (λ x. KeepsClient keeps next.head x (known_at next.head x before) (get nat_cmp a.recoverer_clients number)) (sym is) (next.kept.recoverers number);
  }

  module _ (new : Actors C) (cut : head_with new.splits.now new.sessions new.recoverers ≡ head_with a.splits.now a.sessions a.recoverers) where
    pub range_after : {E : Type 0} (range : ℕ) (named : Option (Entry Event)) (r : Result Bool E) → e.actor ≡ actors.Range range → ((head : Head) → IsRun head before → named ≡ named_in (protocol head) before e.event)
        → IfOk r (λ may. (head : Head) → KeepsActors keeps head before a → IsTrue may ↔ MayComeAfter head before e)
        → IfOk r (λ may. IsTrue may → new.ranges.items ≡ states_after a.ranges.items (actors.Range range) (request_named named))
        → new.session_clients ≡ a.session_clients → new.recoverer_clients ≡ a.recoverer_clients
        → (head : Head) → KeepsActors keeps head before a → MayComeAfter head before e → OnOk r (KeepsActors keeps head (before ++ e ∷ []) new)
    range_after range named (Ok may) is names said after sessions recoverers = λ head kept comes.
        range_taken keeps head before e a new kept cut range is
        (after ((said head kept).1 comes) ∙ ap (λ o. states_after a.ranges.items (actors.Range range) (request_named o)) (names next.head next.run))
        sessions recoverers
    range_after range named (Err error) is names said after sessions recoverers = λ head kept comes. tt

    pub session_after : {E : Type 0} (number : ℕ) (named : Option (Entry Event)) (r : Result Bool E) → e.actor ≡ actors.Session number → ((head : Head) → IsRun head before → named ≡ named_in (protocol head) before e.event)
        → IfOk r (λ may. (head : Head) → KeepsActors keeps head before a → IsTrue may ↔ MayComeAfter head before e)
        → IfOk r (λ may. IsTrue may → (head : Head) (k : Known) → head.splits ≡ a.splits.now → KeepsClient keeps head e.actor k (get nat_cmp a.session_clients number) → KeepsClient keeps head e.actor (learn (pair e named) k) (get nat_cmp new.session_clients number))
        → OnOk r ((other : ℕ) → other ≢ number → get nat_cmp new.session_clients other ≡ get nat_cmp a.session_clients other)
        → new.ranges ≡ a.ranges → new.recoverer_clients ≡ a.recoverer_clients
        → (head : Head) → KeepsActors keeps head before a → MayComeAfter head before e → OnOk r (KeepsActors keeps head (before ++ e ∷ []) new)
    session_after number named (Ok may) is names said after others ranges recoverers = λ head kept comes.
        let mine = subst (λ x. KeepsClient keeps head x (known_at head x before) (get nat_cmp a.session_clients number)) (sym is) (kept.sessions number) in
        let taken = after ((said head kept).1 comes) head (known_at head e.actor before) (ap (λ h. h.splits) kept.same) mine in
        session_taken keeps head before e a new kept cut number is (ap (λ v. v.items) ranges) recoverers
        (subst (λ o. KeepsClient keeps head e.actor (learn (pair e o) (known_at head e.actor before)) (get nat_cmp new.session_clients number)) (names next.head next.run) taken) others
    session_after number named (Err error) is names said after others ranges recoverers = λ head kept comes. tt

    pub recoverer_after : {E : Type 0} (number : ℕ) (named : Option (Entry Event)) (r : Result Bool E) → e.actor ≡ actors.Recoverer number → ((head : Head) → IsRun head before → named ≡ named_in (protocol head) before e.event)
        → IfOk r (λ may. (head : Head) → KeepsActors keeps head before a → IsTrue may ↔ MayComeAfter head before e)
        → IfOk r (λ may. IsTrue may → (head : Head) (k : Known) → head.splits ≡ a.splits.now → KeepsClient keeps head e.actor k (get nat_cmp a.recoverer_clients number) → KeepsClient keeps head e.actor (learn (pair e named) k) (get nat_cmp new.recoverer_clients number))
        → OnOk r ((other : ℕ) → other ≢ number → get nat_cmp new.recoverer_clients other ≡ get nat_cmp a.recoverer_clients other)
        → new.ranges ≡ a.ranges → new.session_clients ≡ a.session_clients
        → (head : Head) → KeepsActors keeps head before a → MayComeAfter head before e → OnOk r (KeepsActors keeps head (before ++ e ∷ []) new)
    recoverer_after number named (Ok may) is names said after others ranges sessions = λ head kept comes.
        let mine = subst (λ x. KeepsClient keeps head x (known_at head x before) (get nat_cmp a.recoverer_clients number)) (sym is) (kept.recoverers number) in
        let taken = after ((said head kept).1 comes) head (known_at head e.actor before) (ap (λ h. h.splits) kept.same) mine in
        recoverer_taken keeps head before e a new kept cut number is (ap (λ v. v.items) ranges) sessions
        (subst (λ o. KeepsClient keeps head e.actor (learn (pair e o) (known_at head e.actor before)) (get nat_cmp new.recoverer_clients number)) (names next.head next.run) taken) others
    recoverer_after number named (Err error) is names said after others ranges sessions = λ head kept comes. tt
