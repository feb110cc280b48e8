-- What a range answered stays true in a run.
use Rattle.std.proofs.Common.{◌≡◌, ℕ, Bool, true, false, if◌then◌else◌, inl, inr, List, [], ◌∷◌, ◌++◌, Option, None, Some, refl, sym, ap, subst, ◌∙◌}
use Rattle.std.proofs.lemmas.List.{append_assoc}
use Rattle.pc_base.specs.declared.actor.ActorId.{ActorId}
use Rattle.pc_base.specs.declared.actor.ActorId.TheVariants as actors
use Rattle.pc_base.specs.declared.entry.Entry.{Entry}
use Rattle.pc_base.specs.declared.transaction.TxnId.{TxnId}
use Rattle.pc_history.specs.History.{MayFollow}
use Rattle.pc_history.specs.Own.{named_in, own}
use Rattle.pc_implicit.proofs.Bounds.{bound_goes_on}
use Rattle.pc_implicit.proofs.Evals.{NamedMessage}
use Rattle.pc_implicit.proofs.Lift.{over}
use Rattle.pc_implicit.proofs.Staged.{Leaves, past-differs, staging_goes_on}
use Rattle.pc_implicit.proofs.Views.{Stands, places_go_on, reply-view, true-on, view-true}
use Rattle.pc_implicit.specs.Answers.{Agree, Answers}
use Rattle.pc_implicit.specs.Decided.{BoundStands, IsNotBelow, StaysTrue, decision}
use Rattle.pc_proto.specs.declared.event.Event.{Event}
use Rattle.pc_proto.specs.declared.event.Event.TheVariants as events
use Rattle.pc_proto.specs.declared.record.Standing.TheVariants as standings
use Rattle.pc_proto.specs.declared.record.Status.{Status}
use Rattle.pc_proto.specs.declared.reply.Reply.{Reply}
use Rattle.pc_proto.specs.declared.request.Request.{Request}
use Rattle.pc_proto.specs.declared.view.View.{View}
use Rattle.pc_proto.specs.declared.view.View.TheVariants as views
use Rattle.pc_proto.specs.Place.{Place, Nothing, Kept, Marked, is_final, status_view, view_of}
use Rattle.pc_proto.specs.RecordRows.Reached.{is_staged_at, status_of}
use Rattle.pc_proto.specs.Replies.{view_in}
use Rattle.pc_proto.specs.Table.{place_of}
use Rattle.pc_proto.specs.Views.{is_final_view}
use Rattle.pc_world.proofs.Knowing.{state_same}
use Rattle.pc_world.proofs.Prefixes.{run_front, run_may}
use Rattle.pc_world.specs.After.{place_at, state_at}
use Rattle.pc_world.specs.Evaluation.{reply, state_after}
use Rattle.pc_world.specs.Known.Traffic.{reply_in}
use Rattle.pc_world.specs.Local.{Head, IsAnswer, MayComeNext, MayEvaluate}
use Rattle.pc_world.specs.Named.{request_in, request_named}
use Rattle.pc_world.specs.RangeState.{RangeState}
use Rattle.pc_world.specs.Run.{IsRun, protocol}
use Rattle.pc_world.specs.StateOf.{state_with}

pub decisions_stand : (head : Head) (range : ℕ) (id : TxnId) (front back : List (Entry Event)) (s : Status) → decision (place_at head range id front) ≡ Some s → decision (place_at head range id (front ++ back)) ≡ Some s
decisions_stand head range id front back s h = (over _ (places_go_on id) head range front back).decided s h

pub nothing_falls : (head : Head) (range : ℕ) (id : TxnId) (front back : List (Entry Event)) → IsNotBelow (place_at head range id front) (place_at head range id (front ++ back))
nothing_falls head range id front back = (over _ (places_go_on id) head range front back).rises

pub bounds_stand : (head : Head) (range : ℕ) (front back : List (Entry Event)) → BoundStands (state_at head range front).bound (state_at head range (front ++ back)).bound
bounds_stand head range front back = over _ bound_goes_on head range front back

pub left_stagings_stay_away : (head : Head) (range : ℕ) (id : TxnId) (front middle back : List (Entry Event)) (epoch ts : ℕ)
    → is_staged_at (place_at head range id front) epoch ts ≡ true → is_staged_at (place_at head range id (front ++ middle)) epoch ts ≡ false
    → is_staged_at (place_at head range id (front ++ middle ++ back)) epoch ts ≡ false
left_stagings_stay_away head range id front middle back epoch ts staged left =
    let first : Leaves epoch ts (place_at head range id front) (place_at head range id (front ++ middle)) = over _ (staging_goes_on epoch ts id) head range front middle in
    let second : Leaves epoch ts (place_at head range id (front ++ middle)) (place_at head range id (front ++ middle ++ back)) = over _ (staging_goes_on epoch ts id) head range (front ++ middle) back in
    elim (first.staged staged) [
      | inl still ↦ absurd cc
      | inr past ↦ past-differs epoch ts (place_at head range id (front ++ middle ++ back)) (second.past past)
    ]

told-is : (event : Event) (named : Option (Entry Event)) (s : RangeState) (request : Request) (told : Reply) → request_named named ≡ Some request → reply_in event ≡ Some told → MayEvaluate s event named → told ≡ reply request s
told-is (events.Eval sender number answered) named s request told asked is may =
    let same : answered ≡ told = cc in
    let answer : IsAnswer (Some request) s answered = subst (λ o. IsAnswer o s answered) asked may in
    sym same ∙ answer
told-is event named s request told asked is may = absurd cc

-- an evaluation answers as the range's state and its message say
pub reply_is : (head : Head) (history : List (Entry Event)) (e : Entry Event) (actor : ActorId) (number : ℕ) (told : Reply) → MayFollow (protocol head) history e → e.event ≡ events.Eval actor number told
    → (ev : NamedMessage head history e.actor actor number told) → told ≡ reply ev.request (state_at head ev.range history)
reply_is head history e actor number told may is ev =
    let named = named_in (protocol head) history e.event in
    let next : MayEvaluate (state_at head ev.range history) e.event named = subst (λ a. MayComeNext head a (own (protocol head) a history) e.event named) ev.there may.local.next in
    told-is e.event named (state_at head ev.range history) ev.request told
    (ap request_named (ap (named_in (protocol head) history) is ∙ ev.named) ∙ ap request_in ev.sends) (ap reply_in is) next

-- an answer shows the place as it is after it
pub answered : (head : Head) (range : ℕ) (id : TxnId) (view : View) (before : List (Entry Event)) (e : Entry Event) → MayFollow (protocol head) before e → Answers head before range id view e → view ≡ view_of (place_at head range id (before ++ e ∷ []))
answered head range id view before e may a =
    let named = named_in (protocol head) before e.event in
    let next : MayEvaluate (state_at head range before) e.event named = subst (λ actor. MayComeNext head actor (own (protocol head) actor before) e.event named) a.evaluated may.local.next in
    let told : a.reply ≡ reply a.request (state_at head range before) = told-is e.event named (state_at head range before) a.request a.reply a.asked a.told next in
    let shown : view_in (reply a.request (state_at head range before)) ≡ Some view = subst (λ r. view_in r ≡ Some view) told a.shown in
    let after : state_at head range (before ++ e ∷ []) ≡ state_after a.request (state_at head range before) =
    state_same head (actors.Range range) before e a.evaluated ∙ ap (λ o. state_with o (state_at head range before)) a.asked in
    reply-view a.request (state_at head range before) id view a.about shown ∙ ap (λ (s : RangeState). view_of (place_of id s.table)) (sym after)

pub views_stay_true : (head : Head) (range : ℕ) (id : TxnId) (view : View) (before : List (Entry Event)) (e : Entry Event) (later : List (Entry Event))
    → IsRun head (before ++ e ∷ later) → Answers head before range id view e → StaysTrue view (place_at head range id (before ++ e ∷ later))
views_stay_true head range id view before e later run a =
    let now = before ++ e ∷ [] in
    let p = place_at head range id now in
    let is : view ≡ view_of p = answered head range id view before e (run_may head before e later run) a in
    let here : StaysTrue view p = subst (λ v. StaysTrue v p) (sym is) (view-true p) in
    let stands : Stands p (place_at head range id (now ++ later)) = over _ (places_go_on id) head range now later in
    subst (λ h. StaysTrue view (place_at head range id h)) (append_assoc before (e ∷ []) later) (true-on view p (place_at head range id (now ++ later)) here stands)

-- the status that is kept where it is final
pub kept-status : (b : Bool) (s t : Status) → (if b then Some s else None) ≡ Some t → s ≡ t
kept-status true s t h = cc
kept-status false s t h = absurd cc

Shows : View → Status → List (List ℕ × ℕ) → List (List ℕ) → Type 0
Shows one s writes locks = (is_final_view (status_view s.standing s.epoch s.ts writes locks) ≡ true) × Agree one (status_view s.standing s.epoch s.ts writes locks)

decided-shows : (one : View) (q : Place) (s : Status) → decision q ≡ Some s → ((writes : List (List ℕ × ℕ)) (locks : List (List ℕ)) → Shows one s writes locks) → (is_final_view (view_of q) ≡ true) × Agree one (view_of q)
unfolding Shows
decided-shows one Nothing s h on = absurd cc
decided-shows one (Kept r) s h on = subst (λ t. Shows one t r.writes r.locks) (sym (kept-status (is_final r.status.standing) r.status s h)) (on r.writes r.locks)
decided-shows one (Marked t) s h on = let same : t ≡ s = cc in subst (λ t. Shows one t [] []) (sym same) (on [] [])

final-agree : (one : View) (q : Place) → is_final_view one ≡ true → StaysTrue one q → (is_final_view (view_of q) ≡ true) × Agree one (view_of q)
unfolding Shows
final-agree (views.Committed epoch ts locks) q f h = decided-shows (views.Committed epoch ts locks) q (status_of standings.Committed epoch ts) h (λ writes locks. (refl, (refl, refl)))
final-agree (views.Aborted epoch why locks) q f h = decided-shows (views.Aborted epoch why locks) q (status_of (standings.Aborted why) epoch h.0) h.1 (λ writes locks. (refl, (refl, refl)))
final-agree one q f h = absurd cc

pub final_views_stay : (head : Head) (range : ℕ) (id : TxnId) (one other : View) (before : List (Entry Event)) (e : Entry Event) (between : List (Entry Event)) (f : Entry Event) (later : List (Entry Event))
    → IsRun head (before ++ e ∷ between ++ f ∷ later) → Answers head before range id one e → Answers head (before ++ e ∷ between) range id other f
    → is_final_view one ≡ true → (is_final_view other ≡ true) × Agree one other
final_views_stay head range id one other before e between f later run a b final =
    let first = before ++ e ∷ between in
    let now = first ++ f ∷ [] in
    let q = place_at head range id now in
    let is : other ≡ view_of q = answered head range id other first f (run_may head first f later run) b in
    let until : IsRun head now = run_front head now later (subst (λ h. IsRun head h) (sym (append_assoc first (f ∷ []) later)) run) in
    let joined : now ≡ before ++ e ∷ (between ++ f ∷ []) = append_assoc before (e ∷ between) (f ∷ []) in
    let whole : StaysTrue one (place_at head range id (before ++ e ∷ (between ++ f ∷ []))) =
    views_stay_true head range id one before e (between ++ f ∷ []) (subst (λ h. IsRun head h) joined until) a in
    let still : StaysTrue one q = subst (λ h. StaysTrue one (place_at head range id h)) (sym joined) whole in
    subst (λ v. (is_final_view v ≡ true) × Agree one v) (sym is) (final-agree one q final still)
