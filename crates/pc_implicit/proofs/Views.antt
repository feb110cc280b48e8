-- A view that a range answered stays true of it.
use Rattle.std.proofs.Common.{◌≡◌, ℕ, Bool, true, false, if◌then◌else◌, List, [], Option, None, Some, refl, sym, ap, subst, ◌∙◌, arith}
use Rattle.std.specs.Option.{option_map_or}
use Rattle.pc_base.specs.declared.transaction.TxnId.{TxnId}
use Rattle.pc_base.specs.Transaction.{same_txn}
use Rattle.pc_implicit.proofs.Lift.{GoesOn}
use Rattle.pc_implicit.proofs.Places.{at_place, place_after}
use Rattle.pc_implicit.proofs.Rows.{decision-row, not-below-itself, rises-row}
use Rattle.pc_implicit.specs.Decided.{HasReached, IsNotBelow, StaysTrue, decision}
use Rattle.pc_lists.proofs.Same.{same_txn-is}
use Rattle.pc_proto.specs.declared.record.Record.{Record}
use Rattle.pc_proto.specs.declared.record.Standing.{Standing}
use Rattle.pc_proto.specs.declared.record.Standing.TheVariants as standings
use Rattle.pc_proto.specs.declared.record.Status.{Status}
use Rattle.pc_proto.specs.declared.reply.Reply.TheVariants as replies
use Rattle.pc_proto.specs.declared.request.Request.{Request}
use Rattle.pc_proto.specs.declared.request.Request.TheVariants as requests
use Rattle.pc_proto.specs.declared.view.View.{View}
use Rattle.pc_proto.specs.declared.view.View.TheVariants as views
use Rattle.pc_proto.specs.Place.{Place, Nothing, Kept, Marked, Change, Finish, Stay, after, is_decided, is_final, status_view, view_of}
use Rattle.pc_proto.specs.RecordRows.{answer, place_change, push_reply}
use Rattle.pc_proto.specs.RecordRows.Push.{Verdict, There, Refuse, Doubt, Do, on_verdict, push_verdict, pushed}
use Rattle.pc_proto.specs.RecordRows.Reached.{status_of}
use Rattle.pc_proto.specs.RecordRows.Remove.{remove}
use Rattle.pc_proto.specs.Replies.{view_in}
use Rattle.pc_proto.specs.Requests.{subject}
use Rattle.pc_proto.specs.Table.{Table, applied_to, place_of}
use Rattle.pc_world.specs.Evaluation.{reply, state_after}
use Rattle.pc_world.specs.RangeState.{RangeState}

-- The decision stands, and neither the epoch nor the timestamp falls.
pub record Stands (p q : Place) : Type 0 where
  pub decided : (s : Status) → decision p ≡ Some s → decision q ≡ Some s
  pub rises : IsNotBelow p q

pub stands-itself : (p : Place) → Stands p p
stands-itself p = record { decided = λ s h. h; rises = not-below-itself p }

pub stands-on : (p q r : Place) → Stands p q → Stands q r → Stands p r
stands-on p q r h k = record {
  decided = λ s e. k.decided s (h.decided s e);
  rises = record { epoch = omega (arith, h.rises.epoch, k.rises.epoch); ts = omega (arith, h.rises.ts, k.rises.ts) };
}

pub places_go_on : (id : TxnId) → GoesOn (λ s t. Stands (place_of id s.table) (place_of id t.table))
places_go_on id = record {
  same = λ s. stands-itself (place_of id s.table);
  on = λ s t u. stands-on (place_of id s.table) (place_of id t.table) (place_of id u.table);
  step = λ request s. at_place Stands stands-itself (λ request p. record { decided = λ s. decision-row s request p; rises = rises-row request p }) id request s.table;
}

reached-on : (epoch ts : ℕ) (p q : Place) → HasReached epoch ts p → Stands p q → HasReached epoch ts q
reached-on epoch ts p q h k = record { epoch_reached = omega (arith, h.epoch_reached, k.rises.epoch); ts_reached = omega (arith, h.ts_reached, k.rises.ts) }

-- a view that is true of a place is true of one at which it stands
pub true-on : (view : View) (p q : Place) → StaysTrue view p → Stands p q → StaysTrue view q
true-on views.Nothing p q h k = tt
true-on (views.Pending epoch ts) p q h k = reached-on epoch ts p q h k
true-on (views.Staging epoch ts writes) p q h k = reached-on epoch ts p q h k
true-on (views.Committed epoch ts locks) p q h k = k.decided (status_of standings.Committed epoch ts) h
true-on (views.Aborted epoch why locks) p q h k = (h.0, k.decided (status_of (standings.Aborted why) epoch h.0) h.1)

status-true : (standing : Standing) (epoch ts : ℕ) (writes : List (List ℕ × ℕ)) (locks : List (List ℕ)) (p : Place) → HasReached epoch ts p → (is_final standing ≡ true → decision p ≡ Some (status_of standing epoch ts)) → StaysTrue (status_view standing epoch ts writes locks) p
status-true standings.Pending epoch ts writes locks p h k = h
status-true standings.Staging epoch ts writes locks p h k = h
status-true standings.Committed epoch ts writes locks p h k = k refl
status-true (standings.Aborted why) epoch ts writes locks p h k = (ts, k refl)

mark-true : (standing : Standing) (epoch ts : ℕ) (writes : List (List ℕ × ℕ)) (locks : List (List ℕ)) (p : Place) → HasReached epoch ts p → decision p ≡ Some (status_of standing epoch ts) → StaysTrue (status_view standing epoch ts writes locks) p
mark-true standing epoch ts writes locks p h k = status-true standing epoch ts writes locks p h (λ _. k)

-- the view of a place is true of it
pub view-true : (p : Place) → StaysTrue (view_of p) p
view-true Nothing = tt
view-true (Kept r) =
    status-true r.status.standing r.status.epoch r.status.ts r.writes r.locks (Kept r) (record { epoch_reached = omega arith; ts_reached = omega arith })
    (λ f. ap (λ b. if b then Some r.status else None) f)
view-true (Marked s) = mark-true s.standing s.epoch s.ts [] [] (Marked s) (record { epoch_reached = omega arith; ts_reached = omega arith }) refl

one-view : (view other : View) → ◌≡◌ {A = Option View} (Some view) (Some other) → other ≡ view
one-view view other h = cc

push-view : (v : Verdict) (c : Change) (p : Place) (view : View) → view_in (push_reply v p (after p (on_verdict v c))) ≡ Some view → view ≡ view_of (after p (on_verdict v c))
push-view There c p view h = one-view (view_of p) view h
push-view Refuse c p view h = one-view (view_of p) view h
push-view Doubt c p view h = one-view (view_of p) view h
push-view Do c p view h = one-view (view_of (after p c)) view h

push-said : (b : Bool) (v : Verdict) (c : Change) (p : Place) (view : View) → view_in (if b then replies.Status (view_of p) else push_reply v p (after p (on_verdict v c))) ≡ Some view → view ≡ view_of (after p (if b then Stay else on_verdict v c))
push-said true v c p view h = one-view (view_of p) view h
push-said false v c p view h = push-view v c p view h

kept-said : (b : Bool) (r : Record) (view : View) → view_in (if b then replies.Removed else replies.Status (view_of (Kept r))) ≡ Some view → view ≡ view_of (after (Kept r) (if b then Finish r.status else Stay))
kept-said true r view h = absurd cc
kept-said false r view h = one-view (view_of (Kept r)) view h

remove-said : (p : Place) (view : View) → view_in (if is_decided p then replies.Removed else replies.Status (view_of p)) ≡ Some view → view ≡ view_of (after p (remove p))
remove-said Nothing view h = one-view views.Nothing view h
remove-said (Kept r) view h = kept-said (is_final r.status.standing) r view h
remove-said (Marked s) view h = absurd cc

-- the view in an answer is that of the place after the request
answer-view : (request : Request) (p : Place) (view : View) → view_in (answer request p) ≡ Some view → view ≡ view_of (after p (place_change request p))
answer-view (requests.Push holder by level now goal) p view h = push-said (is_decided p) (push_verdict holder level now goal p) (pushed holder by goal p) p view h
answer-view (requests.Remove id anchor) p view h = remove-said p view h
answer-view request p view h = one-view (view_of (after p (place_change request p))) view h

from-answer : (own id : TxnId) (request : Request) (t : Table) (view : View) → ◌≡◌ {A = Option TxnId} (Some own) (Some id) → view_in (answer request (place_of own t)) ≡ Some view → view ≡ view_of (place_of id (applied_to own (place_change request (place_of own t)) t))
from-answer own id request t view is h =
    let same : own ≡ id = cc in
    let p = place_of own t in
    let c = place_change request p in
    subst (λ i. view ≡ view_of (place_of i (applied_to own c t))) same
    (answer-view request p view h ∙ ap view_of (sym (place_after own c t)))

-- the view in a reply is that of the place after the request
pub reply-view : (request : Request) (s : RangeState) (id : TxnId) (view : View) → subject request ≡ Some id → view_in (reply request s) ≡ Some view → view ≡ view_of (place_of id (state_after request s).table)
reply-view (requests.Beat meta ts now) s id view is h = from-answer meta.id id (requests.Beat meta ts now) s.table view is h
reply-view (requests.Stage meta ts now writes locks) s id view is h = from-answer meta.id id (requests.Stage meta ts now writes locks) s.table view is h
reply-view (requests.Commit meta ts locks) s id view is h = from-answer meta.id id (requests.Commit meta ts locks) s.table view is h
reply-view (requests.Abort meta why locks) s id view is h = from-answer meta.id id (requests.Abort meta why locks) s.table view is h
reply-view (requests.Push holder by level now goal) s id view is h = from-answer holder.id id (requests.Push holder by level now goal) s.table view is h
reply-view (requests.Recover other epoch ts anchor finding) s id view is h = from-answer other id (requests.Recover other epoch ts anchor finding) s.table view is h
reply-view (requests.Remove other anchor) s id view is h = from-answer other id (requests.Remove other anchor) s.table view is h
reply-view request s id view is h = absurd cc

-- what speaks of a transaction's record has it for its subject
pub subject-is : (id : TxnId) (o : Option TxnId) → option_map_or (λ other. same_txn other id) o false ≡ true → o ≡ Some id
subject-is id None h = absurd cc
subject-is id (Some other) h = ap Some (same_txn-is other id h)

-- what is not decided in the end was not decided before
pub undecided_from : (p q : Place) → Stands p q → decision q ≡ None → decision p ≡ None
undecided_from p q stands none = by (decision p) refl
  where
    by : (o : Option Status) → decision p ≡ o → decision p ≡ None
    by None is = is
    by (Some s) is = let both : None ≡ Some s = sym none ∙ stands.decided s is in absurd cc
