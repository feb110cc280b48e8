-- Laws of runs: what a range decided stays decided; no two decisions differ; and what a range can answer.
use Rattle.std.specs.Prelude.{◌≡◌, ℕ, ◌≤◌, true, false, Some, List, ◌∷◌, ◌++◌}
use Rattle.pc_base.specs.declared.actor.ActorId.TheVariants as actors
use Rattle.pc_base.specs.declared.entry.Entry.{Entry}
use Rattle.pc_base.specs.declared.transaction.TxnId.{TxnId}
use Rattle.pc_history.specs.Own.{own}
use Rattle.pc_implicit.specs.Answers.{Agree, Answers}
use Rattle.pc_implicit.specs.Decided.{BoundStands, IsNotBelow, StaysTrue, decision}
use Rattle.pc_proto.specs.declared.event.Event.{Event}
use Rattle.pc_proto.specs.declared.meta.TxnMeta.{TxnMeta}
use Rattle.pc_proto.specs.declared.record.Status.{Status}
use Rattle.pc_proto.specs.declared.reply.Reply.TheVariants as replies
use Rattle.pc_proto.specs.declared.request.Request.{Request}
use Rattle.pc_proto.specs.declared.view.View.{View}
use Rattle.pc_proto.specs.RecordRows.Reached.{is_staged_at}
use Rattle.pc_proto.specs.Views.{is_final_view}
use Rattle.pc_world.specs.After.{place_at, state_at}
use Rattle.pc_world.specs.Committed.{IsCommitted, commit_point}
use Rattle.pc_world.specs.Decisions.{HasOneDecision}
use Rattle.pc_world.specs.Evaluation.{reply}
use Rattle.pc_world.specs.Known.{known_of}
use Rattle.pc_world.specs.Local.{Head, IsActorOf}
use Rattle.pc_world.specs.Run.{IsRun, protocol}

-- A decision stands: a final record or mark keeps its status for good.
abbrev pub DecisionsStand : Type 0
DecisionsStand =
    (head : Head) (range : ℕ) (id : TxnId) (front back : List (Entry Event)) (s : Status)
    → decision (place_at head range id front) ≡ Some s → decision (place_at head range id (front ++ back)) ≡ Some s

-- Nothing falls: neither the epoch nor the timestamp of a record or mark.
abbrev pub NothingFalls : Type 0
NothingFalls =
    (head : Head) (range : ℕ) (id : TxnId) (front back : List (Entry Event))
    → IsNotBelow (place_at head range id front) (place_at head range id (front ++ back))

-- A staging that was left never returns.
abbrev pub LeftStagingsStayAway : Type 0
LeftStagingsStayAway =
    (head : Head) (range : ℕ) (id : TxnId) (front middle back : List (Entry Event)) (epoch ts : ℕ)
    → is_staged_at (place_at head range id front) epoch ts ≡ true
    → is_staged_at (place_at head range id (front ++ middle)) epoch ts ≡ false
    → is_staged_at (place_at head range id (front ++ middle ++ back)) epoch ts ≡ false

-- The read bound never falls, and at one timestamp it gains no owner.
abbrev pub BoundsStand : Type 0
BoundsStand =
    (head : Head) (range : ℕ) (front back : List (Entry Event))
    → BoundStands (state_at head range front).bound (state_at head range (front ++ back)).bound

-- What a range answered of a transaction is true of it for the rest of the run.
abbrev pub ViewsStayTrue : Type 0
ViewsStayTrue =
    (head : Head) (range : ℕ) (id : TxnId) (view : View) (before : List (Entry Event)) (e : Entry Event) (later : List (Entry Event))
    → IsRun head (before ++ e ∷ later) → Answers head before range id view e
    → StaysTrue view (place_at head range id (before ++ e ∷ later))

-- Once a range has answered that a transaction is decided, each later answer says so too, and says the same.
abbrev pub FinalViewsStay : Type 0
FinalViewsStay =
    (head : Head) (range : ℕ) (id : TxnId) (one other : View)
    (before : List (Entry Event)) (e : Entry Event) (between : List (Entry Event)) (f : Entry Event) (later : List (Entry Event))
    → IsRun head (before ++ e ∷ between ++ f ∷ later)
    → Answers head before range id one e → Answers head (before ++ e ∷ between) range id other f
    → is_final_view one ≡ true → (is_final_view other ≡ true) × Agree one other

-- No two decisions differ.
abbrev pub DecisionsDoNotDiffer : Type 0
DecisionsDoNotDiffer =
    (head : Head) (history : List (Entry Event)) → IsRun head history → HasOneDecision head history

-- Commit points differ: one entry makes at most one transaction committed.
abbrev pub CommitPointsDiffer : Type 0
CommitPointsDiffer =
    (head : Head) (history : List (Entry Event)) (id other : TxnId) (ts later : ℕ)
    → IsRun head history → IsCommitted head history id ts → IsCommitted head history other later
    → commit_point head history id ≡ commit_point head history other → id ≡ other

-- A transaction whose intent stands in a request's way is one that its session has begun.
abbrev pub HoldersWereBegun : Type 0
HoldersWereBegun =
    (head : Head) (history : List (Entry Event)) (range : ℕ) (request : Request) (holder : TxnMeta) (ts : ℕ) (key : List ℕ)
    → IsRun head history → reply request (state_at head range history) ≡ replies.Conflict holder ts key
    → holder.id.number ≤ (known_of (own (protocol head) (actors.Session holder.id.session) history)).begun

-- And its session is one of the head's.
abbrev pub HeadsHaveHolders : Type 0
HeadsHaveHolders =
    (head : Head) (history : List (Entry Event)) (range : ℕ) (request : Request) (holder : TxnMeta) (ts : ℕ) (key : List ℕ)
    → IsRun head history → reply request (state_at head range history) ≡ replies.Conflict holder ts key
    → IsActorOf head (actors.Session holder.id.session)
