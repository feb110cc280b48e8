-- What a range can answer to the requests of a conflict round.
use Rattle.std.proofs.Common.{◌≡◌, ℕ, ◌≤◌, Bool, true, false, cond, List, None, refl, sym, subst, arith}
use Rattle.pc_base.specs.declared.transaction.Priority.{Priority}
use Rattle.pc_base.specs.declared.transaction.TxnId.{TxnId}
use Rattle.pc_base.specs.declared.transaction.Who.{Who}
use Rattle.pc_proto.specs.declared.fate.Fate.{Fate}
use Rattle.pc_proto.specs.declared.fate.Fate.TheVariants as fates
use Rattle.pc_proto.specs.declared.fate.Goal.{Goal}
use Rattle.pc_proto.specs.declared.fate.Goal.TheVariants as goals
use Rattle.pc_proto.specs.declared.meta.TxnMeta.{TxnMeta}
use Rattle.pc_proto.specs.declared.record.Standing.{Standing}
use Rattle.pc_proto.specs.declared.record.Standing.TheVariants as standings
use Rattle.pc_proto.specs.declared.reply.Reply.{Reply}
use Rattle.pc_proto.specs.declared.reply.Reply.TheVariants as replies
use Rattle.pc_proto.specs.declared.request.Request.{Request}
use Rattle.pc_proto.specs.declared.request.Request.TheVariants as requests
use Rattle.pc_proto.specs.declared.view.View.{View}
use Rattle.pc_proto.specs.declared.view.View.TheVariants as views
use Rattle.pc_proto.specs.Place.{Place, Nothing, Kept, Marked, after, is_decided, is_final, status_view, view_of}
use Rattle.pc_proto.specs.RecordRows.{push_reply}
use Rattle.pc_proto.specs.RecordRows.Push.{Verdict, There, Refuse, Doubt, Do, is_staged, on_verdict, push, push_verdict, pushed, reaches_goal, wins}
use Rattle.pc_proto.specs.RecordRows.Reached.{is_staging}
use Rattle.pc_proto.specs.Requests.{Recovers}
use Rattle.pc_proto.specs.Table.{place_of}
use Rattle.pc_proto.specs.Views.{IsFateOf, final_fate}
use Rattle.pc_world.proofs.FinalMarks.{IsFinalPlace, place_final}
use Rattle.pc_world.specs.Exchange.{IsPossibleReply}
use Rattle.pc_world.specs.StateOf.{state_of}

-- The view is a staging one.
pub record IsStagingView (view : View) : Type 0 where
  pub epoch : ℕ
  pub ts : ℕ
  pub writes : List (List ℕ × ℕ)
  pub is : view ≡ views.Staging epoch ts writes

-- What a push is answered: where the view is not final it stands at the target or above it; and an unsure one is staging.
abbrev pub IsGoalReply : Goal → Reply → Type 0
IsGoalReply goal (replies.Status view) = (target : ℕ) → goal ≡ goals.Move target → final_fate view ≡ None → IsFateOf view (fates.Pending target)
IsGoalReply goal (replies.Unsure view) = IsStagingView view
IsGoalReply goal _ = Unit {0}

pub final_shows : (s : Standing) (epoch ts : ℕ) (writes : List (List ℕ × ℕ)) (locks : List (List ℕ)) → is_final s ≡ true → final_fate (status_view s epoch ts writes locks) ≡ None → ⊥
final_shows standings.Pending epoch ts writes locks h none = cc
final_shows standings.Staging epoch ts writes locks h none = cc
final_shows standings.Committed epoch ts writes locks h none = cc
final_shows (standings.Aborted why) epoch ts writes locks h none = cc

pub decided_shows : (p : Place) → IsFinalPlace p → is_decided p ≡ true → final_fate (view_of p) ≡ None → ⊥
decided_shows Nothing final h none = absurd cc
decided_shows (Kept r) final h none = final_shows r.status.standing r.status.epoch r.status.ts r.writes r.locks h none
decided_shows (Marked s) final h none = final_shows s.standing s.epoch s.ts _ _ final none

reached_shows : (s : Standing) (epoch ts target : ℕ) (writes : List (List ℕ × ℕ)) (locks : List (List ℕ)) → target ≤ ts → final_fate (status_view s epoch ts writes locks) ≡ None
    → IsFateOf (status_view s epoch ts writes locks) (fates.Pending target)
reached_shows standings.Pending epoch ts target writes locks low none = low
reached_shows standings.Staging epoch ts target writes locks low none = low
reached_shows standings.Committed epoch ts target writes locks low none = absurd cc
reached_shows (standings.Aborted why) epoch ts target writes locks low none = absurd cc

there_shows : (p : Place) (target : ℕ) → reaches_goal (goals.Move target) p ≡ true → final_fate (view_of p) ≡ None → IsFateOf (view_of p) (fates.Pending target)
there_shows Nothing target h none = absurd cc
there_shows (Kept r) target h none =
    let low : target ≤ r.status.ts = grind arith in
    reached_shows r.status.standing r.status.epoch r.status.ts target r.writes r.locks low none
there_shows (Marked s) target h none = absurd cc

staging_shows : (s : Standing) (epoch ts : ℕ) (writes : List (List ℕ × ℕ)) (locks : List (List ℕ)) → is_staging s ≡ true → IsStagingView (status_view s epoch ts writes locks)
staging_shows standings.Staging epoch ts writes locks h = record { epoch = epoch; ts = ts; writes = writes; is = refl }
staging_shows s epoch ts writes locks h = absurd cc

staged_shows : (p : Place) → is_staged p ≡ true → IsStagingView (view_of p)
staged_shows Nothing h = absurd cc
staged_shows (Kept r) h = staging_shows r.status.standing r.status.epoch r.status.ts r.writes r.locks h
staged_shows (Marked s) h = absurd cc

module _ (holder : TxnMeta) (by : Who) where
  done_shows : (goal : Goal) (p : Place) → IsGoalReply goal (replies.Status (view_of (after p (pushed holder by goal p))))
  done_shows goals.Abort p target is none = absurd cc
  done_shows (goals.Move ts) p target is none = let low : target ≤ ts = let same : ts ≡ target = cc in omega arith in low

  push_shows : (v : Verdict) (goal : Goal) (p : Place) → (v ≡ There → reaches_goal goal p ≡ true) → (v ≡ Doubt → is_staged p ≡ true) → IsGoalReply goal (push_reply v p (after p (on_verdict v (pushed holder by goal p))))
  push_shows There goal p there doubt = λ target is none. there_shows p target (subst (λ g. reaches_goal g p ≡ true) is (there refl)) none
  push_shows Refuse goal p there doubt = tt
  push_shows Doubt goal p there doubt = staged_shows p (doubt refl)
  push_shows Do goal p there doubt = done_shows goal p

abbrev verdict_by : Bool → Bool → Bool → Verdict
verdict_by there won staged = cond there There (cond won (cond staged Doubt Do) Refuse)

there_when : (there won staged : Bool) → verdict_by there won staged ≡ There → there ≡ true
there_when true won staged h = refl
there_when false true true h = absurd cc
there_when false true false h = absurd cc
there_when false false staged h = absurd cc

doubt_when : (there won staged : Bool) → verdict_by there won staged ≡ Doubt → staged ≡ true
doubt_when there won true h = refl
doubt_when true won false h = absurd cc
doubt_when false true false h = absurd cc
doubt_when false false false h = absurd cc

answer_when : (b : Bool) (goal : Goal) (p : Place) (other : Reply) → is_decided p ≡ b → IsFinalPlace p → IsGoalReply goal other → IsGoalReply goal (cond b (replies.Status (view_of p)) other)
answer_when true goal p other is final h = λ target goal none. absurd (decided_shows p final is none)
answer_when false goal p other is final h = h

pub push_answers : (holder : TxnMeta) (by : Who) (level : Priority) (now : ℕ) (goal : Goal) (told : Reply) → IsPossibleReply (requests.Push holder by level now goal) told → IsGoalReply goal told
push_answers holder by level now goal told is =
    let p = place_of holder.id (state_of is.own).table in
    let v = push_verdict holder level now goal p in
    let there = reaches_goal goal p in
    let won = wins holder level now p in
    subst (IsGoalReply goal) (sym is.is)
    (answer_when (is_decided p) goal p (push_reply v p (after p (push holder by level now goal p))) refl (place_final holder.id is.own)
    (push_shows holder by v goal p (there_when there won (is_staged p)) (doubt_when there won (is_staged p))))

-- A recovery is answered by a status.
abbrev pub IsStatus : Reply → Type 0
IsStatus (replies.Status view) = Unit {0}
IsStatus _ = ⊥

pub recovery_answers : (id : TxnId) (request : Request) (told : Reply) → Recovers id request → IsPossibleReply request told → IsStatus told
recovery_answers id (requests.Recover other epoch ts anchor finding) told recovers is = subst IsStatus (sym is.is) tt
recovery_answers id request told recovers is = absurd recovers

pub resolve_answers : (id : TxnId) (key : List ℕ) (fate : Fate) (told : Reply) → IsPossibleReply (requests.Resolve id key fate) told → told ≡ replies.Resolved
resolve_answers id key fate told is = is.is
