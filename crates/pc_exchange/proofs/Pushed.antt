-- What a push that was done leaves to settle: an abort that is answered by a status is final.
use Rattle.std.proofs.Common.{◌≡◌, ℕ, Bool, true, false, cond, Option, Some, None, refl, sym, ap, ◌∙◌, subst}
use Rattle.std.specs.Option.{option_or}
use Rattle.pc_base.specs.declared.transaction.Priority.{Priority}
use Rattle.pc_base.specs.declared.transaction.Who.{Who}
use Rattle.pc_proto.specs.declared.fate.Fate.{Fate}
use Rattle.pc_proto.specs.declared.fate.Fate.TheVariants as fates
use Rattle.pc_proto.specs.declared.fate.Goal.{Goal}
use Rattle.pc_proto.specs.declared.fate.Goal.TheVariants as goals
use Rattle.pc_proto.specs.declared.meta.TxnMeta.{TxnMeta}
use Rattle.pc_proto.specs.declared.reply.Reply.{Reply}
use Rattle.pc_proto.specs.declared.reply.Reply.TheVariants as replies
use Rattle.pc_proto.specs.declared.request.Request.TheVariants as requests
use Rattle.pc_proto.specs.declared.view.View.{View}
use Rattle.pc_proto.specs.Place.{Place, after, is_decided, view_of}
use Rattle.pc_proto.specs.RecordRows.{push_reply}
use Rattle.pc_proto.specs.RecordRows.Push.{Verdict, There, Refuse, Doubt, Do, is_staged, on_verdict, push, push_verdict, pushed, wins}
use Rattle.pc_proto.specs.Table.{place_of}
use Rattle.pc_proto.specs.Views.{fate_after, final_fate}
use Rattle.pc_push.specs.Pushing.{Pushing, push_of}
use Rattle.pc_world.proofs.FinalMarks.{IsFinalPlace, place_final}
use Rattle.pc_world.proofs.RoundReplies.{decided_shows}
use Rattle.pc_world.specs.Exchange.{IsPossibleReply}
use Rattle.pc_world.specs.StateOf.{state_of}

-- If the reply is a status, it is final.
abbrev Decides : Reply → Type 0
Decides (replies.Status view) = final_fate view ≡ None → ⊥
Decides _ = Unit {0}

no_there : (won staged : Bool) → cond won (cond staged Doubt Do) Refuse ≡ There → ⊥
no_there true true e = cc
no_there true false e = cc
no_there false staged e = cc

abort_shows : (holder : TxnMeta) (by : Who) (p : Place) (v : Verdict) → (v ≡ There → ⊥) → Decides (push_reply v p (after p (on_verdict v (pushed holder by goals.Abort p))))
abort_shows holder by p There not = absurd (not refl)
abort_shows holder by p Refuse not = tt
abort_shows holder by p Doubt not = tt
abort_shows holder by p Do not = λ none. cc

decides_when : (b : Bool) (p : Place) (other : Reply) → is_decided p ≡ b → IsFinalPlace p → Decides other → Decides (cond b (replies.Status (view_of p)) other)
decides_when true p other is final h = decided_shows p final is
decides_when false p other is final h = h

abort_decides : (holder : TxnMeta) (by : Who) (level : Priority) (reading : ℕ) (told : Reply) → IsPossibleReply (requests.Push holder by level reading goals.Abort) told → Decides told
abort_decides holder by level reading told is =
    let p = place_of holder.id (state_of is.own).table in
    let v = push_verdict holder level reading goals.Abort p in
    subst Decides (sym is.is)
    (decides_when (is_decided p) p (push_reply v p (after p (push holder by level reading goals.Abort p))) refl (place_final holder.id is.own)
    (abort_shows holder by p v (no_there (wins holder level reading p) (is_staged p))))

-- a push that is answered by a status leaves its holder's intent to be settled
pub push_decides : (m : Pushing) (view : View) → IsPossibleReply (push_of m) (replies.Status view) → fate_after m.goal view ≡ None → ⊥
push_decides m view is none = by m.goal refl
  where
    moved : (target : ℕ) → fate_after (goals.Move target) view ≡ None → ⊥
    moved target none = by (final_fate view) none
      where
        by : (o : Option Fate) → option_or o (Some (fates.Pending target)) ≡ None → ⊥
        by None none = cc
        by (Some fate) none = cc

    final : fate_after goals.Abort view ≡ None → final_fate view ≡ None
    final none = by (final_fate view) none
      where
        by : (o : Option Fate) → option_or o None ≡ None → o ≡ None
        by None none = refl
        by (Some fate) none = none

    by : (goal : Goal) → m.goal ≡ goal → ⊥
    by (goals.Move target) goal = moved target (sym (ap (λ g. fate_after g view) goal) ∙ none)
    by goals.Abort goal =
        abort_decides m.holder m.by m.level m.reading (replies.Status view) (subst (λ g. IsPossibleReply (requests.Push m.holder m.by m.level m.reading g) (replies.Status view)) goal is)
        (final (sym (ap (λ g. fate_after g view) goal) ∙ none))
