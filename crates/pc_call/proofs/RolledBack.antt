-- The abort of an open call was answered: its transaction is rolled back.
use Rattle.std.proofs.Common.{◌≡◌, ℕ, ◌<◌, true, false, inl, inr, List, [], ◌∷◌, map, Some, Result, Ok, Err, IfOk, refl, sym, ap, ◌∙◌, subst, All, Any, IsTrue}
use Rattle.std.proofs.lemmas.List.Elements.{All-cons, All-head, All-nil, All-push, All-weaker}
use Rattle.std.proofs.lemmas.Option.{same_Some}
use Rattle.pc_call.specs.Setting.{Setting}
use Rattle.pc_base.specs.declared.limits.TheConstants.{MOST_CONFLICTS}
use Rattle.pc_base.specs.Transaction.{same_txn}
use Rattle.pc_call.proofs.Closing.{closing-left, closing-may, opened3}
use Rattle.pc_call.proofs.Decided.{one_out}
use Rattle.pc_call.proofs.Eighths.{any_eighth, no_eighth, none_eighth}
use Rattle.pc_call.proofs.Ending.{EndsWith, IsFinalAs, final_aborted, final_committed}
use Rattle.pc_call.proofs.Beating.{beaten_tells, undecided_not_aborted}
use Rattle.pc_call.proofs.Hearing.{beaten_on, one_asked}
use Rattle.pc_call.proofs.Silent.{IsBeatPurpose}
use Rattle.pc_call.proofs.Lists.{all_behind}
use Rattle.pc_call.proofs.Told.{may_tell, still_open}
use Rattle.pc_call.specs.declared.over.Over.{Over}
use Rattle.pc_call.specs.declared.purpose.Purpose.{Purpose}
use Rattle.pc_call.specs.declared.purpose.Purpose.TheVariants as purposes
use Rattle.pc_call.specs.Finished.{MayTellOver, left_at, ends_rolled_back}
use Rattle.pc_call.specs.Learned.{known_heard}
use Rattle.pc_call.specs.Serving.{InCall, Serves, ServesAbort, WaitsMeanwhile}
use Rattle.pc_lists.proofs.Anywhere.{any_last, any_of}
use Rattle.pc_lists.proofs.Same.{same_txn-self}
use Rattle.pc_proto.specs.declared.answer.Answer.TheVariants as answers
use Rattle.pc_proto.specs.declared.call.Call.TheVariants as calls
use Rattle.pc_proto.specs.declared.fate.Fate.{Fate}
use Rattle.pc_proto.specs.declared.fate.Fate.TheVariants as fates
use Rattle.pc_proto.specs.declared.reply.Reply.TheVariants as replies
use Rattle.pc_proto.specs.declared.request.Request.{Request}
use Rattle.pc_proto.specs.declared.view.View.{View}
use Rattle.pc_proto.specs.declared.view.View.TheVariants as views
use Rattle.pc_proto.specs.declared.why.Why.{Why}
use Rattle.pc_proto.specs.Replies.{is_conflict, view_in}
use Rattle.pc_proto.specs.Requests.{is_abort_of, is_about, subject_anchor}
use Rattle.pc_proto.specs.Views.{AbortsWith, is_final_view}
use Rattle.pc_txn.specs.Counted.{IsCounted}
use Rattle.pc_txn.specs.declared.txn.OpenTxn.{OpenTxn}
use Rattle.pc_txn.specs.Opened.{own_abort}
use Rattle.pc_txn.specs.Standing.{IsUndecidedOf}
use Rattle.pc_wave.proofs.Lists.{at_least-before}
use Rattle.pc_wave.specs.declared.message.Message.{Message}
use Rattle.pc_wave.specs.declared.message.Progress.TheVariants as progresses
use Rattle.pc_wave.specs.Messages.{wave_awaits}
use Rattle.pc_wave.specs.Standing.{IsAsFar, IsHeardTo, MessageStands}
use Rattle.pc_world.specs.Answering.{MayAnswer}
use Rattle.pc_follows.specs.Eighth.{MetEighth}
use Rattle.pc_world.specs.Known.{Known, open_txn}
use Rattle.pc_world.specs.Known.Traffic.{Heard}
use Rattle.pc_world.specs.Known.Transactions.{Txn, txn_heard}
use Rattle.pc_world.specs.MayTell.{is_past_range}
use Rattle.pc_world.specs.Tell.End.{IsCauseTold}
use Rattle.pc_world.specs.Tell.Refusal.{IsConflictOf}
use Rattle.pc_world.specs.Views.{ShowsAborted, WasAborted}

module _ (session clock count : ℕ) (set : Setting) (k : Known) (x : OpenTxn) (p : Purpose) (ms : List Message) (counted : IsCounted session clock count k) (w : InCall set k x p ms)
    (number : ℕ) (view : View) (h : Heard) (waited : wave_awaits number ms ≡ true) (is : IsHeardTo k number (replies.Status view) h) (why : Why) (e : p ≡ purposes.Abort why) where
  abbrev k2 : Known
  k2 = known_heard h k

  abbrev t2 : Txn
  t2 = txn_heard k.sent (Some h) w.t

  abbrev a : ServesAbort why k w.s w.t x ms
  a = subst (λ q. Serves set k w.s w.t x w.stages q ms) e w.serves

  said : h.request ≡ own_abort x why a.anchor
  said = one_asked session clock count set k x p ms counted w number (replies.Status view) h waited is a.m a.one ∙ a.said

  same_id : x.id ≡ w.t.id
  same_id = ap (λ x. x.id) w.stands.same

  about : is_about w.t.id h.request ≡ true
  about = ap (is_about w.t.id) said ∙ ap (λ id. same_txn id w.t.id) same_id ∙ same_txn-self w.t.id

  out : a.m.progress ≡ progresses.Sent number
  out = one_out number a.m (subst (λ ms. wave_awaits number ms ≡ true) a.one waited)

  stands_m : MessageStands set.course k a.m
  stands_m = All-head (MessageStands set.course k) a.m [] (subst (λ ms. All (MessageStands set.course k) ms) a.one w.wave.stand)

  few_m : a.m.conflicts < MOST_CONFLICTS
  few_m = (subst (λ pr. IsAsFar set.course k a.m.request a.m.conflicts pr) out stands_m.as_far).1

  unmet : (r : Request) → MetEighth k2 r → ⊥
  unmet r eight =
      none_eighth set.course k (WaitsMeanwhile p w.t.id w.t.epoch x.in_flight) ms w.fewer w.wave.stand (subst (λ ms. All (λ (m : Message). m.conflicts < MOST_CONFLICTS) ms) (sym a.one) (All-cons (λ (m : Message). m.conflicts < MOST_CONFLICTS) a.m [] few_m (All-nil (λ (m : Message). m.conflicts < MOST_CONFLICTS)))) r
      (λ left. subst (λ p. WaitsMeanwhile p w.t.id w.t.epoch x.in_flight r) e left)
      (at_least-before (IsConflictOf r) MOST_CONFLICTS k.heard_now (h ∷ [])
      (All-cons (λ h. IsConflictOf r h → ⊥) h [] (λ c. let f : false ≡ true = sym (ap is_conflict is.told) ∙ c.conflict in absurd cc) (All-nil (λ h. IsConflictOf r h → ⊥))) eight)

  -- nothing that was heard before shows the record aborted
  none_before : All (λ g. (other : Why) → ShowsAborted w.t.id other g → ⊥) k.heard_now
  none_before =
      All-weaker (IsUndecidedOf w.t) (λ g. (other : Why) → ShowsAborted w.t.id other g → ⊥) (λ g undecided other shows. undecided_not_aborted w.t g other undecided shows) k.heard_now
      (all_behind (IsUndecidedOf w.t) w.split.heard_first k.heard_now (subst (λ hs. All (IsUndecidedOf w.t) hs) w.split.heard w.stands.views))

  module _ (cause : Why) (fate : Fate) (final : IsFinalAs view fate) (told : IsCauseTold k2 t2 cause) where
    over : EndsWith w.t a.anchor fate k.heard h
    over = record { anchored = a.anchored; undecided = w.stands.views; about = about; named = ap subject_anchor said; view = view; told = ap view_in is.told; final = final }

    opened2 : open_txn k2 ≡ Some t2
    opened2 = opened3 k x w.t a.anchor fate h w.open_in w.stands.same over

    aborts_first : (t : Txn) (anchor : List ℕ) → open_txn k2 ≡ Some t → t.anchor ≡ Some anchor → Any (λ h. IsTrue (is_abort_of t.id h.request)) k2.heard_now
    aborts_first t anchor opened some =
        let same : t2 ≡ t = same_Some t2 t (sym opened2 ∙ opened) in
        subst (λ t. Any (λ h. IsTrue (is_abort_of t.id h.request)) k2.heard_now) same
        (any_last (λ h. IsTrue (is_abort_of w.t.id h.request)) k.heard_now h
        (ap (is_abort_of w.t.id) said ∙ ap (λ id. same_txn id w.t.id) same_id ∙ same_txn-self w.t.id))

    ended : MayTellOver set session k2 (record { answer = answers.RolledBack x.id cause; left = left_at x.anchor fate x })
    ended =
        let answer = answers.RolledBack x.id cause in
        record {
          may = record {
            may = may_tell set session k2 w.s answer w.opened w.open_in.is_open (ap (λ call. is_past_range (record { call = call; reading = w.s.reading })) a.call) (record {
              t = t2;
              opened = opened2;
              asked = a.call;
              whose = same_id;
              cause = told;
            });
            written = tt;
            aborts = λ quiet. aborts_first;
            rolled_back = tt;
            restarts = tt;
            eighth = any_eighth set.course.loses k2 answer (no_eighth k2 w.s answer w.opened (λ commit. let f : calls.Rollback ≡ calls.Commit = sym a.call ∙ commit in cc) unmet);
            blocked = λ piped other at commits. tt;
            beats =
                beaten_tells set.course.loses k2 t2 answer
                (record { others = map (txn_heard k.sent (Some h)) w.open_in.others; is_open = w.open_in.is_open; first = ap (map (txn_heard k.sent (Some h))) w.open_in.first })
                (beaten_on session clock count set k x p ms counted w number (replies.Status view) h waited is (λ beat. subst IsBeatPurpose e beat));
          };
          left = closing-left k x w.t a.anchor fate h w.open_in w.stands.same over;
          closed = refl;
          settles = closing-may k x w.t a.anchor fate h w.open_in w.stands.same over answer (still_open k2 answer t2 (map (txn_heard k.sent (Some h)) w.open_in.others) w.open_in.is_open (ap (map (txn_heard k.sent (Some h))) w.open_in.first));
        }

  own_told : ((other : Why) → ShowsAborted w.t.id other h → ⊥) → IsCauseTold k2 t2 why
  own_told none = inr ((λ other was. none_of other was), a.cause)
    where
      all_push_one : All (λ g. (other : Why) → ShowsAborted w.t.id other g → ⊥) k.heard_now → ((other : Why) → ShowsAborted w.t.id other h → ⊥) → All (λ g. (other : Why) → ShowsAborted w.t.id other g → ⊥) k2.heard_now
      all_push_one before last = All-push (λ g. (other : Why) → ShowsAborted w.t.id other g → ⊥) k.heard_now h before last

      none_of : (other : Why) → WasAborted k2.heard_now w.t.id other → ⊥
      none_of other was =
          let f = any_of (λ g. (other : Why) → ShowsAborted w.t.id other g → ⊥) (ShowsAborted w.t.id other) k2.heard_now
          (all_push_one none_before none) was in
          f.1 other f.2

  -- the transaction is rolled back, however its record was decided
  pub rolled_back_over : MayTellOver set session k2 (ends_rolled_back view why x)
  rolled_back_over = by view refl (subst (λ r. MayAnswer r (replies.Status view)) said is.kind)
    where
      by : (v : View) → view ≡ v → is_final_view v ≡ true → MayTellOver set session k2 (ends_rolled_back v why x)
      by (views.Committed epoch ts locks) v final =
          ended why (fates.Committed epoch ts) (subst (λ v. IsFinalAs v (fates.Committed epoch ts)) (sym v) (final_committed epoch ts locks))
          (own_told (λ other shows. committed_not epoch ts locks other shows.view (sym (ap view_in is.told ∙ ap Some v) ∙ shows.told) shows.cause))
        where
          committed_not : (epoch ts : ℕ) (locks : List (List ℕ)) (other : Why) (view : View) → Some (views.Committed epoch ts locks) ≡ Some view → AbortsWith other view → ⊥
          committed_not epoch ts locks other (views.Aborted at cause held) e c = cc
          committed_not epoch ts locks other view e c = c
      by (views.Aborted epoch cause locks) v final =
          ended cause fates.Aborted (subst (λ v. IsFinalAs v fates.Aborted) (sym v) (final_aborted epoch cause locks))
          (inl (any_last (ShowsAborted w.t.id cause) k.heard_now h (record { about = about; view = view; told = ap view_in is.told; cause = subst (AbortsWith cause) (sym v) refl })))
      by views.Nothing v final = absurd cc
      by (views.Pending epoch ts) v final = absurd cc
      by (views.Staging epoch ts writes) v final = absurd cc

-- so what a call gives that gives how it ends
pub over_ok : {E : Type 0} (set : Setting) (session : ℕ) (k : Known) (view : View) (one other : Why) (x : OpenTxn) (r : Result Over E) → IfOk r (λ over. over ≡ ends_rolled_back view one x) → one ≡ other → MayTellOver set session k (ends_rolled_back view other x)
    → IfOk r (MayTellOver set session k)
over_ok set session k view one other x (Ok o) is same told = subst (MayTellOver set session k) (sym (is ∙ ap (λ why. ends_rolled_back view why x) same)) told
over_ok set session k view one other x (Err e) is same told = is

pub same_why : (p : Purpose) (one other : Why) → p ≡ purposes.Abort one → p ≡ purposes.Abort other → one ≡ other
same_why p one other a b = let e : purposes.Abort one ≡ purposes.Abort other = sym a ∙ b in cc
