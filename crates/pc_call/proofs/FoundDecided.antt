-- The record of a transaction that stages, or sends its last heartbeat, was heard to be decided: its call is told so.
use Rattle.std.proofs.Common.{◌≡◌, ℕ, ◌+◌, ◌≤◌, max, Bool, true, false, cond, ◌&&◌, ◌||◌, inl, inr, List, [], ◌∷◌, ◌++◌, map, Some, IfSome, is_some, refl, sym, ap, ◌∙◌, subst, arith, All, Contains, IsTrue}
use Rattle.std.specs.List.{list_any}
use Rattle.std.specs.Option.{option_map_or, option_or}
use Rattle.std.proofs.lemmas.Bool.{and_from, and_parts, eq-eqb}
use Rattle.std.proofs.lemmas.List.Elements.{All-cons, All-nil}
use Rattle.std.proofs.lemmas.List.Folds.{list_any-append, list_any_none}
use Rattle.std.proofs.lemmas.Option.{same_Some}
use Rattle.pc_call.proofs.Closing.{closing-left, closing-may, opened3}
use Rattle.pc_call.proofs.Eighths.{any_eighth}
use Rattle.pc_call.proofs.Ending.{EndsWith, IsFinalAs, anchor-last, fate_is, final_aborted, final_committed}
use Rattle.pc_call.proofs.Told.{may_tell, still_open}
use Rattle.pc_call.specs.Behind.{left_behind}
use Rattle.pc_call.specs.declared.over.Left.{Left}
use Rattle.pc_call.specs.declared.purpose.Purpose.{Purpose}
use Rattle.pc_call.specs.Finished.{MayBeCommittedFirst, MayBeSettled, MayTellOver, left_at, left_messages}
use Rattle.pc_call.specs.Learned.{known_heard, known_told}
use Rattle.pc_call.specs.Serving.{InCall}
use Rattle.pc_call.specs.Setting.{Setting}
use Rattle.pc_follows.specs.Eighth.{IsEndAnswer, TellsTheEighth}
use Rattle.pc_follows.specs.FinishingJobs.{committed_fate, committing, finishing_messages, is_commit_told, left_committed, settling}
use Rattle.pc_follows.specs.Heartbeats.{KeepsHeartbeats}
use Rattle.pc_lists.proofs.Anywhere.{any_last}
use Rattle.pc_lists.proofs.Lists.{all_from_contains}
use Rattle.pc_proto.specs.declared.answer.Answer.{Answer}
use Rattle.pc_proto.specs.declared.answer.Answer.TheVariants as answers
use Rattle.pc_proto.specs.declared.call.Call.TheVariants as calls
use Rattle.pc_proto.specs.declared.event.Event.TheVariants as events
use Rattle.pc_proto.specs.declared.fate.Fate.{Fate}
use Rattle.pc_proto.specs.declared.fate.Fate.TheVariants as fates
use Rattle.pc_proto.specs.declared.reply.Reply.TheVariants as replies
use Rattle.pc_proto.specs.declared.request.Request.TheVariants as requests
use Rattle.pc_proto.specs.declared.view.View.{View}
use Rattle.pc_proto.specs.declared.view.View.TheVariants as views
use Rattle.pc_proto.specs.declared.why.Why.{Why}
use Rattle.pc_proto.specs.Replies.{view_in}
use Rattle.pc_proto.specs.Requests.{is_about, is_commit, subject_anchor}
use Rattle.pc_proto.specs.Stamps.{answer_stamps, greatest_of}
use Rattle.pc_proto.specs.Views.{AbortsWith, is_committed_at}
use Rattle.pc_txn.proofs.Rows.{uncommitted}
use Rattle.pc_txn.specs.declared.txn.OpenTxn.{OpenTxn}
use Rattle.pc_txn.specs.Opened.{opened_as}
use Rattle.pc_txn.specs.Standing.{IsUndecidedOf}
use Rattle.pc_wave.specs.declared.message.Message.{Message}
use Rattle.pc_world.specs.Known.{Known, call_in, open_txn}
use Rattle.pc_world.specs.Known.Statements.{Statement}
use Rattle.pc_world.specs.Known.Traffic.{Heard, replies_to}
use Rattle.pc_world.specs.Known.Transactions.{Txn, meta_of, txn_heard, txn_told}
use Rattle.pc_world.specs.MayTell.{is_past_range}
use Rattle.pc_world.specs.Send.Settling.{ShowsFate}
use Rattle.pc_world.specs.Views.{ShowsAborted, anchor_heard, shows_committed, shows_view}

-- where no view of it was final, no commit of it was answered that it is committed
pub none_told : (t : Txn) (heard : List Heard) (ts : ℕ) → All (IsUndecidedOf t) heard → list_any (is_commit_told t.id ts) heard ≡ false
none_told t heard ts undecided =
    list_any_none (is_commit_told t.id ts) heard
    (all_from_contains (λ h. is_commit_told t.id ts h ≡ false) heard (λ h there. by h there (is_commit h.request && shows_committed t.id ts h) refl))
  where
    by : (h : Heard) → Contains heard h → (b : Bool) → (is_commit h.request && shows_committed t.id ts h) ≡ b → b ≡ false
    by h there false e = refl
    by h there true e =
        let shows : IsTrue (shows_committed t.id ts h) = (and_parts (is_commit h.request) (shows_committed t.id ts h) e).1 in
        absurd (uncommitted t heard undecided ts (there.0, h, there.1, there.2, shows))

or_none : (a b : Bool) → a ≡ false → b ≡ false → (a || b) ≡ false
or_none false b left right = right
or_none true b left right = absurd cc

-- A view of the transaction was heard to a request of its own that is no commit, in a commit.
pub record HearsOwn (k : Known) (t : Txn) (s : Statement) (h : Heard) : Type 0 where
  pub call : s.call ≡ calls.Commit
  pub anchor : List ℕ
  pub anchored : t.anchor ≡ Some anchor
  pub about : is_about t.id h.request ≡ true
  pub named : subject_anchor h.request ≡ Some anchor
  pub no_commit : is_commit h.request ≡ false

module _ (set : Setting) (session : ℕ) (k : Known) (x : OpenTxn) (p : Purpose) (ms : List Message) (w : InCall set k x p ms) (view : View) (h : Heard) (told : h.reply ≡ replies.Status view) (own : HearsOwn k w.t w.s h) where
  abbrev k2 : Known
  k2 = known_heard h k

  abbrev t2 : Txn
  t2 = txn_heard k.sent (Some h) w.t

  within : is_past_range w.s ≡ false
  within = ap (λ call. is_past_range (record { call = call; reading = w.s.reading })) own.call

  -- a commit may be told how it ended, also after the eighth
  ends_eighth : (answer : Answer) → IsEndAnswer answer → (s : Statement) → k2.statement ≡ Some s → TellsTheEighth k2 s answer
  ends_eighth answer ends s opened =
      let same : w.s ≡ s = same_Some w.s s (sym w.opened ∙ opened) in
      record { blocked = λ no r eight. absurd (no (sym (ap (λ (s : Statement). s.call) same) ∙ own.call)); moved = λ asked eight. inr ends }

  module _ (fate : Fate) (final : IsFinalAs view fate) where
    ends : EndsWith w.t own.anchor fate k.heard h
    ends = record { anchored = own.anchored; undecided = w.stands.views; about = own.about; named = own.named; view = view; told = ap view_in told; final = final }

    open_then : open_txn k2 ≡ Some t2
    open_then = opened3 k x w.t own.anchor fate h w.open_in w.stands.same ends

  -- ---- it is committed

  module _ (epoch ts : ℕ) (locks : List (List ℕ)) (v : view ≡ views.Committed epoch ts locks) where
    abbrev fate : Fate
    fate = fates.Committed epoch ts

    abbrev answer : Answer
    answer = answers.Committed w.t.id ts

    abbrev left : Left
    left = record { meta = meta_of w.t own.anchor; staged = Some ts; fate = fate; locks = w.t.locks }

    over : EndsWith w.t own.anchor fate k.heard h
    over = ends fate (subst (λ v. IsFinalAs v fate) (sym v) (final_committed epoch ts locks))

    shown : IsTrue (shows_committed w.t.id ts h)
    shown =
        and_from (is_about w.t.id h.request) (option_map_or (is_committed_at ts) (view_in h.reply) false) own.about
        (ap (λ r. option_map_or (is_committed_at ts) (view_in r) false) told ∙ ap (is_committed_at ts) v ∙ eq-eqb ts ts refl)

    left_now : left_behind x.anchor (Some ts) fate x ≡ Some left
    left_now =
        ap (λ (x : OpenTxn). left_behind x.anchor (Some ts) fate x) w.stands.same
        ∙ ap (λ a. left_behind a (Some ts) fate (opened_as x.shown x.cause x.reads.spans x.in_flight x.staging w.t)) own.anchored

    none_committed : list_any (is_commit_told w.t.id ts) (k.heard ++ h ∷ []) ≡ false
    none_committed =
        list_any-append (is_commit_told w.t.id ts) k.heard (h ∷ [])
        ∙ or_none (list_any (is_commit_told w.t.id ts) k.heard) (is_commit_told w.t.id ts h || false) (none_told w.t k.heard ts w.stands.views) (ap (λ b. b && shows_committed w.t.id ts h || false) own.no_commit)

    left_is : left_messages (Some left) ≡ left_committed ts k2 (open_txn k2)
    unfolding over ends
    left_is =
        let heard_fate = fate_is w.t own.anchor fate k.heard h over in
        sym (ap (left_committed ts k2) (open_then fate over.final)
        ∙ ap (λ a. committing k2 t2 ts a ++ settling t2 (committed_fate k2 t2 ts) a) own.anchored
        ∙ ap (λ o. committing k2 t2 ts (Some own.anchor) ++ settling t2 (option_or o (Some (fates.Committed t2.epoch ts))) (Some own.anchor)) heard_fate
        ∙ ap (λ b. cond b [] (requests.Commit (meta_of t2 own.anchor) ts t2.locks ∷ []) ++ finishing_messages t2.id fate own.anchor t2.locks) none_committed)

    abbrev k4 : Known
    k4 = known_told answer k2

    abbrev t4 : Txn
    t4 = txn_told answer (replies_to k2.sent_now k2.heard_now) t2

    sees : shows_view w.t.id h ≡ true
    sees = ap (λ b. b && is_some (view_in h.reply)) own.about ∙ ap (λ r. is_some (view_in r)) told

    named : anchor_heard w.t.id (k.heard ++ h ∷ []) ≡ Some own.anchor
    named = anchor-last w.t k.heard h w.stands.views sees (own.named ∙ sym own.anchored) ∙ own.anchored

    first : MayBeCommittedFirst k4 ts left
    unfolding over ends
    first = record {
      commit = record {
        t = t4;
        mine = subst (λ ts. Contains ts t4) (sym (still_open k2 answer t2 (map (txn_heard k.sent (Some h)) w.open_in.others) w.open_in.is_open (ap (map (txn_heard k.sent (Some h))) w.open_in.first))) (0, omega arith, refl);
        whose = record { anchored = own.anchored; same = refl };
        all_locks = refl;
        decided = inr (any_last (λ h. IsTrue (shows_committed w.t.id ts h)) k.heard h shown);
      };
      epoch = epoch;
      fate = refl;
      known = inr (any_last (ShowsFate w.t.id fate) k.heard h (record { about = own.about; view = view; told = ap view_in told; fits = over.final.fits }));
      stamps = let low : greatest_of (answer_stamps answer) ≡ max 0 ts = refl in All-cons (λ ts. ts ≤ k4.top + 1) ts [] (omega (arith, low)) (All-nil (λ ts. ts ≤ k4.top + 1));
      named = subst (λ o. IfSome o (λ a. a ≡ own.anchor)) (sym named) refl;
    }

    same_id : x.id ≡ w.t.id
    same_id = ap (λ (x : OpenTxn). x.id) w.stands.same

    -- its record is to be committed first
    pub found_committed_over : (set.course.loses ≡ false → KeepsHeartbeats k2 (events.Tell (answers.Committed x.id ts))) → MayTellOver set session k2 (record { answer = answers.Committed x.id ts; left = left_behind x.anchor (Some ts) fate x })
    unfolding over ends
    found_committed_over beats = record {
      may = record {
        may = may_tell set session k2 w.s (answers.Committed x.id ts) w.opened w.open_in.is_open within (record {
          t = t2;
          opened = open_then fate over.final;
          asked = own.call;
          whose = same_id;
          why = inr (inl (any_last (λ h. IsTrue (shows_committed w.t.id ts h)) k.heard h shown));
        });
        written = tt;
        aborts = λ quiet. tt;
        rolled_back = tt;
        restarts = tt;
        eighth = any_eighth set.course.loses k2 (answers.Committed x.id ts) (ends_eighth (answers.Committed x.id ts) tt);
        blocked = λ piped other at commits. tt;
        beats = beats;
      };
      left = ap left_messages left_now ∙ left_is;
      closed = refl;
      settles =
          subst (λ id. IfSome (left_behind x.anchor (Some ts) fate x) (MayBeSettled (known_told (answers.Committed id ts) k2))) (sym same_id)
          (subst (λ l. IfSome l (MayBeSettled k4)) (sym left_now) first);
    }

  -- ---- it is aborted

  module _ (epoch : ℕ) (why : Why) (locks : List (List ℕ)) (v : view ≡ views.Aborted epoch why locks) where
    aborted : EndsWith w.t own.anchor fates.Aborted k.heard h
    aborted = ends fates.Aborted (subst (λ v. IsFinalAs v fates.Aborted) (sym v) (final_aborted epoch why locks))

    pub found_aborted_over : (set.course.loses ≡ false → KeepsHeartbeats k2 (events.Tell (answers.Aborted why))) → MayTellOver set session k2 (record { answer = answers.Aborted why; left = left_at x.anchor fates.Aborted x })
    unfolding aborted ends
    found_aborted_over beats = record {
      may = record {
        may = may_tell set session k2 w.s (answers.Aborted why) w.opened w.open_in.is_open within (record {
          t = t2;
          opened = open_then fates.Aborted aborted.final;
          heard = any_last (ShowsAborted w.t.id why) k.heard h (record { about = own.about; view = view; told = ap view_in told; cause = subst (AbortsWith why) (sym v) refl });
        });
        written = tt;
        aborts = λ quiet. tt;
        rolled_back = λ is. let e : Some calls.Commit ≡ Some calls.Rollback = sym (ap call_in w.opened ∙ ap Some own.call) ∙ is in absurd cc;
        restarts = tt;
        eighth = any_eighth set.course.loses k2 (answers.Aborted why) (ends_eighth (answers.Aborted why) tt);
        blocked = λ piped other at commits. tt;
        beats = beats;
      };
      left = closing-left k x w.t own.anchor fates.Aborted h w.open_in w.stands.same aborted;
      closed = refl;
      settles = closing-may k x w.t own.anchor fates.Aborted h w.open_in w.stands.same aborted (answers.Aborted why) (still_open k2 (answers.Aborted why) t2 (map (txn_heard k.sent (Some h)) w.open_in.others) w.open_in.is_open (ap (map (txn_heard k.sent (Some h))) w.open_in.first));
    }
