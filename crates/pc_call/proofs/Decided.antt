-- The reply to the commit of an open call shows that its transaction is decided.
use Rattle.std.proofs.Common.{◌≡◌, ℕ, ◌+◌, ◌≤◌, nat_lt, Bool, true, false, cond, ◌&&◌, ◌||◌, ◌==◌, inl, inr, List, [], ◌∷◌, length, map, None, Some, refl, sym, ap, ◌∙◌, subst, arith, IsTrue}
use Rattle.std.specs.Option.{option_map_or}
use Rattle.std.proofs.lemmas.Bool.{and_from, eq-eqb}
use Rattle.std.proofs.lemmas.List.Elements.{All-cons, All-nil}
use Rattle.pc_call.specs.Setting.{Setting}
use Rattle.pc_call.proofs.Closing.{closing-committed, closing-left, closing-may, opened3}
use Rattle.pc_call.proofs.Eighths.{any_eighth, no_eighth_move}
use Rattle.pc_call.proofs.Ending.{EndsWith, IsFinalAs, final_aborted, final_committed}
use Rattle.pc_call.proofs.Facts.{unmoved}
use Rattle.pc_call.proofs.Beating.{beaten_tells}
use Rattle.pc_call.proofs.Hearing.{beaten_on, more, numbered_now, one_asked}
use Rattle.pc_call.proofs.Silent.{IsBeatPurpose}
use Rattle.pc_follows.specs.Heartbeats.{KeepsHeartbeats}
use Rattle.pc_proto.specs.declared.event.Event.TheVariants as events
use Rattle.pc_call.proofs.Told.{may_tell, still_open}
use Rattle.pc_call.specs.declared.purpose.Purpose.{Purpose}
use Rattle.pc_call.specs.declared.purpose.Purpose.TheVariants as purposes
use Rattle.pc_call.specs.Finished.{MayTellOver, left_at}
use Rattle.pc_call.specs.Learned.{known_heard}
use Rattle.pc_call.specs.Serving.{InCall, Serves, ServesCommit, commit_asked, out_of}
use Rattle.pc_lists.proofs.Anywhere.{any_last}
use Rattle.pc_lists.proofs.Same.{same_txn-self}
use Rattle.pc_proto.specs.declared.answer.Answer.{Answer}
use Rattle.pc_proto.specs.declared.call.Call.TheVariants as calls
use Rattle.pc_proto.specs.declared.answer.Answer.TheVariants as answers
use Rattle.pc_proto.specs.declared.fate.Fate.{Fate}
use Rattle.pc_proto.specs.declared.fate.Fate.TheVariants as fates
use Rattle.pc_proto.specs.declared.reply.Reply.{Reply}
use Rattle.pc_proto.specs.declared.reply.Reply.TheVariants as replies
use Rattle.pc_proto.specs.declared.request.Request.{Request}
use Rattle.pc_proto.specs.declared.request.Request.TheVariants as requests
use Rattle.pc_proto.specs.declared.view.View.{View}
use Rattle.pc_proto.specs.declared.view.View.TheVariants as views
use Rattle.pc_proto.specs.declared.why.Why.{Why}
use Rattle.pc_proto.specs.Replies.{is_undecided_status, status_ts, view_in}
use Rattle.pc_proto.specs.Requests.{is_about, is_commit, subject_anchor}
use Rattle.pc_proto.specs.Views.{AbortsWith, is_committed_at}
use Rattle.pc_refusals.proofs.Counted.{refusals_go}
use Rattle.pc_refusals.specs.Moves.{IsNoMove}
use Rattle.pc_txn.proofs.Commits.{commit_now}
use Rattle.pc_txn.specs.Counted.{IsCounted}
use Rattle.pc_txn.specs.declared.txn.OpenTxn.{OpenTxn}
use Rattle.pc_txn.specs.Opened.{own_commit}
use Rattle.pc_txn.specs.Standing.{TxnStands}
use Rattle.pc_wave.proofs.Hearing.{awaits_as}
use Rattle.pc_wave.specs.declared.message.Message.{Message}
use Rattle.pc_wave.specs.declared.message.Progress.TheVariants as progresses
use Rattle.pc_wave.specs.Messages.{awaits_at, progress_to_send, wave_awaits}
use Rattle.pc_wave.specs.Standing.{IsHeardTo}
use Rattle.pc_follows.specs.Eighth.{TellsTheEighth, WasMovedEighth}
use Rattle.pc_follows.specs.FinishingJobs.{is_commit_told}
use Rattle.pc_world.specs.Known.{Known, call_in}
use Rattle.pc_world.specs.Known.Statements.{Statement}
use Rattle.pc_world.specs.Known.Traffic.{Heard, Sent}
use Rattle.pc_world.specs.Known.Transactions.{Txn, txn_heard}
use Rattle.pc_world.specs.MayTell.{is_past_range}
use Rattle.pc_world.specs.StageFate.{commit_request}
use Rattle.pc_world.specs.Tell.Refusal.{is_moved}
use Rattle.pc_world.specs.Views.{ShowsAborted, shows_committed}

-- one message of which the reply is waited for went out under its number
pub one_out : (number : ℕ) (m : Message) → wave_awaits number (m ∷ []) ≡ true → m.progress ≡ progresses.Sent number
one_out number m waited = awaits_as number m.progress (by (awaits_at number m) waited)
  where
    by : (b : Bool) → (b || false) ≡ true → b ≡ true
    by true h = refl
    by false h = absurd cc

-- what shows no record that is not final moves nothing
pub decided_moves : (r : Request) (reply : Reply) → is_undecided_status reply ≡ false → is_moved r reply ≡ false
decided_moves (requests.Stage meta ts now writes locks) reply e = ap (λ b. b && nat_lt ts (status_ts reply)) e
decided_moves (requests.Commit meta ts locks) reply e = ap (λ b. b && nat_lt ts (status_ts reply)) e
decided_moves r reply e = refl

module _ (session clock count : ℕ) (set : Setting) (k : Known) (x : OpenTxn) (p : Purpose) (ms : List Message) (counted : IsCounted session clock count k) (w : InCall set k x p ms)
    (number : ℕ) (view : View) (h : Heard) (waited : wave_awaits number ms ≡ true) (is : IsHeardTo k number (replies.Status view) h) (n : ℕ) (e : p ≡ purposes.Commit n) where
  abbrev k2 : Known
  k2 = known_heard h k

  abbrev t2 : Txn
  t2 = txn_heard k.sent (Some h) w.t

  pub commits : ServesCommit n k w.s w.t x ms
  commits = subst (λ q. Serves set k w.s w.t x w.stages q ms) e w.serves

  pub commit_out : commits.m.progress ≡ progresses.Sent number
  commit_out = one_out number commits.m (subst (λ ms. wave_awaits number ms ≡ true) commits.one waited)

  pub commit_said : h.request ≡ own_commit x commits.commits.anchor
  commit_said = one_asked session clock count set k x p ms counted w number (replies.Status view) h waited is commits.m commits.one ∙ commits.said

  -- as the session knows it
  pub commit_known : h.request ≡ commit_request (commit_now w.t commits.commits.anchor)
  commit_known = commit_said ∙ ap (λ x. own_commit x commits.commits.anchor) w.stands.same

  pub commit_stands : TxnStands k w.stages (Some (commit_now w.t commits.commits.anchor)) w.t x
  commit_stands =
      let out : out_of p ms ≡ Some (commit_now w.t commits.commits.anchor) =
      ap (λ q. out_of q ms) e ∙ ap (out_of (purposes.Commit n)) commits.one ∙ ap (λ pr. cond (progress_to_send pr && (commits.m.lost == 0)) None (commit_asked commits.m.request)) commit_out
      ∙ ap commit_asked commits.said ∙ ap (λ x. commit_asked (own_commit x commits.commits.anchor)) w.stands.same in
      subst (λ o. TxnStands k w.stages o w.t x) out w.stands

  pub within : is_past_range w.s ≡ false
  within = ap (λ call. is_past_range (record { call = call; reading = w.s.reading })) commits.commits.call

  decided_beats : (answer : Answer) → set.course.loses ≡ false → KeepsHeartbeats k2 (events.Tell answer)
  decided_beats answer =
      beaten_tells set.course.loses k2 t2 answer
      (record { others = map (txn_heard k.sent (Some h)) w.open_in.others; is_open = w.open_in.is_open; first = ap (map (txn_heard k.sent (Some h))) w.open_in.first })
      (beaten_on session clock count set k x p ms counted w number (replies.Status view) h waited is (λ beat. subst IsBeatPurpose e beat))

  module _ (decided : is_undecided_status h.reply ≡ false) where
    unmoved2 : WasMovedEighth k2 → ⊥
    unmoved2 =
        unmoved k2 n
        (refusals_go n k k2 [] (h ∷ []) commits.commits.moves (more session clock count set k x p ms counted w number (replies.Status view) h waited is)
        (numbered_now session clock count set k x p ms counted w number (replies.Status view) h waited is) (All-nil (λ (m : Sent). length k.sent + 1 ≤ m.number))
        (All-cons IsNoMove h [] (decided_moves h.request h.reply decided) (All-nil IsNoMove)))
        (omega (arith, commits.commits.few))

    decided_eighth : (answer : Answer) (s : Statement) → k2.statement ≡ Some s → TellsTheEighth k2 s answer
    decided_eighth answer = no_eighth_move k2 w.s answer w.opened commits.commits.call unmoved2

    module _ (fate : Fate) (final : IsFinalAs view fate) where
      ends : EndsWith w.t commits.commits.anchor fate k.heard h
      ends = record {
        anchored = commits.commits.anchored;
        undecided = w.stands.views;
        about = ap (is_about w.t.id) commit_known ∙ same_txn-self w.t.id;
        named = ap subject_anchor commit_known;
        view = view;
        told = ap view_in is.told;
        final = final;
      }

  pub committed_over : (epoch ts : ℕ) (locks : List (List ℕ)) → view ≡ views.Committed epoch ts locks → MayTellOver set session k2 (record { answer = answers.Committed x.id ts; left = left_at x.anchor (fates.Committed epoch ts) x })
  committed_over epoch ts locks v =
      let answer = answers.Committed x.id ts in
      let fate = fates.Committed epoch ts in
      let decided : is_undecided_status h.reply ≡ false = ap is_undecided_status is.told ∙ ap (λ v. is_undecided_status (replies.Status v)) v in
      let over : EndsWith w.t commits.commits.anchor fate k.heard h = ends decided fate (subst (λ v. IsFinalAs v fate) (sym v) (final_committed epoch ts locks)) in
      let shown : IsTrue (shows_committed w.t.id ts h) =
      and_from (is_about w.t.id h.request) (option_map_or (is_committed_at ts) (view_in h.reply) false) over.about
      (ap (λ r. option_map_or (is_committed_at ts) (view_in r) false) is.told ∙ ap (is_committed_at ts) v ∙ eq-eqb ts ts refl) in
      let told : IsTrue (is_commit_told w.t.id ts h) = and_from (is_commit h.request) (shows_committed w.t.id ts h) (ap is_commit commit_known) shown in
      record {
        may = record {
          may = may_tell set session k2 w.s answer w.opened w.open_in.is_open within (record {
            t = t2;
            opened = opened3 k x w.t commits.commits.anchor fate h w.open_in w.stands.same over;
            asked = commits.commits.call;
            whose = ap (λ x. x.id) w.stands.same;
            why = inr (inl (any_last (λ h. IsTrue (shows_committed w.t.id ts h)) k.heard h shown));
          });
          written = tt;
          aborts = λ quiet. tt;
          rolled_back = tt;
          restarts = tt;
          eighth = any_eighth set.course.loses k2 answer (decided_eighth decided answer);
          blocked = λ piped other at commits. tt;
          beats = decided_beats answer;
        };
        left = closing-committed k x w.t commits.commits.anchor fate h w.open_in w.stands.same over ts told;
        closed = refl;
        settles = closing-may k x w.t commits.commits.anchor fate h w.open_in w.stands.same over answer (still_open k2 answer t2 (map (txn_heard k.sent (Some h)) w.open_in.others) w.open_in.is_open (ap (map (txn_heard k.sent (Some h))) w.open_in.first));
      }

  pub aborted_over : (epoch : ℕ) (why : Why) (locks : List (List ℕ)) → view ≡ views.Aborted epoch why locks → MayTellOver set session k2 (record { answer = answers.Aborted why; left = left_at x.anchor fates.Aborted x })
  aborted_over epoch why locks v =
      let answer = answers.Aborted why in
      let decided : is_undecided_status h.reply ≡ false = ap is_undecided_status is.told ∙ ap (λ v. is_undecided_status (replies.Status v)) v in
      let over : EndsWith w.t commits.commits.anchor fates.Aborted k.heard h = ends decided fates.Aborted (subst (λ v. IsFinalAs v fates.Aborted) (sym v) (final_aborted epoch why locks)) in
      record {
        may = record {
          may = may_tell set session k2 w.s answer w.opened w.open_in.is_open within (record {
            t = t2;
            opened = opened3 k x w.t commits.commits.anchor fates.Aborted h w.open_in w.stands.same over;
            heard = any_last (ShowsAborted w.t.id why) k.heard h (record { about = over.about; view = view; told = ap view_in is.told; cause = subst (AbortsWith why) (sym v) refl });
          });
          written = tt;
          aborts = λ quiet. tt;
          rolled_back = λ is. let e : Some calls.Commit ≡ Some calls.Rollback = sym (ap call_in w.opened ∙ ap Some commits.commits.call) ∙ is in absurd cc;
          restarts = tt;
          eighth = any_eighth set.course.loses k2 answer (decided_eighth decided answer);
          blocked = λ piped other at commits. tt;
          beats = decided_beats answer;
        };
        left = closing-left k x w.t commits.commits.anchor fates.Aborted h w.open_in w.stands.same over;
        closed = refl;
        settles = closing-may k x w.t commits.commits.anchor fates.Aborted h w.open_in w.stands.same over answer (still_open k2 answer t2 (map (txn_heard k.sent (Some h)) w.open_in.others) w.open_in.is_open (ap (map (txn_heard k.sent (Some h))) w.open_in.first));
      }
