-- What is due of an open call may be given.
use Rattle.std.proofs.Common.{◌≡◌, ◌⊎◌, ℕ, nat_le, Bool, true, false, cond, inl, inr, List, find, Option, None, Some, Result, Ok, Err, IfOk, refl, sym, ◌∙◌, subst, All}
use Rattle.pc_call.proofs.NextTurn.{in_turn}
use Rattle.pc_call.proofs.Resending.{resent_first}
use Rattle.pc_call.specs.Setting.{Setting}
use Rattle.pc_base.specs.declared.limits.TheConstants.{MOST_CONFLICTS}
use Rattle.pc_base.specs.declared.transaction.TxnId.{TxnId}
use Rattle.std.specs.List.{list_all}
use Rattle.std.proofs.lemmas.Option.{same_Some}
use Rattle.pc_call.proofs.Beating.{undecided_not_aborted}
use Rattle.pc_call.proofs.Blocking.{blocked_by_eighth}
use Rattle.pc_call.proofs.Facts.{open_is}
use Rattle.pc_call.proofs.GoingOut.{beside_puts, proved_first}
use Rattle.pc_call.proofs.Joined.{all_ready}
use Rattle.pc_call.proofs.Ready.{IsReady, IsReadyToSend}
use Rattle.pc_call.proofs.Rounding.{round_due}
use Rattle.pc_call.proofs.Turns.{beats_first, beats_last, its_refresh}
use Rattle.pc_follows.specs.CallMessages.{IsQueryOfOwn}
use Rattle.pc_follows.specs.Heartbeats.{BeatsFirst}
use Rattle.pc_call.specs.declared.purpose.Purpose.{Purpose}
use Rattle.pc_call.specs.Giving.{MayBeGiven}
use Rattle.pc_call.specs.Sending.{IsSendable, IsResentFor}
use Rattle.pc_call.specs.Serving.{InCall}
use Rattle.pc_follows.specs.LastBeats.{BeatsLast}
use Rattle.pc_follows.specs.PipelinedRounds.{AreAllOver, IsInNextTurn}
use Rattle.pc_lists.proofs.Anywhere.{any_of}
use Rattle.pc_proto.specs.declared.event.Event.TheVariants as events
use Rattle.pc_proto.specs.declared.reply.Reply.{Reply}
use Rattle.pc_proto.specs.declared.request.Request.{Request}
use Rattle.pc_proto.specs.Replies.{holder_in}
use Rattle.pc_txn.specs.Counted.{IsCounted}
use Rattle.pc_txn.specs.declared.txn.OpenTxn.{OpenTxn}
use Rattle.pc_txn.specs.Standing.{IsUndecidedOf}
use Rattle.pc_wave.proofs.Changed.{found_all, found_none, found_passes}
use Rattle.pc_wave.proofs.Dues.{may_be_due}
use Rattle.pc_wave.proofs.Rounds.{first_found}
use Rattle.pc_wave.proofs.Sending.{sends_first}
use Rattle.pc_wave.specs.declared.message.Message.{Message}
use Rattle.pc_wave.specs.declared.message.Progress.{Progress}
use Rattle.pc_wave.specs.declared.message.Progress.TheVariants as progresses
use Rattle.pc_wave.specs.declared.step.Step.{Step}
use Rattle.pc_wave.specs.declared.step.Step.TheVariants as steps
use Rattle.pc_wave.specs.Due.{MayBeDue, MayBeSent}
use Rattle.pc_wave.specs.Messages.{conflict_by, first_in_conflict, has_answer, is_in_conflict, is_to_send, progress_in_conflict, step_by, step_in, step_of}
use Rattle.pc_follows.specs.EarlyTell.{IsCommitDecided}
use Rattle.pc_follows.specs.Eighth.{MetEighth}
use Rattle.pc_follows.specs.OwnStages.{IsBesidePuts}
use Rattle.pc_follows.specs.Proving.{WritesBehindProved}
use Rattle.pc_follows.specs.Refreshes.{IsItsRefresh}
use Rattle.pc_world.specs.Known.{Known}
use Rattle.pc_world.specs.Known.Transactions.{Txn}
use Rattle.pc_world.specs.Views.{ShowsAborted, WasAborted}

no_delivery : (o : Option TxnId) (number : ℕ) (conflict : Reply) → conflict_by o number conflict ≡ steps.Deliver → ⊥
no_delivery None number conflict e = cc
no_delivery (Some holder) number conflict e = cc

met_first : (conflicts : ℕ) (pr : Progress) → progress_in_conflict pr ≡ true → step_in conflicts pr ≡ steps.Deliver → ⊥
met_first conflicts progresses.ToSend is e = cc
met_first conflicts (progresses.Sent number) is e = cc
met_first conflicts (progresses.Met number conflict) is e = no_delivery (cond (nat_le MOST_CONFLICTS conflicts) (holder_in conflict) None) number conflict e
met_first conflicts (progresses.Answered number reply) is e = cc

-- where the messages are delivered, all were sent
all_sent : (ms : List Message) → step_of ms ≡ steps.Deliver → All (λ m. is_to_send m ≡ false) ms
all_sent ms due = by (first_in_conflict ms) (find is_to_send ms) (list_all has_answer ms) refl refl due
  where
    by : (first next : Option Message) (b : Bool) → first_in_conflict ms ≡ first → find is_to_send ms ≡ next → step_by first next b ≡ steps.Deliver → All (λ m. is_to_send m ≡ false) ms
    by (Some m) next b first none e = absurd (met_first m.conflicts m.progress (found_passes is_in_conflict ms m (first_found ms m first).0) e)
    by None (Some m) b first none e = absurd cc
    by None None b first none e = found_none is_to_send ms none

module _ (session clock count : ℕ) (set : Setting) (k : Known) (x : OpenTxn) (p : Purpose) (ms : List Message) (counted : IsCounted session clock count k) (w : InCall set k x p ms) where
  -- the transaction is not decided
  undecided : {request : Request} → IsReady set session k request → (t : Txn) → IsCommitDecided k t → ⊥
  undecided here t (inl (ts, known)) = here.undecided t ts known
  undecided here t (inr (why, known)) =
      let same : t ≡ w.t = same_Some t w.t (sym known.opened ∙ open_is k w.t w.open_in) in
      let f = any_of (IsUndecidedOf w.t) (ShowsAborted w.t.id why) k.heard w.stands.views (subst (λ (t : Txn). WasAborted k.heard t.id why) same known.heard) in
      undecided_not_aborted w.t f.0 why f.1 f.2

  send_due : (request : Request) → step_of ms ≡ steps.Send request → IsSendable set session k request
  send_due request due =
      let f = sends_first (first_in_conflict ms) (find is_to_send ms) (list_all has_answer ms) request due in
      let all : All (IsReadyToSend set session k) ms = all_ready session clock count set k x p ms counted w in
      let r : IsReady set session k f.0.request = found_all is_to_send (IsReadyToSend set session k) ms f.0 f.1 all (found_passes is_to_send ms f.0 f.1) in
      let here : IsReady set session k request = subst (IsReady set session k) f.2 r in
      let may : MayBeSent set.course.loses set.course k request × (MetEighth k request → ⊥) = subst (MayBeDue set.course k ms) due (may_be_due set.course k ms w.wave) in
      record {
        row = here.row;
        stamps = here.stamps;
        kind = here.kind;
        undecided = undecided here;
        goes = may.0;
        below = may.1;
        before = here.before;
        own = here.own;
        refresh = λ quiet. subst (IsItsRefresh k) f.2 (its_refresh set k x p ms w f.0 f.1 quiet);
        last_beats = λ quiet number range. subst (λ r. BeatsLast k (events.Send number range r)) f.2 (beats_last set k x p ms w f.0 f.1 quiet number range);
        beats = λ quiet t opened. subst (λ t. BeatsFirst k t request) (same_Some w.t t (sym (open_is k w.t w.open_in) ∙ opened)) (subst (BeatsFirst k w.t) f.2 (beats_first set k x p ms w f.0 f.1 quiet));
        proved = λ number range. subst (λ r. WritesBehindProved k (events.Send number range r)) f.2 (proved_first set k x p ms w f.0 f.1 number range);
        stages = subst (IsBesidePuts k) f.2 (beside_puts set k x p ms w f.0 f.1);
        resent = λ quiet. subst (IsResentFor k) f.2 (resent_first set k x p ms w f.0 f.1 quiet);
        turn = λ quiet piped over. subst (IsInNextTurn k) f.2 (in_turn set k x p ms w f.0 f.1 (subst (λ r. AreAllOver k ⊎ IsQueryOfOwn k r) (sym f.2) over));
      }

  given : (step : Step) → step_of ms ≡ step → MayBeDue set.course k ms step → MayBeGiven session set k x p ms step
  given (steps.Send request) due may = send_due request due
  given steps.Deliver due may = record { some = may; sent = all_sent ms due }
  given (steps.Round number conflict) due may = round_due session clock count set k x p ms counted w number conflict due
  given (steps.Blocked holder) due may = blocked_by_eighth session clock count set k x p ms counted w holder due
  given steps.Answered due may = may

  may_be_given : MayBeGiven session set k x p ms (step_of ms)
  may_be_given = given (step_of ms) refl (may_be_due set.course k ms w.wave)

  -- so what a call gives that gives what is due
  pub step_given : {E : Type 0} (r : Result Step E) → IfOk r (λ step. step ≡ step_of ms) → IfOk r (MayBeGiven session set k x p ms)
  step_given (Ok step) e = subst (MayBeGiven session set k x p ms) (sym e) may_be_given
  step_given (Err fault) e = e
