-- What comes of the messages of an open call.
use Rattle.std.proofs.Common.{◌≡◌, ◌≢◌, ℕ, Bool, true, false, cond, ◌||◌, ◌&&◌, ◌⊎◌, inl, inr, List, [], ◌∷◌, find, Option, Some, None, refl, sym, ap, ◌∙◌, subst, OnOk, Ok, Err, Result, All}
use Rattle.std.specs.List.{list_all, list_any}
use Rattle.std.proofs.lemmas.List.Elements.{All-cons, All-nil, All-weaker}
use Rattle.pc_base.specs.declared.transaction.TxnId.{TxnId}
use Rattle.pc_call.specs.declared.call.OpenCall.{OpenCall}
use Rattle.pc_call.specs.declared.over.Over.{Over}
use Rattle.pc_call.specs.declared.purpose.Purpose.TheVariants as purposes
use Rattle.pc_call.specs.Finished.{ends_rolled_back}
use Rattle.pc_call.specs.Reading.{answer_by, answer_read}
use Rattle.pc_call.specs.Outbox.{AreToSendOrOnWay}
use Rattle.pc_call.specs.Refreshing.{IsRestart}
use Rattle.pc_coord.proofs.Dues.{answered_all}
use Rattle.pc_coord.proofs.Onward.{beat_kind, commit_kind, served_beat, served_commit, served_write}
use Rattle.pc_coord.specs.Coming.{ComesOf, IsBlockOf}
use Rattle.pc_coord.specs.Coordination.{Coordination, calling, finishing, setting_of, telling}
use Rattle.pc_coord.specs.declared.due.Due.{Due}
use Rattle.pc_coord.specs.declared.due.Due.TheVariants as dues
use Rattle.pc_coord.specs.declared.job.Job.{Job}
use Rattle.pc_coord.specs.Events.{ShowsUncommitted}
use Rattle.pc_coord.specs.Going.{HearsNow}
use Rattle.pc_proto.specs.declared.answer.Answer.{Answer}
use Rattle.pc_proto.specs.declared.answer.Answer.TheVariants as answers
use Rattle.pc_proto.specs.declared.call.Call.{Call}
use Rattle.pc_proto.specs.declared.reply.Reply.{Reply}
use Rattle.pc_proto.specs.declared.reply.Reply.TheVariants as replies
use Rattle.pc_proto.specs.declared.request.Request.{Request}
use Rattle.pc_proto.specs.declared.request.Request.TheVariants as requests
use Rattle.pc_proto.specs.declared.view.View.{View}
use Rattle.pc_proto.specs.declared.view.View.TheVariants as views
use Rattle.pc_proto.specs.declared.why.Why.{Why}
use Rattle.pc_proto.specs.Replies.{is_conflict}
use Rattle.pc_txn.specs.declared.txn.OpenTxn.{OpenTxn}
use Rattle.pc_wave.proofs.Changed.{found_all, found_passes}
use Rattle.pc_wave.proofs.Rounds.{first_found}
use Rattle.pc_wave.specs.declared.message.Message.{Message}
use Rattle.pc_wave.specs.declared.message.Progress.{Progress}
use Rattle.pc_wave.specs.declared.message.Progress.TheVariants as progresses
use Rattle.pc_wave.specs.declared.step.Step.TheVariants as steps
use Rattle.pc_wave.specs.Messages.{awaits_at, back_with, back_with_by, first_changed, first_in_conflict, has_answer, is_in_conflict, is_out, is_to_send, message_to_send, progress_has_answer, progress_in_conflict, progress_out, progress_to_send, step_by, step_of, wave_awaits}
use Rattle.pc_world.specs.Answering.{IsRecordReply}
use Rattle.pc_world.specs.Known.{Known}
use Rattle.pc_world.specs.Known.Traffic.{Heard}

-- ---- how it is written down

pub told_comes : (messages : List Message) (new c : Coordination) (answer : Answer) (txn : Option OpenTxn) (job : Option Job) → new ≡ telling answer txn job c → IsBlockOf messages answer → ComesOf messages new.due
told_comes messages new c answer txn job made block = subst (λ (n : Coordination). ComesOf messages n.due) (sym made) block

pub called_comes : (messages : List Message) (new c : Coordination) (call : OpenCall) (x : OpenTxn) → new ≡ calling call x c → ComesOf messages (dues.Call call) → ComesOf messages new.due
called_comes messages new c call x made comes = subst (λ (n : Coordination). ComesOf messages n.due) (sym made) comes

pub finished_comes : {T E : Type 0} (r : Result T E) (messages : List Message) (new c : Coordination) (over : Over) → OnOk r (new ≡ finishing over c) → IsBlockOf messages over.answer → OnOk r (ComesOf messages new.due)
finished_comes (Ok value) messages new c over made block = subst (λ (n : Coordination). ComesOf messages n.due) (sym made) block
finished_comes (Err error) messages new c over made block = tt

-- what is so once it was done is so of each
pub each_ok : {T E A : Type 0} (r : Result T E) (P Q : A → Type 0) → ((a : A) → P a → OnOk r (Q a)) → OnOk r ((a : A) → P a → Q a)
each_ok (Ok value) P Q each = each
each_ok (Err error) P Q each = tt

-- ---- answers that no holder blocks

read_by : (messages : List Message) (request : Request) (m : Message) (ms : List Message) → IsBlockOf messages (answer_by request m ms)
read_by messages (requests.Get id epoch seq ts key) m ms = tt
read_by messages request m ms = tt

-- a read is told what it read
pub read_block : (messages ms : List Message) → IsBlockOf messages (answer_read ms)
read_block messages [] = tt
read_block messages (m ∷ ms) = read_by messages m.request m (m ∷ ms)

pub rolled_block : (messages : List Message) (view : View) (why : Why) (x : OpenTxn) → IsBlockOf messages (ends_rolled_back view why x).answer
rolled_block messages (views.Committed epoch ts locks) why x = tt
rolled_block messages (views.Aborted epoch cause locks) why x = tt
rolled_block messages view why x = tt

-- ---- messages of which none is in conflict

goes_met : (p : Progress) → (progress_to_send p ≡ true) ⊎ (progress_out p ≡ true) → progress_in_conflict p ≡ true → ⊥
goes_met progresses.ToSend go met = cc
goes_met (progresses.Sent number) go met = cc
goes_met (progresses.Met number conflict) (inl is) met = cc
goes_met (progresses.Met number conflict) (inr is) met = cc
goes_met (progresses.Answered number reply) go met = cc

blocked_none : (next : Option Message) (b : Bool) (holder : TxnId) → step_by None next b ≡ steps.Blocked holder → ⊥
blocked_none (Some m) b holder e = cc
blocked_none None true holder e = cc
blocked_none None false holder e = cc

-- where each is to be sent or on its way, no holder blocks the call
goes_unblocked : (ms : List Message) → AreToSendOrOnWay ms → (holder : TxnId) → step_of ms ≡ steps.Blocked holder → ⊥
goes_unblocked ms go holder due = by (first_in_conflict ms) refl due
  where
    by : (first : Option Message) → first_in_conflict ms ≡ first → step_by first (find is_to_send ms) (list_all has_answer ms) ≡ steps.Blocked holder → ⊥
    by None is e = blocked_none (find is_to_send ms) (list_all has_answer ms) holder e
    by (Some m) is e =
        let found = (first_found ms m is).0 in
        goes_met m.progress (found_all is_in_conflict (λ (m : Message). (is_to_send m ≡ true) ⊎ (is_out m ≡ true)) ms m found go) (found_passes is_in_conflict ms m found)

goes_block : (messages ms : List Message) (answer : Answer) → AreToSendOrOnWay ms → IsBlockOf ms answer → IsBlockOf messages answer
goes_block messages ms (answers.Blocked holder) go block = absurd (goes_unblocked ms go holder block)
goes_block messages ms answer go block = tt

-- what comes of new messages comes of the old ones, where no conflict of those waits
pub fresh_comes : (messages ms : List Message) (due : Due) → AreToSendOrOnWay ms → list_any is_in_conflict messages ≡ false → ComesOf ms due → ComesOf messages due
fresh_comes messages ms dues.Nothing go none comes = tt
fresh_comes messages ms (dues.Call call) go none (inl same) = inr (subst AreToSendOrOnWay (sym same) go, none)
fresh_comes messages ms (dues.Call call) go none (inr new) = inr (new.0, none)
fresh_comes messages ms (dues.Tell answer) go none comes = goes_block messages ms answer go comes

-- messages that are to be sent
pub to_send_go : (ms : List Message) → All (λ m. is_to_send m ≡ true) ms → AreToSendOrOnWay ms
to_send_go ms unsent = All-weaker (λ m. is_to_send m ≡ true) (λ m. (is_to_send m ≡ true) ⊎ (is_out m ≡ true)) (λ m is. inl is) ms unsent

-- one message that is to be sent
pub one_unsent : (ms : List Message) (request : Request) → ms ≡ message_to_send request ∷ [] → All (λ m. is_to_send m ≡ true) ms
one_unsent ms request one = subst (λ ms. All (λ (m : Message). is_to_send m ≡ true) ms) (sym one) (All-cons (λ (m : Message). is_to_send m ≡ true) (message_to_send request) [] refl (All-nil (λ (m : Message). is_to_send m ≡ true)))

answered_unmet : (p : Progress) → progress_has_answer p ≡ true → progress_in_conflict p ≡ false
answered_unmet progresses.ToSend is = refl
answered_unmet (progresses.Sent number) is = refl
answered_unmet (progresses.Met number conflict) is = absurd cc
answered_unmet (progresses.Answered number reply) is = refl

both_true : (a b : Bool) → (a && b) ≡ true → (a ≡ true) × (b ≡ true)
both_true true b h = (refl, h)
both_true false b h = absurd cc

all_unmet : (ms : List Message) → list_all has_answer ms ≡ true → list_any is_in_conflict ms ≡ false
all_unmet [] all = refl
all_unmet (m ∷ ms) all =
    let h = both_true (has_answer m) (list_all has_answer ms) all in
    ap (λ b. b || list_any is_in_conflict ms) (answered_unmet m.progress h.0) ∙ all_unmet ms h.1

-- where all was answered, no conflict waits
pub answered_none : (ms : List Message) → step_of ms ≡ steps.Answered → list_any is_in_conflict ms ≡ false
answered_none ms due = all_unmet ms (answered_all ms due)

-- ---- a call of one message

lone_awaited : (n : ℕ) (m : Message) → wave_awaits n (m ∷ []) ≡ true → awaits_at n m ≡ true
lone_awaited n m waits = by (awaits_at n m) waits
  where
    by : (b : Bool) → (b || false) ≡ true → b ≡ true
    by true e = refl
    by false e = absurd cc

lone_back : (n : ℕ) (reply : Reply) (m : Message) → is_conflict reply ≡ false → awaits_at n m ≡ true → list_any is_in_conflict (first_changed (awaits_at n) (back_with n reply) (m ∷ [])) ≡ false
lone_back n reply m plain waits =
    ap (λ b. list_any is_in_conflict (cond b (back_with n reply m ∷ []) (m ∷ []))) waits ∙ ap (λ b. list_any is_in_conflict (back_with_by b n reply m ∷ [])) plain

one_back : (n : ℕ) (reply : Reply) (ms : List Message) (m : Message) → ms ≡ m ∷ [] → is_conflict reply ≡ false → wave_awaits n ms ≡ true → list_any is_in_conflict (first_changed (awaits_at n) (back_with n reply) ms) ≡ false
one_back n reply ms m one plain waits =
    ap (λ ms. list_any is_in_conflict (first_changed (awaits_at n) (back_with n reply) ms)) one
    ∙ lone_back n reply m plain (lone_awaited n m (sym (ap (wave_awaits n) one) ∙ waits))

plain_commit : (reply : Reply) → IsRecordReply reply → is_conflict reply ≡ false
plain_commit (replies.Status view) kind = refl
plain_commit reply kind = absurd kind

plain_alive : (reply : Reply) → ShowsUncommitted reply → is_conflict reply ≡ false
plain_alive (replies.Conflict holder ts key) is = absurd is
plain_alive reply is = refl

module _ (loses : Bool) (c : Coordination) (call : OpenCall) (x : OpenTxn) (number : ℕ) (reply : Reply) (k : Known) (h : Heard) (is : HearsNow loses c call x number reply k h) where
  -- once its write was written, no conflict waits
  pub written_none : call.purpose ≡ purposes.Write → is_conflict reply ≡ false → list_any is_in_conflict (first_changed (awaits_at number) (back_with number reply) call.wave) ≡ false
  written_none writes plain =
      let s = served_write (setting_of loses c) k x call.purpose call.wave is.in_call writes in
      one_back number reply call.wave s.m s.one plain is.waited

  -- nor once its heartbeat was answered
  pub beaten_none : (kept : Call) (reading : ℕ) → call.purpose ≡ purposes.Beat kept reading → list_any is_in_conflict (first_changed (awaits_at number) (back_with number reply) call.wave) ≡ false
  beaten_none kept reading beats =
      let s = served_beat (setting_of loses c) k x call.purpose call.wave is.in_call kept reading beats in
      one_back number reply call.wave s.m s.one (plain_alive reply (beat_kind loses c call x number reply k h is kept reading beats)) is.waited

  -- nor once its commit was answered
  pub committed_none : (n : ℕ) → call.purpose ≡ purposes.Commit n → list_any is_in_conflict (first_changed (awaits_at number) (back_with number reply) call.wave) ≡ false
  committed_none n commits =
      let s = served_commit (setting_of loses c) k x call.purpose call.wave is.in_call n commits in
      one_back number reply call.wave s.m s.one (plain_commit reply (commit_kind loses c call x number reply k h is n commits)) is.waited

-- a restart says of no holder that it blocks the call
pub restart_plain : (answer : Answer) → IsRestart answer → (holder : TxnId) → answer ≢ answers.Blocked holder
restart_plain (answers.Restart key ts) is holder e = cc
restart_plain answer is holder e = absurd is
