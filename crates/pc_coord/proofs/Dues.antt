-- What is due of a wave, and which of its messages are waited for then.
use Rattle.std.proofs.Common.{◌≡◌, ℕ, nat_le, Bool, true, false, cond, ◌&&◌, ◌||◌, List, [], ◌∷◌, find, Option, Some, None, refl, ap, ◌∙◌}
use Rattle.std.specs.List.{list_all, list_any}
use Rattle.pc_base.specs.declared.limits.TheConstants.{MOST_CONFLICTS}
use Rattle.pc_base.specs.declared.transaction.TxnId.{TxnId}
use Rattle.pc_proto.specs.declared.reply.Reply.{Reply}
use Rattle.pc_proto.specs.Replies.{holder_in}
use Rattle.pc_wave.proofs.Rounds.{first_found}
use Rattle.pc_wave.specs.declared.message.Message.{Message}
use Rattle.pc_wave.specs.declared.message.Progress.{Progress}
use Rattle.pc_wave.specs.declared.message.Progress.TheVariants as progresses
use Rattle.pc_wave.specs.declared.step.Step.TheVariants as steps
use Rattle.pc_wave.specs.Messages.{conflict_by, first_in_conflict, has_answer, is_out, is_to_send, progress_awaits, progress_has_answer, progress_out, step_by, step_in, step_of, wave_awaits}
use Rattle.pc_call.proofs.Facts.{all_out}
use Rattle.pc_coord.specs.Coordination.{HasSentWave, SendsNoMore}
use Rattle.pc_coord.specs.declared.due.Due.{Due}
use Rattle.pc_coord.specs.declared.due.Due.TheVariants as dues

no_answer : (o : Option TxnId) (number : ℕ) (conflict : Reply) → conflict_by o number conflict ≡ steps.Answered → ⊥
no_answer None number conflict e = cc
no_answer (Some holder) number conflict e = cc

unanswered : (conflicts : ℕ) (p : Progress) → step_in conflicts p ≡ steps.Answered → ⊥
unanswered conflicts progresses.ToSend e = cc
unanswered conflicts (progresses.Sent number) e = cc
unanswered conflicts (progresses.Met number conflict) e = no_answer (cond (nat_le MOST_CONFLICTS conflicts) (holder_in conflict) None) number conflict e
unanswered conflicts (progresses.Answered number reply) e = cc

answered_by : (first next : Option Message) (b : Bool) → step_by first next b ≡ steps.Answered → b ≡ true
answered_by (Some m) next b e = absurd (unanswered m.conflicts m.progress e)
answered_by None (Some m) b e = absurd cc
answered_by None None true e = refl
answered_by None None false e = absurd cc

-- where all was answered, each message was
pub answered_all : (ms : List Message) → step_of ms ≡ steps.Answered → list_all has_answer ms ≡ true
answered_all ms due = answered_by (first_in_conflict ms) (find is_to_send ms) (list_all has_answer ms) due

answered_at : (n : ℕ) (p : Progress) → progress_has_answer p ≡ true → progress_awaits n p ≡ false
answered_at n progresses.ToSend is = absurd cc
answered_at n (progresses.Sent number) is = absurd cc
answered_at n (progresses.Met number conflict) is = absurd cc
answered_at n (progresses.Answered number reply) is = refl

both_true : (a b : Bool) → (a && b) ≡ true → (a ≡ true) × (b ≡ true)
both_true true b h = (refl, h)
both_true false b h = absurd cc

all_answered : (n : ℕ) (ms : List Message) → list_all has_answer ms ≡ true → wave_awaits n ms ≡ false
all_answered n [] all = refl
all_answered n (m ∷ ms) all =
    let h = both_true (has_answer m) (list_all has_answer ms) all in
    ap (λ b. b || wave_awaits n ms) (answered_at n m.progress h.0) ∙ all_answered n ms h.1

-- then no reply is waited for
pub answered_idle : (n : ℕ) (ms : List Message) → step_of ms ≡ steps.Answered → wave_awaits n ms ≡ false
answered_idle n ms due = all_answered n ms (answered_all ms due)

blocked_first : (first next : Option Message) (b : Bool) (holder : TxnId) → step_by first next b ≡ steps.Blocked holder → (m : Message) × (first ≡ Some m)
blocked_first (Some m) next b holder e = (m, refl)
blocked_first None (Some m) b holder e = absurd cc
blocked_first None None true holder e = absurd cc
blocked_first None None false holder e = absurd cc

idle_at : (n : ℕ) (p : Progress) → progress_out p ≡ false → progress_awaits n p ≡ false
idle_at n progresses.ToSend is = refl
idle_at n (progresses.Sent number) is = absurd cc
idle_at n (progresses.Met number conflict) is = refl
idle_at n (progresses.Answered number reply) is = refl

or_parts : (a b : Bool) → (a || b) ≡ false → (a ≡ false) × (b ≡ false)
or_parts true b e = absurd cc
or_parts false b e = (refl, e)

pub none_awaited : (n : ℕ) (ms : List Message) → list_any is_out ms ≡ false → wave_awaits n ms ≡ false
none_awaited n [] e = refl
none_awaited n (m ∷ ms) e =
    let parts = or_parts (is_out m) (list_any is_out ms) e in
    ap (λ b. b || wave_awaits n ms) (idle_at n m.progress parts.0) ∙ none_awaited n ms parts.1

-- nor where one blocks its call
pub blocked_idle : (n : ℕ) (ms : List Message) (holder : TxnId) → step_of ms ≡ steps.Blocked holder → wave_awaits n ms ≡ false
blocked_idle n ms holder due =
    let f = blocked_first (first_in_conflict ms) (find is_to_send ms) (list_all has_answer ms) holder due in
    none_awaited n ms (first_found ms f.0 f.1).1

-- where nothing is to be sent, all went out
pub gone_out : (due : Due) → SendsNoMore due → HasSentWave due
gone_out (dues.Call call) none = all_out call.wave none
gone_out dues.Nothing none = tt
gone_out (dues.Tell answer) none = tt
