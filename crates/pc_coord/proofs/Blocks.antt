-- A conflict whose push was refused blocks its call.
use Rattle.std.proofs.Common.{◌≡◌, ℕ, Bool, true, false, cond, ◌⊎◌, inl, ◌++◌, List, Option, None, Some, refl, sym, ap, ◌∙◌, subst, All, IsTrue}
use Rattle.std.specs.Option.{option_map}
use Rattle.std.proofs.lemmas.List.{append_assoc}
use Rattle.std.proofs.lemmas.List.Elements.{All-append, All-weaker}
use Rattle.std.proofs.lemmas.Option.{same_Some}
use Rattle.pc_base.specs.declared.transaction.TxnId.{TxnId}
use Rattle.pc_call.specs.declared.purpose.Purpose.{Purpose}
use Rattle.pc_call.specs.declared.purpose.Purpose.TheVariants as purposes
use Rattle.pc_call.specs.Giving.{is_for_stage}
use Rattle.pc_call.specs.Rounding.{GoesOnBeside, RefusesRound}
use Rattle.pc_call.specs.Serving.{IsSplit}
use Rattle.pc_coord.proofs.Dues.{none_awaited}
use Rattle.pc_coord.proofs.Tells.{IsStaying}
use Rattle.pc_coord.specs.Going.{BeginsNothing}
use Rattle.pc_proto.specs.declared.answer.Answer.{Answer}
use Rattle.pc_proto.specs.declared.answer.Answer.TheVariants as answers
use Rattle.pc_proto.specs.declared.reply.Reply.{Reply}
use Rattle.pc_proto.specs.declared.reply.Reply.TheVariants as replies
use Rattle.pc_proto.specs.Replies.{holder_in}
use Rattle.pc_wave.proofs.Rounds.{due_round, first_found}
use Rattle.pc_wave.specs.declared.message.Message.{Message}
use Rattle.pc_wave.specs.declared.step.Step.TheVariants as steps
use Rattle.pc_wave.specs.Messages.{step_of, wave_awaits}
use Rattle.pc_wave.specs.Standing.{goes_beside}
use Rattle.pc_world.specs.Known.{Known}
use Rattle.pc_world.specs.Known.Traffic.{Sent}
use Rattle.pc_world.specs.Tell.Refusal.{is_heard}

module _ (conflict : Reply) (holder : TxnId) where
  -- what blocks a stage is of a call that stages
  pub asked_stage : (p : Purpose) → cond (is_for_stage p) (holder_in conflict) None ≡ Some holder → (n : ℕ) × (p ≡ purposes.Stage n)
  asked_stage (purposes.Stage n) is = (n, refl)
  asked_stage (purposes.Beat call reading) is = absurd cc
  asked_stage (purposes.Prove call all) is = absurd cc
  asked_stage purposes.Read is = absurd cc
  asked_stage purposes.Write is = absurd cc
  asked_stage (purposes.Refresh n puts) is = absurd cc
  asked_stage (purposes.Query n by puts) is = absurd cc
  asked_stage (purposes.Commit n) is = absurd cc
  asked_stage (purposes.LastBeat answer reading) is = absurd cc
  asked_stage (purposes.Abort why) is = absurd cc

  named : (b : Bool) → cond b (holder_in conflict) None ≡ Some holder → (holder_in conflict ≡ Some holder) × (b ≡ true)
  named true is = (is, refl)
  named false is = absurd cc

  pub stage_named : (p : Purpose) → cond (is_for_stage p) (holder_in conflict) None ≡ Some holder → holder_in conflict ≡ Some holder
  stage_named p is = (named (is_for_stage p) is).0

  pub stage_held : (p : Purpose) → cond (is_for_stage p) (holder_in conflict) None ≡ Some holder → is_for_stage p ≡ false → ⊥
  stage_held p is isnt = let e : false ≡ true = sym isnt ∙ (named (is_for_stage p) is).1 in cc

pub has_holder : (start k : Known) (own : TxnId) (conflict : Reply) → RefusesRound start k own conflict → (holder : TxnId) × (holder_in conflict ≡ Some holder)
has_holder start k own (replies.Conflict holder ts key) refused = (holder.id, refl)
has_holder start k own conflict refused = absurd refused.refused

-- where none blocks a stage, the call does not stage
pub unstaged : (start k : Known) (own : TxnId) (conflict : Reply) (p : Purpose) → RefusesRound start k own conflict → cond (is_for_stage p) (holder_in conflict) None ≡ None → is_for_stage p ≡ false
unstaged start k own conflict p refused none = by (is_for_stage p) refl
  where
    by : (b : Bool) → is_for_stage p ≡ b → b ≡ false
    by true is = let h = has_holder start k own conflict refused in let e : None ≡ Some h.0 = sym none ∙ ap (λ b. cond b (holder_in conflict) None) is ∙ h.1 in cc
    by false is = refl

-- no reply is waited for where a round is due
pub round_idle : (n : ℕ) (ms : List Message) (number : ℕ) (conflict : Reply) → step_of ms ≡ steps.Round number conflict → wave_awaits n ms ≡ false
round_idle n ms number conflict due = let f = due_round ms number conflict due in none_awaited n ms (first_found ms f.0 f.1).1

-- what was sent and heard parts so still
pub split_beside : (start k : Known) (own : TxnId) → GoesOnBeside start k own → IsSplit start → IsSplit k
split_beside start k own g s = record {
  sent_first = s.sent_first;
  sent = g.more.sent ∙ (ap (λ ms. ms ++ g.sent_more) s.sent ∙ (append_assoc s.sent_first start.sent_now g.sent_more ∙ ap (λ ms. s.sent_first ++ ms) (sym g.more.sent_now)));
  heard_first = s.heard_first;
  heard = g.more.heard ∙ (ap (λ hs. hs ++ g.heard_more) s.heard ∙ (append_assoc s.heard_first start.heard_now g.heard_more ∙ ap (λ hs. s.heard_first ++ hs) (sym g.more.heard_now)));
  unheard =
      let P : Sent → Type 0 = λ m. IsTrue (goes_beside m.request) ⊎ (is_heard s.heard_first m ≡ false) in
      subst (λ ms. All P ms) (sym g.more.sent_now) (All-append P start.sent_now g.sent_more s.unheard (All-weaker (λ m. IsTrue (goes_beside m.request)) P (λ m of. inl of) g.sent_more g.sent_beside));
}

-- nor does the call begin a transaction then
pub beside_begins : (start k : Known) (own : TxnId) → GoesOnBeside start k own → BeginsNothing start → BeginsNothing k
beside_begins start k own g none s is = none s (sym g.statement ∙ is)

-- a holder that blocks a call leaves its transaction open
pub blocked_stays : (o : Option TxnId) (answer : Answer) → option_map answers.Blocked o ≡ Some answer → IsStaying answer
blocked_stays None answer is = absurd cc
blocked_stays (Some holder) answer is = subst IsStaying (same_Some (answers.Blocked holder) answer is) tt

pub blocked_as : (o : Option TxnId) (answer : Answer) (holder : TxnId) → option_map answers.Blocked o ≡ Some answer → o ≡ Some holder → answer ≡ answers.Blocked holder
blocked_as o answer holder is same = same_Some answer (answers.Blocked holder) (sym is ∙ ap (option_map answers.Blocked) same)
