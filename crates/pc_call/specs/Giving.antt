-- What is due of an open call may come.
use Rattle.std.specs.Prelude.{◌≡◌, ℕ, Bool, true, false, List, All, IsTrue}
use Rattle.std.specs.List.{list_any}
use Rattle.pc_call.specs.Setting.{Setting}
use Rattle.pc_call.specs.BlockedStage.{IsBlockedStage}
use Rattle.pc_call.specs.declared.purpose.Purpose.{Purpose}
use Rattle.pc_call.specs.declared.purpose.Purpose.TheVariants as purposes
use Rattle.pc_call.specs.Opening.{reader_of}
use Rattle.pc_call.specs.Sending.{IsConflictNow, IsSendable}
use Rattle.pc_call.specs.Telling.{MayTellOpen}
use Rattle.pc_proto.specs.declared.answer.Answer.TheVariants as answers
use Rattle.pc_txn.specs.declared.txn.OpenTxn.{OpenTxn}
use Rattle.pc_wave.specs.declared.message.Message.{Message}
use Rattle.pc_wave.specs.declared.step.Step.{Step}
use Rattle.pc_wave.specs.declared.step.Step.TheVariants as steps
use Rattle.pc_wave.specs.Due.{WasAnsweredWith}
use Rattle.pc_wave.specs.Messages.{is_out, is_to_send}
use Rattle.pc_world.specs.Known.{Known}
use Rattle.pc_base.specs.declared.transaction.TxnId.{TxnId}

-- The messages may be delivered: some reply is waited for, and none of them is still to be sent.
pub record AreDeliverable (messages : List Message) : Type 0 where
  pub some : IsTrue (list_any is_out messages)
  pub sent : All (λ m. is_to_send m ≡ false) messages

-- The call stages.
abbrev pub is_for_stage : Purpose → Bool
is_for_stage (purposes.Stage refusals) = true
is_for_stage _ = false

-- A holder that blocks the call may be told, and its transaction stays open; one that blocks a stage is why the commit would give up, or ask for the
-- write.
abbrev pub MayBlockIt : ℕ → Setting → Known → OpenTxn → Purpose → List Message → TxnId → Type 0
MayBlockIt session set k x (purposes.Stage refusals) messages holder = IsBlockedStage set k x refusals messages holder
MayBlockIt session set k x purpose messages holder = MayTellOpen set session k (answers.Blocked holder) x

-- A request may be sent; the messages are delivered where a reply is waited for and all were sent; a conflict that was heard has its round; a
-- holder may block the call; and all is answered where each message was.
abbrev pub MayBeGiven : ℕ → Setting → Known → OpenTxn → Purpose → List Message → Step → Type 0
MayBeGiven session set k x purpose messages (steps.Send request) = IsSendable set session k request
MayBeGiven session set k x purpose messages steps.Deliver = AreDeliverable messages
MayBeGiven session set k x purpose messages (steps.Round number conflict) = IsConflictNow set.course k number conflict (reader_of purpose x)
MayBeGiven session set k x purpose messages (steps.Blocked holder) = MayBlockIt session set k x purpose messages holder
MayBeGiven session set k x purpose messages steps.Answered = All (WasAnsweredWith set.course k) messages
