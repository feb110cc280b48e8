-- Messages of an open call of which nothing is heard: they go out again until their tries are used up. Own profile.
use Rattle.std.specs.Prelude.{ℕ, ◌&&◌, not, Bool, false, if◌then◌else◌, is_some, Option, None, Some, position, List, ◌++◌}
use Rattle.std.specs.List.{after_first, before_first, list_any}
use Rattle.pc_call.specs.declared.over.Over.{Over}
use Rattle.pc_call.specs.declared.purpose.Purpose.{Purpose}
use Rattle.pc_call.specs.declared.purpose.Purpose.TheVariants as purposes
use Rattle.pc_proto.specs.declared.answer.Answer.TheVariants as answers
use Rattle.pc_proto.specs.declared.request.Request.{Request}
use Rattle.pc_proto.specs.declared.request.Request.TheVariants as requests
use Rattle.pc_staging.specs.Kept.{is_live_at}
use Rattle.pc_txn.specs.declared.txn.OpenTxn.{OpenTxn}
use Rattle.pc_wave.specs.declared.message.Message.{Message}
use Rattle.pc_wave.specs.Messages.{awaits_at, first_changed, is_out, lost_of, no_try_left}

-- The request is a stage that is late.
abbrev pub stages_late : OpenTxn → Request → Bool
stages_late x (requests.Stage meta ts now writes locks) = not (is_live_at ts x.staging)
stages_late x _ = false

-- The message of this number, whose reply is waited for, is a stage that is late.
abbrev pub is_late_out : ℕ → OpenTxn → Message → Bool
is_late_out number x m = awaits_at number m && stages_late x m.request

-- The messages once nothing is heard of the one of this number: it is to be sent again; a stage that is late leaves them.
abbrev pub wave_lost : ℕ → ℕ → OpenTxn → List Message → List Message
wave_lost number tries x messages =
    if is_some (position (is_late_out number x) messages) then before_first (is_late_out number x) messages ++ after_first (is_late_out number x) messages
    else first_changed (awaits_at number) (lost_of tries) messages

-- The tries of one of the messages are used up, and no reply is waited for.
abbrev pub is_lost_after : ℕ → List Message → Bool
is_lost_after tries messages = not (list_any is_out messages) && list_any (no_try_left tries) messages

-- A rollback whose abort was not heard is over all the same, for the abort's cause.
abbrev pub rolled_back_unheard : Purpose → OpenTxn → Option Over
rolled_back_unheard (purposes.Abort why) x = Some (record { answer = answers.RolledBack x.id why; left = None })
rolled_back_unheard _ x = None
