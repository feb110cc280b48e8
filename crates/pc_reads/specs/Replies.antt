-- What the replies to refreshes say. SIGMOD 2020 paper, section 3.4.
use Rattle.std.specs.Prelude.{ℕ, Bool, Option, None, Some, List, find, is_some}
use Rattle.std.specs.Option.{option_and_then}
use Rattle.pc_proto.specs.declared.reply.Reply.{Reply}
use Rattle.pc_proto.specs.declared.reply.Reply.TheVariants as replies
use Rattle.pc_wave.specs.declared.message.Message.{Message}
use Rattle.pc_wave.specs.declared.message.Progress.{Progress}
use Rattle.pc_wave.specs.declared.message.Progress.TheVariants as progresses

-- The write that the refresh met, where it did not hold.
abbrev pub unrefreshed_by : Reply → Option (List ℕ × ℕ)
unrefreshed_by (replies.Unrefreshed key ts) = Some (key, ts)
unrefreshed_by _ = None

-- The write that a message met, where it is a refresh that was answered and did not hold.
abbrev pub unrefreshed_in : Progress → Option (List ℕ × ℕ)
unrefreshed_in progresses.ToSend = None
unrefreshed_in (progresses.Sent number) = None
unrefreshed_in (progresses.Met number conflict) = None
unrefreshed_in (progresses.Answered number reply) = unrefreshed_by reply

-- The message did not hold.
abbrev pub shows_unrefreshed : Message → Bool
shows_unrefreshed m = is_some (unrefreshed_in m.progress)

-- The write that the first of the messages met that did not hold.
abbrev pub first_unrefreshed : List Message → Option (List ℕ × ℕ)
first_unrefreshed messages = option_and_then (λ m. unrefreshed_in m.progress) (find shows_unrefreshed messages)
