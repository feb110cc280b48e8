-- How events and the entries of a journal are spelled. Own profile.
use Rattle.std.specs.Prelude.{ℕ, List, [], codes}
use Rattle.std.specs.Fmt.{decimal}
use Rattle.pc_base.specs.declared.actor.ActorId.TheVariants as actors
use Rattle.pc_base.specs.declared.entry.Entry.{Entry}
use Rattle.pc_proto.specs.declared.event.Event.{Event}
use Rattle.pc_proto.specs.declared.event.Event.TheVariants as events
use Rattle.pc_journal.specs.Answer.{answer_text}
use Rattle.pc_journal.specs.Call.{call_text}
use Rattle.pc_journal.specs.Names.{actor_text, id_text}
use Rattle.pc_journal.specs.Number.{reading_text}
use Rattle.pc_journal.specs.Reply.{reply_text}
use Rattle.pc_journal.specs.Request.{request_text}
use Rattle.pc_journal.specs.Side.{◌·◌, ◌⏎◌}

-- What happened: `ask commit @12`, `send 2 r0 records`, `eval s1 2 found`, `hear 2 9`, `tell done`, `meet 1.1 11`.
abbrev pub event_text : Event → List ℕ
event_text (events.Ask call reading) = codes "ask" · call_text call · reading_text reading
event_text (events.Send number range request) = codes "send" · decimal number · actor_text (actors.Range range) · request_text request
event_text (events.Eval actor number reply) = codes "eval" · actor_text actor · decimal number · reply_text reply
event_text (events.Hear number step) = codes "hear" · decimal number · decimal step
event_text (events.Tell answer) = codes "tell" · answer_text answer
event_text (events.Meet id step) = codes "meet" · id_text id · decimal step

-- An entry: its step, its actor and what happened, `6 s1 tell written`.
abbrev pub entry_text : Entry Event → List ℕ
entry_text entry = decimal entry.step · actor_text entry.actor · event_text entry.event

-- An entry as one whole line, with its line feed.
abbrev pub entry_line : Entry Event → List ℕ
entry_line entry = entry_text entry ⏎ []
