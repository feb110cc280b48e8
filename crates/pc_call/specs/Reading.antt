-- What a call that read is told, by the answers to its messages, and the spans that it read.
use Rattle.std.specs.Prelude.{ℕ, Option, None, List, [], ◌∷◌, fold, map}
use Rattle.std.specs.BTreeSet.{insert_key}
use Rattle.std.specs.List.{flat_map}
use Rattle.pc_base.specs.declared.span.Span.{Span}
use Rattle.pc_base.specs.declared.span.Span.TheVariants.{One}
use Rattle.pc_base.specs.SpanOrder.{span_cmp}
use Rattle.pc_proto.specs.declared.answer.Answer.{Answer}
use Rattle.pc_proto.specs.declared.answer.Answer.TheVariants as answers
use Rattle.pc_proto.specs.declared.reply.Origin.{Origin}
use Rattle.pc_proto.specs.declared.reply.Reply.TheVariants as replies
use Rattle.pc_proto.specs.declared.request.Request.{Request}
use Rattle.pc_proto.specs.declared.request.Request.TheVariants as requests
use Rattle.pc_wave.specs.declared.message.Message.{Message}
use Rattle.pc_wave.specs.declared.message.Progress.{Progress}
use Rattle.pc_wave.specs.declared.message.Progress.TheVariants as progresses
use Rattle.pc_world.specs.Tell.Data.{told_row}

-- The span that a request reads, if it reads.
abbrev pub span_read : Request → List Span
span_read (requests.Get id epoch seq ts key) = One key ∷ []
span_read (requests.Scan id epoch seq ts span) = span ∷ []
span_read _ = []

-- The spans that the messages read, in turn.
abbrev pub spans_read : List Message → List Span
spans_read messages = flat_map (λ m. span_read m.request) messages

-- The spans in order, each once, with these more.
abbrev pub with_spans : List Span → List Span → List Span
with_spans held more = fold (λ spans span. insert_key span_cmp spans span) held more

abbrev pub rows_answered : Progress → List (List ℕ × Origin × List ℕ)
rows_answered (progresses.Answered number (replies.Rows rows)) = rows
rows_answered _ = []

-- The rows that were replied to a message, as they are told.
abbrev pub rows_found : Message → List (List ℕ × Origin × List ℕ)
rows_found m = map told_row (rows_answered m.progress)

abbrev pub value_answered : Progress → Option (List ℕ)
value_answered (progresses.Answered number (replies.Value origin value)) = value
value_answered _ = None

abbrev pub answer_by : Request → Message → List Message → Answer
answer_by (requests.Get id epoch seq ts key) m messages = answers.Value (value_answered m.progress)
answer_by _ m messages = answers.Rows (flat_map rows_found messages)

-- What a call is told whose messages these are: the value that was replied to its get, or the rows that were replied to the parts of its
-- scan, in their order.
abbrev pub answer_read : List Message → Answer
answer_read [] = answers.Rows []
answer_read (m ∷ messages) = answer_by m.request m (m ∷ messages)
