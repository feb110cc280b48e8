-- What a client is told has no origin: it is not printed, so a row that had one would be lost. Own profile.
use Rattle.std.specs.Prelude.{◌≡◌, ℕ, List}
use Rattle.std.specs.Prelude.{All}
use Rattle.pc_base.specs.declared.entry.Entry.{Entry}
use Rattle.pc_proto.specs.declared.answer.Answer.{Answer}
use Rattle.pc_proto.specs.declared.answer.Answer.TheVariants as answers
use Rattle.pc_proto.specs.declared.event.Event.{Event}
use Rattle.pc_proto.specs.declared.event.Event.TheVariants as events
use Rattle.pc_proto.specs.declared.reply.Origin.{Origin}
use Rattle.pc_proto.specs.declared.reply.Origin.TheVariants as origins
use Rattle.pc_journal.specs.Fits.{FitsEntry}

abbrev pub HasNoOrigin : (List ℕ × Origin × List ℕ) → Type 0
HasNoOrigin row = row.1 ≡ origins.Nothing

-- The rows of an answer have no origin.
abbrev pub AnswersBare : Answer → Type 0
AnswersBare (answers.Rows rows) = All HasNoOrigin rows
AnswersBare other = Unit {0}

-- An event that tells rows tells them without an origin.
abbrev pub TellsBare : Event → Type 0
TellsBare (events.Tell answer) = AnswersBare answer
TellsBare other = Unit {0}

-- The rows of each Tell of a history have no origin.
abbrev pub AllTellBare : List (Entry Event) → Type 0
AllTellBare entries = All (λ (entry : Entry Event). TellsBare entry.event) entries

-- An entry that tells no origin has a spelling.
pub record FitsWhereBare (entry : Entry Event) : Type 0 where
  pub fits : TellsBare entry.event → FitsEntry entry
