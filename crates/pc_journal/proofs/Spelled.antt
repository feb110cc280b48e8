-- What is printed has a spelling, where the rows that are told have no origin.
use Rattle.std.proofs.Common.{◌≡◌, ℕ, List, All, subst, sym}
use Rattle.pc_base.specs.declared.entry.Entry.{Entry}
use Rattle.pc_proto.specs.declared.answer.Answer.{Answer}
use Rattle.pc_proto.specs.declared.answer.Answer.TheVariants as answers
use Rattle.pc_proto.specs.declared.event.Event.{Event}
use Rattle.pc_proto.specs.declared.reply.Origin.{Origin}
use Rattle.pc_journal.specs.Fits.{FitsAnswer, FitsBareRow, FitsToldRow}
use Rattle.pc_journal.specs.FitsJournal.{FitsEntries}
use Rattle.pc_journal.specs.ToldRows.{AnswersBare, AllTellBare, FitsWhereBare, HasNoOrigin}

pub told_rows_fit : (rows : List (List ℕ × Origin × List ℕ)) → All FitsBareRow rows → All HasNoOrigin rows → All FitsToldRow rows
told_rows_fit rows fit bare k d inside = ((fit k d inside).key, (bare k d inside, (fit k d inside).value))

pub entries_fit : (entries : List (Entry Event)) → All FitsWhereBare entries → AllTellBare entries → FitsEntries entries
entries_fit entries fit bare k d inside = (fit k d inside).fits (bare k d inside)

pub answer_fits : (answer : Answer) (rows : List (List ℕ × Origin × List ℕ)) → answer ≡ answers.Rows rows → All FitsBareRow rows → AnswersBare answer → FitsAnswer answer
answer_fits answer rows is fit bare = subst FitsAnswer (sym is) (told_rows_fit rows fit (subst AnswersBare is bare))
