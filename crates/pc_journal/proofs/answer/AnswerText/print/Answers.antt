use Rattle.pc_journal.proofs.Lines.{on_ok}
use Rattle.pc_journal.proofs.Spelled.{answer_fits}
use Rattle.pc_journal.proofs.answer.AnswerText.print.Goals as goal

pub returns-in-Rows-clause-spelled : goal.returns-in-Rows-clause-spelled
returns-in-Rows-clause-spelled c = on_ok c.print_told_rows.result (answer_fits c.args.self.now c.in-Rows.rows c.in-Rows.is) c.print_told_rows.ensures.spelled
