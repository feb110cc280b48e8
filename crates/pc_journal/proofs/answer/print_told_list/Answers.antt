use Rattle.std.proofs.Common.{◌≡◌, ◌∷◌, arith, rules}
use Rattle.std.proofs.lemmas.Grind.{common_steps}
use Rattle.pc_journal.specs.Answer.{told_row_text}
use Rattle.pc_journal.proofs.Joined.{listed_first}
use Rattle.pc_journal.proofs.answer.print_told_list.Goals as goal

pub returns-in_ok-print_told_row-in-Some-clause-text : goal.returns-in_ok-print_told_row-in-Some-clause-text
returns-in_ok-print_told_row-in-Some-clause-text c =
    let split : c.args.rows.now ≡ c.in-Some.first.now ∷ c.in-Some.rest.now = search rules in
    rw (listed_first told_row_text c.args.rows.now c.in-Some.first.now c.in-Some.rest.now split) (grind (arith, common_steps))
