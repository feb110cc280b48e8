use Rattle.std.proofs.Common.{◌≡◌, ◌∷◌, arith, rules}
use Rattle.std.proofs.lemmas.Grind.{common_steps}
use Rattle.pc_journal.proofs.Joined.{listed_first}
use Rattle.pc_report.specs.Report.{last_write_text}
use Rattle.pc_report.proofs.print.print_writes.Goals as goal

pub returns-in_ok-print_write-in-Some-clause-text : goal.returns-in_ok-print_write-in-Some-clause-text
returns-in_ok-print_write-in-Some-clause-text c =
    let split : c.args.writes.now ≡ c.in-Some.first.now ∷ c.in-Some.rest.now = search rules in
    rw (listed_first last_write_text c.args.writes.now c.in-Some.first.now c.in-Some.rest.now split) (grind (arith, common_steps))
