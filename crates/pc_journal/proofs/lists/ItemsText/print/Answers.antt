use Rattle.std.proofs.Common.{◌≡◌, ◌∷◌, arith, rules}
use Rattle.std.proofs.lemmas.Grind.{common_steps}
use Rattle.pc_journal.proofs.Joined.{listed_first}
use Rattle.pc_journal.proofs.lists.ItemsText.print.Goals as goal

pub returns-in_ok-print-in-Some-clause-text : goal.returns-in_ok-print-in-Some-clause-text
returns-in_ok-print-in-Some-clause-text g c =
    let split : c.args.self.now ≡ c.in-Some.first.now ∷ c.in-Some.rest.now = search rules in
    rw (listed_first g.T.Text.text c.args.self.now c.in-Some.first.now c.in-Some.rest.now split) (grind (arith, common_steps))
