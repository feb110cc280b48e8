use Rattle.std.proofs.Common.{sym, ap, ◌∙◌}
use Rattle.pc_wire.proofs.Rising.{all_above}
use Rattle.pc_wire.proofs.outbox.Outbox.take_first.Goals as goal

pub returns-clause-taken : goal.returns-clause-taken
returns-clause-taken g c =
    let taken = c.in_ok-waiting.ensures in
    record {
      number = c.in_ok-waiting.field-0-0;
      whole = ap (λ o. o.waiting) (sym c.self.view_is) ∙ taken.removal;
      rises = all_above c.in_ok-waiting.field-0-0 c.pop_first.new.self.entries taken.all_above;
    }
