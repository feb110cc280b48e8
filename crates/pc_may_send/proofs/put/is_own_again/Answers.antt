use Rattle.std.proofs.Common.{◌≡◌, ◌==◌, Contains, List, Some, find, refl, sym, ap, ◌∙◌}
use Rattle.std.proofs.lemmas.List.Folds.{find_at}
use Rattle.std.specs.List.{position_or_len}
use Rattle.pc_lists.proofs.Lists.{get_contains}
use Rattle.pc_may_send.proofs.put.is_own_again.Goals as goal
use Rattle.pc_world.specs.Known.Writes.{Write}

pub returns-in-Some : goal.returns-in-Some
returns-in-Some c ok =
    let ws : List Write = c.args.t.now.writes in
    let by_sequence = λ (w : Write). w.seq == c.args.put.now.seq in
    let found : find by_sequence ws ≡ Some c.in-Some.write.now = ap (find by_sequence) (sym c.writes.ensures) ∙ sym c.in-Some.ensures in
    let at : Contains ws c.in-Some.write.now = get_contains ws (position_or_len by_sequence ws) c.in-Some.write.now (sym (find_at by_sequence ws) ∙ found) in
    (at.0, c.in-Some.write.now, at.1, at.2, c.is_again.ensures.0 ok)
