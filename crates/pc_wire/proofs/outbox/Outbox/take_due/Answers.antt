use Rattle.std.proofs.Common.{ℕ, find, option_map, sym, ap, ◌∙◌}
use Rattle.pc_wire.proofs.Due.{part-taken, under-first}
use Rattle.pc_wire.specs.declared.outbox.Stray.{Stray}
use Rattle.pc_wire.specs.Outbox.{OutboxMeaning, is_due_by}
use Rattle.pc_wire.proofs.outbox.Outbox.take_due.Goals as goal

pub returns-in_err-stray-clause-taken : goal.returns-in_err-stray-clause-taken
returns-in_err-stray-clause-taken g c =
    let bag = c.self.inside.bag.entries in
    let there = c.remove.ensures.value ∙ under-first (is_due_by c.args.sent) bag c.first_due.ensures.in_order c.in_ok-number.number (sym c.first_due.ensures.first ∙ c.in_ok-number.was) in
    let taken = ap (option_map (λ (s : Stray g.row.M.Denot). s.message)) (sym c.in_err-stray.was) ∙ part-taken (λ (e : ℕ × Stray g.row.M.Denot). e.1) (λ s. s.message) (find (is_due_by c.args.sent) bag) c.remove.result there in
    c.from_residual-in_err-stray.ensures ∙ (taken ∙ ap (λ (m : OutboxMeaning g.row.M.Denot). option_map (λ (e : ℕ × Stray g.row.M.Denot). e.1.message) (find (is_due_by c.args.sent) m.bag)) c.self.view_is)

pub returns-clause-taken : goal.returns-clause-taken
returns-clause-taken g c =
    let bag = c.self.inside.bag.entries in
    let there = c.remove.ensures.value ∙ under-first (is_due_by c.args.sent) bag c.first_due.ensures.in_order c.in_ok-number.number (sym c.first_due.ensures.first ∙ c.in_ok-number.was) in
    let taken = ap (option_map (λ (s : Stray g.row.M.Denot). s.message)) (sym c.in_ok-stray.was) ∙ part-taken (λ (e : ℕ × Stray g.row.M.Denot). e.1) (λ s. s.message) (find (is_due_by c.args.sent) bag) c.remove.result there in
    taken ∙ ap (λ (m : OutboxMeaning g.row.M.Denot). option_map (λ (e : ℕ × Stray g.row.M.Denot). e.1.message) (find (is_due_by c.args.sent) m.bag)) c.self.view_is
