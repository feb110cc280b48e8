use Rattle.std.proofs.Common.{◌≤◌, ◌-◌, length, refl, sym, subst, ap, ◌∙◌}
use Rattle.pc_range.proofs.Evaluating.{last-note, note-same}
use Rattle.pc_range.specs.Cell.{CellMeaning, IsFullFault}
use Rattle.pc_range.specs.declared.message.ServeFault.TheVariants as faults
use Rattle.pc_range.proofs.cell.RangeCell.full.Goals as goal
use Rattle.pc_range.proofs.cell.RangeCell.full.Goals.{in-Ok, in-Err}

pub returns-clause-same : goal.returns-clause-same
returns-clause-same g c = note-same c.note.result c.self.inside.actor c.note.new.self _ c.note.ensures.same c.note.ensures.given c.note.ensures.err ∙ c.self.view_is

pub returns-clause-fault : goal.returns-clause-fault
returns-clause-fault g c =
    let some : 1 ≤ length c.self.inside.actor.part.own = subst (λ (m : CellMeaning). 1 ≤ length m.part.own) (sym c.self.view_is) c.requires in
    elim c.match-note.branch [
      | in-Ok w ↦ subst (IsFullFault {N = g.row.N.Denot} g.row.I c.args.self.now.part c.args.message) (sym w.result-is)
          (subst (λ (m : CellMeaning). IsFullFault {N = g.row.N.Denot} g.row.I m.part c.args.message (faults.Full g.row.I w.in-Ok.last c.args.message)) c.self.view_is
          (refl, last-note g.row.I c.self.inside.actor.world c.self.inside.actor.part c.self.inside.state (length c.entries.result.now - 1) w.in-Ok.last.known c.self.invariant some (ap (λ l. length l - 1) c.entries.ensures) w.in-Ok.ensures.note.1, refl))
      | in-Err w ↦ subst (IsFullFault {N = g.row.N.Denot} g.row.I c.args.self.now.part c.args.message) (sym w.result-is) tt
    ]
