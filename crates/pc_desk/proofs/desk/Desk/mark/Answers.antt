use Rattle.pc_desk.proofs.Desking.{marked_same}
use Rattle.pc_desk.proofs.desk.Desk.mark.Goals as goal

pub returns-clause-same : goal.returns-clause-same
returns-clause-same g c = marked_same _ c.args.self.now c.note.new.self _ c.self.view_is c.note.ensures.same c.in_ok-note.ensures.given
