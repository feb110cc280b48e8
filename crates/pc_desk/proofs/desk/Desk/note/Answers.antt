use Rattle.pc_desk.proofs.Desking.{noted_same}
use Rattle.pc_desk.proofs.desk.Desk.note.Goals as goal

pub returns-clause-same : goal.returns-clause-same
returns-clause-same g c = noted_same _ c.args.self.now c.note_at.new.self c.args.place c.note_at.result c.self.view_is c.note_at.ensures.same c.note_at.ensures.given c.note_at.ensures.err
