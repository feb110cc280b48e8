use Rattle.std.proofs.Common.{◌≤◌, length, subst, sym}
use Rattle.pc_desk.proofs.Desking.{last_behind, marked_same, some_entry}
use Rattle.pc_desk.proofs.desk.Desk.note_last.Goals as goal

pub note-requires : goal.note-requires
note-requires g c = subst (λ d. 1 ≤ length d.log.part.own) (sym c.self.view_is) (some_entry c.args.self.now c.requires.track c.requires.some)

pub returns-in-Ok-clause-behind : goal.returns-in-Ok-clause-behind
returns-in-Ok-clause-behind g c = last_behind _ c.args.self.now c.in-Ok.note.known c.self.view_is c.requires.track c.requires.some c.in-Ok.ensures.note

pub returns-in-Ok-clause-same : goal.returns-in-Ok-clause-same
returns-in-Ok-clause-same g c = marked_same _ c.args.self.now c.note.new.self _ c.self.view_is c.note.ensures.same c.in-Ok.ensures.given
