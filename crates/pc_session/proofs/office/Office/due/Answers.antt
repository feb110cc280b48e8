use Rattle.std.proofs.Common.{false, sym, subst}
use Rattle.pc_coord.specs.Knows.{MayCome}
use Rattle.pc_session.specs.InCall.{HasOpenCall}
use Rattle.pc_session.specs.Session.{session_knows}
use Rattle.pc_session.proofs.office.Office.due.Goals as goal

pub returns-in-Ok-clause-may : goal.returns-in-Ok-clause-may
returns-in-Ok-clause-may g c =
    let calls = subst (λ s. HasOpenCall s c.args.reading) (sym c.self.view_is) c.requires in
    subst (λ s. MayCome false s.coordinator (session_knows s) c.in-Ok.next) c.self.view_is (c.in-Ok.ensures.may false _ calls.one.knows)

pub returns-in-Ok-clause-calls : goal.returns-in-Ok-clause-calls
returns-in-Ok-clause-calls g c = c.requires
