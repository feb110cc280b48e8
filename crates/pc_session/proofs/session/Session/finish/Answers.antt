use Rattle.std.proofs.Common.{◌++◌, ap, ◌∙◌}
use Rattle.pc_session.proofs.session.Session.finish.Goals as goal

pub returns-clause-rest : goal.returns-clause-rest
returns-clause-rest g c = c.finish.ensures.rest ∙ ap (λ s. s.desk.posted ++ s.desk.later) c.self.view_is
