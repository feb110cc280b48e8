use Rattle.std.proofs.Common.{is_some, IfErr, subst}
use Rattle.pc_exchange.specs.Ending.{BreaksOff}
use Rattle.pc_session.specs.Learning.{AreOfBrokenLearn}
use Rattle.pc_session.proofs.session.Session.learn.Goals as goal

pub returns-clause-ended : goal.returns-clause-ended
returns-clause-ended g c =
    subst (λ s. IfErr c.learn.result (λ halt. BreaksOff (AreOfBrokenLearn c.args.id (is_some c.args.token) halt) s.desk c.learn.new.self.desk halt)) c.self.view_is c.learn.ensures.ended
