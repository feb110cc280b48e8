use Rattle.std.proofs.Common.{ap, ◌∙◌}
use Rattle.pc_desk.specs.Ending.{all_waiting}
use Rattle.pc_recoverer.specs.Recoverer.{RecovererMeaning}
use Rattle.pc_recoverer.proofs.recoverer.Recoverer.finish.Goals as goal

pub returns-clause-rest : goal.returns-clause-rest
returns-clause-rest g c = c.finish.ensures.rest ∙ ap (λ (r : RecovererMeaning g.row.C.Denot). all_waiting r.desk) c.self.view_is
