use Rattle.std.proofs.Common.{ap, ◌∙◌}
use Rattle.pc_desk.specs.Ending.{all_waiting}
use Rattle.pc_rounds.proofs.counted.CountedRecoverer.finish.Goals as goal

pub returns-clause-rest : goal.returns-clause-rest
returns-clause-rest g c = c.finish.ensures.rest ∙ ap (λ s. all_waiting s.recoverer.desk) c.self.view_is
