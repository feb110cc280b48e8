use Rattle.pc_flight.proofs.Holding.{list_ok}
use Rattle.pc_flight.proofs.flight.Flight.list.Goals as goal

pub returns-clause-staged : goal.returns-clause-staged
returns-clause-staged c = λ writes are. list_ok c.listed.result c.args.self.now c.listed.ensures writes are
