use Rattle.pc_flight.proofs.Holding.{heard_stands, proved_holds}
use Rattle.pc_flight.proofs.flight.Flight.proved.Goals as goal

pub returns-clause-holds : goal.returns-clause-holds
returns-clause-holds c = λ writes ts are. proved_holds c.args.key.now c.args.seq ts c.args.self.now c.take_out.new.self c.take_out.ensures writes are

pub returns-clause-stands : goal.returns-clause-stands
returns-clause-stands c = λ t sent h f proves. heard_stands c.args.key.now c.args.seq c.args.self.now c.take_out.new.self c.take_out.ensures t sent h f proves
