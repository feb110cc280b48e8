use Rattle.pc_flight.proofs.Holding.{flights_hold}
use Rattle.pc_flight.proofs.laws.flights_hold.Goals as goal

pub returns : goal.returns
returns c = flights_hold
