use Rattle.std.proofs.Common.{rules}
use Rattle.pc_flight.proofs.Holding.{added_stands}
use Rattle.pc_flight.proofs.flight.Flight.add.Goals as goal

pub returns-clause-stands : goal.returns-clause-stands
returns-clause-stands c = λ t meta ts f none whose now. added_stands c.args.self.now c.push.new.self.items t meta c.args.seq ts c.args.key c.args.value (search rules) f none whose now
