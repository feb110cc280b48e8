use Rattle.pc_range.proofs.Seating.{skipped, taken}
use Rattle.pc_range.proofs.slot.start.Goals as goal

pub returns-then-count-clause-seated : goal.returns-then-count-clause-seated
returns-then-count-clause-seated g c = skipped c.args.count g.row.I c.args.opener.now c.if-count.true c.requires.free

pub returns-clause-seated : goal.returns-clause-seated
returns-clause-seated g c = taken c.args.count g.row.I c.args.opener.now c.seat.new.self c.if-count.false c.requires.free c.in_ok-actor.ensures.same c.in_ok-actor.ensures.seated
