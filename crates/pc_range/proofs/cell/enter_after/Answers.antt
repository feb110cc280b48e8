use Rattle.std.proofs.lemmas.Option.{IfSome_then}
use Rattle.pc_range.proofs.Serving.{all-before, entered-from}
use Rattle.pc_range.proofs.cell.enter_after.Goals as goal

pub returns-clause-stored : goal.returns-clause-stored
returns-clause-stored g c =
    entered-from c.args.actor.now c.know.new.actor c.enter.new.actor c.args.msg.sender c.args.msg.number c.args.msg.range c.args.msg.request c.enter.result c.args.reply c.know.ensures.same c.enter.ensures.stored

pub returns-clause-behind : goal.returns-clause-behind
returns-clause-behind g c = IfSome_then c.args.after c.know.ensures.knows (λ n there. all-before n.known c.know.new.actor.part.known c.enter.result there c.enter.ensures.above)
