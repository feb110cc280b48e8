use Rattle.std.proofs.Common.{sym, ap, ◌∙◌}
use Rattle.pc_puts.proofs.Removing.{removed}
use Rattle.pc_world.specs.MapRun.{with_value}
use Rattle.pc_puts.proofs.changes.write.Goals as goal

pub returns-in-None : goal.returns-in-None
returns-in-None c =
    removed c.args.put.now.key c.args.map.now c.remove.new.self c.remove.ensures.entries c.remove.ensures.updates.1
    ∙ sym (ap (λ value. with_value c.args.put.now.key value c.args.map.now.entries) c.in-None.is)
