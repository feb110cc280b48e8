use Rattle.std.proofs.Common.{sym, ◌∙◌}
use Rattle.pc_read.proofs.Items.{last_item}
use Rattle.pc_read.proofs.list.are_items.Goals as goal

pub returns-in-None : goal.returns-in-None
returns-in-None g c = c.is_item.ensures ∙ last_item g.I.Item.readable c.args.bytes.now c.items.rest.now c.items.invariant (sym c.in-None.ensures)
