use Rattle.std.proofs.Common.{refl}
use Rattle.pc_spelling.specs.Reading.{row_at}
use Rattle.pc_read.proofs.Items.{given_list, no_list}
use Rattle.pc_read.proofs.list.rows.Goals as goal

pub returns-then-is_list : goal.returns-then-is_list
returns-then-is_list c = (refl, given_list row_at c.args.bytes.now c.is_list.result c.is_list.ensures c.if-is_list.true)

pub returns-else-is_list : goal.returns-else-is_list
returns-else-is_list c = no_list row_at c.args.bytes.now c.is_list.result c.is_list.ensures c.if-is_list.false
