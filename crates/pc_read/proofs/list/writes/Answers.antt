use Rattle.std.proofs.Common.{refl}
use Rattle.pc_spelling.specs.Reading.{write_at, writes_at}
use Rattle.pc_read.proofs.Items.{given_list, no_list}
use Rattle.pc_read.proofs.list.writes.Goals as goal

pub returns-then-is_list : goal.returns-then-is_list
unfolding writes_at
returns-then-is_list c = (refl, given_list write_at c.args.bytes.now c.is_list.result c.is_list.ensures c.if-is_list.true)

pub returns-else-is_list : goal.returns-else-is_list
unfolding writes_at
returns-else-is_list c = no_list write_at c.args.bytes.now c.is_list.result c.is_list.ensures c.if-is_list.false
