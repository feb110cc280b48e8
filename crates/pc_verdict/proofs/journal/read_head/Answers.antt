use Rattle.std.proofs.Common.{Some, ap, ◌∙◌}
use Rattle.pc_verdict.proofs.Bodies.{no_end, no_entry_first}
use Rattle.pc_verdict.proofs.journal.read_head.Goals as goal

pub unreachable-requires : goal.unreachable-requires
unreachable-requires c = no_entry_first c.requires.lines c.args.lines.now c.next.new.self c.next.result c.in-Some-Ok.line c.requires.are c.next.ensures (c.in-Some-Ok.is ∙ ap Some c.in-Some-Ok.field-0-is) c.in_default.not-Head

pub unreachable-requires-in-None : goal.unreachable-requires-in-None
unreachable-requires-in-None c = no_end c.requires.lines c.args.lines.now c.next.new.self c.next.result c.requires.are c.next.ensures c.in-None.is
