use Rattle.std.proofs.Common.{◌+◌, length, arith}
use Rattle.std.specs.Fmt.{decimal}
use Rattle.std.proofs.lemmas.Grind.{common_steps}
use Rattle.pc_journal.specs.Optional.{key_text}
use Rattle.pc_journal.proofs.Joined.{joined}
use Rattle.pc_journal.proofs.journal.print_splits.Goals as goal

pub returns-clause-text : goal.returns-clause-text
returns-clause-text c = rw (joined 32 key_text (decimal (length c.args.splits.now + 1)) c.args.splits.now) (grind (arith, common_steps))
