use Rattle.std.proofs.Common.{sym, ◌∙◌}
use Rattle.pc_files.proofs.uncommitted.Uncommitted.has.Goals as goal

pub returns : goal.returns
returns c sent heard are ok = are c.args.id (sym c.contains.ensures ∙ ok)
