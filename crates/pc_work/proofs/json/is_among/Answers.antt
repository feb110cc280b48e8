use Rattle.std.proofs.Common.{◌∙◌}
use Rattle.pc_work.proofs.Names.{is_among_map}
use Rattle.pc_work.proofs.json.is_among.Goals as goal

pub returns : goal.returns
returns c = c.contains.ensures.value ∙ is_among_map c.args.names.now c.args.name.now
