use Rattle.std.proofs.Common.{ap, ◌∙◌}
use Rattle.pc_world.specs.Known.{first_if}
use Rattle.pc_knowledge.proofs.knowledge.Knowledge.open_txn.Goals as goal

pub returns : goal.returns
returns c k keeps =
    c.open.ensures ∙ ap (λ b. first_if b c.args.self.now.txns) (c.is_open.ensures k keeps.calls) ∙ ap (first_if k.is_open) keeps.txns
