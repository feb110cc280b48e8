use Rattle.std.proofs.Common.{ap, ◌∙◌}
use Rattle.pc_base.proofs.TxnOrder.{txn_lookup}
use Rattle.pc_base.specs.Keyed.{at}
use Rattle.pc_base.specs.Transaction.{same_txn}
use Rattle.pc_proto.specs.Table.{Table}
use Rattle.pc_record.proofs.table.RecordTable.record.Goals as goal

pub returns : goal.returns
returns c =
    c.get.ensures.value
    ∙ (txn_lookup c.args.id c.self.inside.records.entries ∙ ap (λ (t : Table). at same_txn c.args.id t.records) c.self.view_is)
