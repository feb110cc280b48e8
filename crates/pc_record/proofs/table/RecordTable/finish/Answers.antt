use Rattle.std.proofs.Common.{ap, ◌∙◌}
use Rattle.std.specs.BTreeMap.{insert_entry}
use Rattle.pc_base.proofs.TxnOrder.{txn_removed}
use Rattle.pc_base.specs.Keyed.{without}
use Rattle.pc_base.specs.Transaction.{same_txn, txn_cmp}
use Rattle.pc_proto.specs.Place.{Finish}
use Rattle.pc_proto.specs.Table.{applied_to}
use Rattle.pc_record.proofs.Tables.{table_is}
use Rattle.pc_record.proofs.table.RecordTable.finish.Goals as goal

pub returns-clause-ok : goal.returns-clause-ok
returns-clause-ok c =
    table_is c.remove.new.self.entries (without same_txn c.args.id c.self.inside.records.entries)
    c.insert.new.self.entries (insert_entry txn_cmp c.self.inside.marks.entries c.args.id c.args.status)
    (c.remove.ensures.entries ∙ txn_removed c.args.id c.self.inside.records.entries c.self.invariant) c.in_ok-insert.ensures.entries
    ∙ ap (applied_to c.args.id (Finish c.args.status)) c.self.view_is
