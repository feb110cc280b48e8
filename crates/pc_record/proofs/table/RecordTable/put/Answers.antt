use Rattle.std.proofs.Common.{refl, ap, ◌∙◌}
use Rattle.std.specs.BTreeMap.{insert_entry}
use Rattle.pc_base.specs.Transaction.{txn_cmp}
use Rattle.pc_proto.specs.Place.{Become}
use Rattle.pc_proto.specs.Table.{applied_to}
use Rattle.pc_record.proofs.Tables.{table_is}
use Rattle.pc_record.proofs.table.RecordTable.put.Goals as goal

pub returns-clause-ok : goal.returns-clause-ok
returns-clause-ok c =
    table_is c.insert.new.self.entries (insert_entry txn_cmp c.self.inside.records.entries c.args.id c.args.kept) c.self.inside.marks.entries c.self.inside.marks.entries
    c.in_ok-insert.ensures.entries refl
    ∙ ap (applied_to c.args.id (Become c.args.kept)) c.self.view_is
