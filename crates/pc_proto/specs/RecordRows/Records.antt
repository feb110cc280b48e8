-- Records: lists the metas of a range's records by transaction, each with the record's epoch. Own profile.
use Rattle.std.specs.Prelude.{List, map}
use Rattle.pc_base.specs.declared.transaction.TxnId.{TxnId}
use Rattle.pc_proto.specs.declared.meta.TxnMeta.{TxnMeta}
use Rattle.pc_proto.specs.declared.record.Record.{Record}
use Rattle.pc_proto.specs.RecordRows.Reached.{at_epoch}

-- The metas of these records, in their order, each with its record's epoch.
abbrev pub listed_metas : List (TxnId × Record) → List TxnMeta
listed_metas records = map (λ e. at_epoch e.1.status.epoch e.1.meta) records
