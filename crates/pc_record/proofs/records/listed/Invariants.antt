-- The metas of the records so far.
use Rattle.std.proofs.Common.{◌≡◌, map}
use Rattle.std.specs.Map.Iter.{deref_pair}
use Rattle.pc_proto.specs.RecordRows.Records.{listed_metas}
use Rattle.pc_record.proofs.records.listed.Given as goal

abbrev pub invariant-loop-record : goal.invariant-loop-record
invariant-loop-record l = l.metas ≡ listed_metas (map deref_pair l.yielded)
