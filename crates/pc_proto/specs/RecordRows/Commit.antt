-- Commit: the record becomes COMMITTED at this timestamp, unless it is past this epoch or timestamp. SIGMOD 2020 paper,
-- section 3.3.
use Rattle.std.specs.Prelude.{ℕ, if◌then◌else◌, List, []}
use Rattle.pc_proto.specs.declared.meta.TxnMeta.{TxnMeta}
use Rattle.pc_proto.specs.declared.record.Standing.TheVariants.{Committed}
use Rattle.pc_proto.specs.Place.{Place, Change, Stay, Become}
use Rattle.pc_proto.specs.RecordRows.Reached.{status_of, is_reached, activity_of}

-- What a commit does to the transaction's place.
abbrev pub commit : TxnMeta → ℕ → List (List ℕ) → Place → Change
commit meta ts locks p =
    if is_reached p meta.epoch ts
    then Become (record { meta = meta; status = status_of Committed meta.epoch ts; activity = activity_of p meta.born; writes = []; locks = locks })
    else Stay
