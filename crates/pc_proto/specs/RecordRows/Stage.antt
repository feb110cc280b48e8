-- Stage: the record becomes STAGING with the writes that it waits for, unless it is past this epoch or timestamp, or is so
-- staged already. RFC 20180324, "Parallel Commits".
use Rattle.std.specs.Prelude.{ℕ, ◌&&◌, not, if◌then◌else◌, List}
use Rattle.pc_proto.specs.declared.meta.TxnMeta.{TxnMeta}
use Rattle.pc_proto.specs.declared.record.Standing.TheVariants.{Staging}
use Rattle.pc_proto.specs.Place.{Place, Change, Stay, Become}
use Rattle.pc_proto.specs.RecordRows.Reached.{status_of, is_reached, is_staged_at, alive_at}

-- What a stage does to the transaction's place.
abbrev pub stage : TxnMeta → ℕ → ℕ → List (List ℕ × ℕ) → List (List ℕ) → Place → Change
stage meta ts now writes locks p =
    if is_reached p meta.epoch ts && not (is_staged_at p meta.epoch ts)
    then Become (record { meta = meta; status = status_of Staging meta.epoch ts; activity = alive_at p now; writes = writes; locks = locks })
    else Stay
