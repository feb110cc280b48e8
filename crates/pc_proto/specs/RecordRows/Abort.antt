-- Abort: the record becomes ABORTED with this cause. SIGMOD 2020 paper, section 3.2.
use Rattle.std.specs.Prelude.{ℕ, List, []}
use Rattle.pc_proto.specs.declared.meta.TxnMeta.{TxnMeta}
use Rattle.pc_proto.specs.declared.why.Why.{Why}
use Rattle.pc_proto.specs.declared.record.Standing.TheVariants.{Aborted}
use Rattle.pc_proto.specs.Place.{Place, Change, Become}
use Rattle.pc_proto.specs.RecordRows.Reached.{status_of, epoch_from, ts_of, activity_of}

-- What an abort does to the transaction's place.
abbrev pub abort : TxnMeta → Why → List (List ℕ) → Place → Change
abort meta why locks p =
    Become (record { meta = meta; status = status_of (Aborted why) (epoch_from p meta.epoch) (ts_of p); activity = activity_of p meta.born; writes = []; locks = locks })
