-- Heartbeat: shows that the transaction is alive, by a PENDING record where there is none. SIGMOD 2020 paper, section 3.2.
use Rattle.std.specs.Prelude.{ℕ, max, []}
use Rattle.pc_proto.specs.declared.meta.TxnMeta.{TxnMeta}
use Rattle.pc_proto.specs.declared.record.Standing.TheVariants.{Pending}
use Rattle.pc_proto.specs.Place.{Place, Nothing, Kept, Marked, Change, Stay, Become}
use Rattle.pc_proto.specs.RecordRows.Reached.{status_of}

-- What a heartbeat does to the transaction's place.
abbrev pub beat : TxnMeta → ℕ → ℕ → Place → Change
beat meta ts now Nothing =
    Become (record { meta = meta; status = status_of Pending meta.epoch ts; activity = now; writes = []; locks = [] })
beat meta ts now (Kept r) = Become (record r { activity = max r.activity now })
beat meta ts now (Marked s) = Stay
