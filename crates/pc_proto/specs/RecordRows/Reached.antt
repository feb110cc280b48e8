-- What the rows ask of the record that they find.
use Rattle.std.specs.Prelude.{ℕ, nat_le, max, Bool, true, false, ◌&&◌, ◌==◌}
use Rattle.pc_proto.specs.declared.record.Status.{Status}
use Rattle.pc_proto.specs.declared.record.Standing.{Standing}
use Rattle.pc_proto.specs.declared.record.Standing.TheVariants as standings
use Rattle.pc_proto.specs.declared.meta.TxnMeta.{TxnMeta}
use Rattle.pc_proto.specs.Place.{Place, Nothing, Kept, Marked}

-- The status with this standing, epoch and timestamp.
abbrev pub status_of : Standing → ℕ → ℕ → Status
status_of standing epoch ts = record { standing = standing; epoch = epoch; ts = ts }

-- Neither its epoch nor its timestamp is past the one asked for; nothing is past anything.
abbrev pub is_reached : Place → ℕ → ℕ → Bool
is_reached Nothing epoch ts = true
is_reached (Kept r) epoch ts = nat_le r.status.epoch epoch && nat_le r.status.ts ts
is_reached (Marked s) epoch ts = false

-- The standing is staging.
abbrev pub is_staging : Standing → Bool
is_staging standings.Staging = true
is_staging standings.Pending = false
is_staging standings.Committed = false
is_staging (standings.Aborted why) = false

-- A staging record of just this epoch and timestamp.
abbrev pub is_staged_at : Place → ℕ → ℕ → Bool
is_staged_at Nothing epoch ts = false
is_staged_at (Kept r) epoch ts = is_staging r.status.standing && (r.status.epoch == epoch && r.status.ts == ts)
is_staged_at (Marked s) epoch ts = false

-- The last reading at which the transaction was known alive; with no record, the one given.
abbrev pub activity_of : Place → ℕ → ℕ
activity_of (Kept r) born = r.activity
activity_of Nothing born = born
activity_of (Marked s) born = born

-- The record's activity and this reading, the greater.
abbrev pub alive_at : Place → ℕ → ℕ
alive_at (Kept r) now = max r.activity now
alive_at Nothing now = now
alive_at (Marked s) now = now

-- The record's epoch and this one, the greater.
abbrev pub epoch_from : Place → ℕ → ℕ
epoch_from (Kept r) epoch = max r.status.epoch epoch
epoch_from Nothing epoch = epoch
epoch_from (Marked s) epoch = epoch

-- The record's timestamp, or none at all.
abbrev pub ts_of : Place → ℕ
ts_of (Kept r) = r.status.ts
ts_of Nothing = 0
ts_of (Marked s) = 0

-- The meta, in this epoch.
abbrev pub at_epoch : ℕ → TxnMeta → TxnMeta
at_epoch epoch meta = record meta { epoch = epoch }
