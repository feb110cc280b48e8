-- Recover: decides a STAGING record of just this epoch and timestamp by what was found of its writes; it becomes COMMITTED
-- where all were found, and ABORTED otherwise. RFC 20180324, "Transaction recovery"; ParallelCommits TLA+, RecoverRecord.
use Rattle.std.specs.Prelude.{ℕ, if◌then◌else◌, []}
use Rattle.pc_proto.specs.declared.fate.Finding.{Finding}
use Rattle.pc_proto.specs.declared.fate.Finding.TheVariants as findings
use Rattle.pc_proto.specs.declared.record.Standing.{Standing}
use Rattle.pc_proto.specs.declared.record.Standing.TheVariants.{Committed, Aborted}
use Rattle.pc_proto.specs.declared.why.Why.TheVariants as whys
use Rattle.pc_proto.specs.Place.{Place, Nothing, Kept, Marked, Change, Stay, Become}
use Rattle.pc_proto.specs.RecordRows.Reached.{status_of, is_staged_at}

-- What a recovery decides by what it found.
abbrev pub standing_found : Finding → Standing
standing_found findings.All = Committed
standing_found (findings.Missing key by) = Aborted (whys.Missing key by)

-- What that decision makes of the transaction's record.
abbrev pub decided : Finding → Place → Change
decided finding (Kept r) =
    Become (record r { status = status_of (standing_found finding) r.status.epoch r.status.ts; writes = [] })
decided finding Nothing = Stay
decided finding (Marked s) = Stay

-- What a recovery does to the transaction's place.
abbrev pub recover : ℕ → ℕ → Finding → Place → Change
recover epoch ts finding p = if is_staged_at p epoch ts then decided finding p else Stay
