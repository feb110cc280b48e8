-- Push: aborts or moves a transaction that stands in the way, where the pusher's level is higher or the holder has expired.
-- A push that wins against a STAGING record decides nothing: a recovery must. SIGMOD 2020 paper, section 3.2; that a level
-- or an expiry decides is this project's own profile.
use Rattle.std.specs.Prelude.{ℕ, ◌-◌, nat_le, nat_lt, Bool, false, ◌||◌, if◌then◌else◌, []}
use Rattle.pc_base.specs.declared.limits.TheConstants.{EXPIRY}
use Rattle.pc_base.specs.declared.transaction.Priority.{Priority}
use Rattle.pc_base.specs.declared.transaction.Priority.TheVariants.{Low, Normal, High}
use Rattle.pc_base.specs.declared.transaction.Who.{Who}
use Rattle.pc_proto.specs.declared.fate.Goal.{Goal}
use Rattle.pc_proto.specs.declared.fate.Goal.TheVariants as goals
use Rattle.pc_proto.specs.declared.meta.TxnMeta.{TxnMeta}
use Rattle.pc_proto.specs.declared.record.Standing.TheVariants.{Pending, Aborted}
use Rattle.pc_proto.specs.declared.why.Why.TheVariants.{Pushed}
use Rattle.pc_proto.specs.Place.{Place, Nothing, Kept, Marked, Change, Stay, Become}
use Rattle.pc_proto.specs.RecordRows.Reached.{status_of, is_staging, epoch_from, ts_of, activity_of, at_epoch}

-- Of two levels the higher one has the higher rank.
abbrev pub level_rank : Priority → ℕ
level_rank Low = 0
level_rank Normal = 1
level_rank High = 2

-- The level is higher than the holder's, or the holder has expired.
abbrev pub wins : TxnMeta → Priority → ℕ → Place → Bool
wins holder level now p = nat_lt (level_rank holder.priority) (level_rank level) || nat_lt EXPIRY (now - activity_of p holder.born)

-- The record stands at the target or above it.
abbrev pub reaches_goal : Goal → Place → Bool
reaches_goal (goals.Move target) (Kept r) = nat_le target r.status.ts
reaches_goal (goals.Move target) Nothing = false
reaches_goal (goals.Move target) (Marked s) = false
reaches_goal goals.Abort p = false

-- The holder has a staging record.
abbrev pub is_staged : Place → Bool
is_staged (Kept r) = is_staging r.status.standing
is_staged Nothing = false
is_staged (Marked s) = false

-- What a push comes to: the holder is there already, the push is refused, a recovery must decide, or the push is done.
pub data Verdict : Type 0 where
  There : Verdict
  Refuse : Verdict
  Doubt : Verdict
  Do : Verdict

-- What this push comes to.
abbrev pub push_verdict : TxnMeta → Priority → ℕ → Goal → Place → Verdict
push_verdict holder level now goal p =
    if reaches_goal goal p then There
    else if wins holder level now p then (if is_staged p then Doubt else Do)
    else Refuse

-- What a push that is done makes of the holder's place.
abbrev pub pushed : TxnMeta → Who → Goal → Place → Change
pushed holder by goals.Abort p =
    Become (record { meta = at_epoch (epoch_from p holder.epoch) holder; status = status_of (Aborted (Pushed by)) (epoch_from p holder.epoch) (ts_of p); activity = activity_of p holder.born; writes = []; locks = [] })
pushed holder by (goals.Move target) p =
    Become (record { meta = at_epoch (epoch_from p holder.epoch) holder; status = status_of Pending (epoch_from p holder.epoch) target; activity = activity_of p holder.born; writes = []; locks = [] })

-- A push changes nothing unless it is done.
abbrev pub on_verdict : Verdict → Change → Change
on_verdict There change = Stay
on_verdict Refuse change = Stay
on_verdict Doubt change = Stay
on_verdict Do change = change

-- What a push does to the holder's place.
abbrev pub push : TxnMeta → Who → Priority → ℕ → Goal → Place → Change
push holder by level now goal p = on_verdict (push_verdict holder level now goal p) (pushed holder by goal p)
