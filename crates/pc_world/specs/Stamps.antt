-- The timestamps that stand in a range, and when all of them leave room for one above.
use Rattle.std.specs.Prelude.{ℕ, ◌<◌, ◌≤◌, All, List, [], ◌∷◌, ◌++◌, map}
use Rattle.std.specs.List.{flat_map}
use Rattle.pc_base.specs.Timestamp.{greatest}
use Rattle.pc_proto.specs.declared.record.Standing.{Standing}
use Rattle.pc_proto.specs.declared.record.Standing.TheVariants as standings
use Rattle.pc_proto.specs.declared.request.Request.{Request}
use Rattle.pc_proto.specs.Stamps.{request_stamps, why_stamps}
use Rattle.pc_world.specs.RangeState.{RangeState}

-- The timestamps of a range's versions, intents, bound, records and marks.
abbrev pub state_stamps : RangeState → List ℕ
state_stamps s =
    s.bound.ts ∷ (map (λ v. v.ts) s.versions ++ (map (λ e. e.1.ts) s.intents
    ++ (map (λ e. e.1.status.ts) s.table.records ++ map (λ e. e.1.ts) s.table.marks)))

-- Each of these is below the greatest timestamp.
abbrev pub AllBelowGreatest : List ℕ → Type 0
AllBelowGreatest stamps = All (λ ts. ts < greatest) stamps

-- Each timestamp in the range and in the request is below the greatest.
pub record HasRoom (request : Request) (s : RangeState) : Type 0 where
  pub asked : AllBelowGreatest (request_stamps request)
  pub state : AllBelowGreatest (state_stamps s)

-- The timestamp in the cause for which a transaction was aborted, if there is one.
abbrev pub standing_stamps : Standing → List ℕ
standing_stamps (standings.Aborted why) = why_stamps why
standing_stamps standings.Pending = []
standing_stamps standings.Staging = []
standing_stamps standings.Committed = []

-- The timestamps in the causes that a range's records and marks show.
abbrev pub cause_stamps : RangeState → List ℕ
cause_stamps s =
    flat_map (λ e. standing_stamps e.1.status.standing) s.table.records
    ++ flat_map (λ e. standing_stamps e.1.standing) s.table.marks

-- Every timestamp of a range: those that stand in it, and those in causes.
abbrev pub all_stamps : RangeState → List ℕ
all_stamps s = state_stamps s ++ cause_stamps s

-- Each of these is at most this one.
abbrev pub AllAtMost : ℕ → List ℕ → Type 0
AllAtMost most stamps = All (λ ts. ts ≤ most) stamps
