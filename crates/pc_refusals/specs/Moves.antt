-- How often stages and commits of the open call were moved, as a count has it. Own profile.
use Rattle.std.specs.Prelude.{◌≡◌, ℕ, ◌+◌, ◌≤◌, true, false, ◌&&◌, nat_lt, if◌then◌else◌, List, length, All}
use Rattle.pc_base.specs.declared.limits.TheConstants.{MOST_REFUSALS}
use Rattle.pc_proto.specs.declared.request.Request.{Request}
use Rattle.pc_proto.specs.declared.request.Request.TheVariants as requests
use Rattle.pc_proto.specs.Replies.{is_undecided_status, status_ts}
use Rattle.pc_wave.specs.Standing.{HasMore}
use Rattle.pc_world.specs.Counting.{AtLeast}
use Rattle.pc_world.specs.Known.{Known}
use Rattle.pc_world.specs.Known.Traffic.{Heard, Sent}
use Rattle.pc_world.specs.Tell.Data.{was_sent_now}
use Rattle.pc_world.specs.Tell.Refusal.{WasMoved, is_moved}

-- So often were stages and commits of the open call moved, no more and no less.
pub record CountsMoves (k : Known) (n : ℕ) : Type 0 where
  pub moved : AtLeast (WasMoved k) n k.heard_now
  pub no_more : AtLeast (WasMoved k) (n + 1) k.heard_now → ⊥

-- How many moves there are with one more reply, where a stage or commit at `ts` met a record at `recorded`; counted up to as many as
-- there may be.
abbrev pub moves_with : ℕ → ℕ → ℕ → ℕ
moves_with ts recorded n = if nat_lt ts recorded && nat_lt n MOST_REFUSALS then n + 1 else n

-- The request stages or commits at this timestamp.
abbrev pub DecidesAt : ℕ → Request → Type 0
DecidesAt ts (requests.Stage meta at now writes locks) = at ≡ ts
DecidesAt ts (requests.Commit meta at locks) = at ≡ ts
DecidesAt ts _ = ⊥

-- The reply to a stage or commit of the open call at this timestamp shows a record that is not final, and where it stands.
pub record ShowsRecord (k : Known) (ts recorded : ℕ) (h : Heard) : Type 0 where
  pub asked : DecidesAt ts h.request
  pub undecided : is_undecided_status h.reply ≡ true
  pub shown : status_ts h.reply ≡ recorded
  pub now : was_sent_now k h ≡ true

-- The reply moves no stage or commit.
abbrev pub IsNoMove : Heard → Type 0
IsNoMove h = is_moved h.request h.reply ≡ false

-- The count stands on while the session sends messages of new numbers, and hears what moves none.
abbrev pub RefusalsGoOn : Type 0
RefusalsGoOn =
    (n : ℕ) (k now : Known) (sent_more : List Sent) (heard_more : List Heard) → CountsMoves k n → HasMore k now sent_more heard_more
    → All (λ h. h.number ≤ length k.sent) k.heard_now → All (λ m. length k.sent + 1 ≤ m.number) sent_more → All IsNoMove heard_more
    → CountsMoves now n
