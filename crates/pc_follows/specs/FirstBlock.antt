-- Which conflict blocks a call: the first, in the order in which they were heard, whose round is not over: it is the eighth of its request,
-- and has none, or its holder's push was refused. Own profile.
use Rattle.std.specs.Prelude.{◌≡◌, ℕ, ◌+◌, ◌<◌, Bool, true, false, ◌⊎◌, List, Any, IsTrue, take, ⊤}
use Rattle.pc_base.specs.declared.limits.TheConstants.{MOST_CONFLICTS}
use Rattle.pc_base.specs.declared.transaction.TxnId.{TxnId}
use Rattle.pc_follows.specs.NextBlock.{IsBlockedNow}
use Rattle.pc_follows.specs.Rounds.{IsConflictAt, IsRoundOver, conflicts_now, rounds_begun}
use Rattle.pc_proto.specs.declared.answer.Answer.{Answer}
use Rattle.pc_proto.specs.declared.answer.Answer.TheVariants as answers
use Rattle.pc_proto.specs.declared.meta.TxnMeta.{TxnMeta}
use Rattle.pc_world.specs.Counting.{AtLeast}
use Rattle.pc_world.specs.Known.{Known}
use Rattle.pc_world.specs.Known.Traffic.{Heard}
use Rattle.pc_world.specs.Send.Recovery.{was_refused}
use Rattle.pc_world.specs.Tell.Refusal.{IsConflictOf}

-- The conflict of this place is the eighth of its request, and has no round; or its round's push of this holder was refused.
abbrev pub IsBlockAt : Known → ℕ → TxnId → Heard → Type 0
IsBlockAt k place holder conflict =
    ((rounds_begun k ≡ place) × AtLeast (IsConflictOf conflict.request) MOST_CONFLICTS (take (place + 1) (conflicts_now k)))
    ⊎ ((rounds_begun k ≡ place + 1) × Any (λ h. IsTrue (was_refused holder h)) k.heard_now)

-- The first conflict without a finished round blocks the call, and is with this holder.
pub record IsBlockedBy (k : Known) (holder : TxnId) : Type 0 where
  pub place : ℕ
  pub meta : TxnMeta
  pub key : List ℕ
  pub of : IsConflictAt k place meta key
  pub whose : meta.id ≡ holder
  pub before : (earlier : ℕ) → earlier < place → IsRoundOver k earlier
  pub why : IsBlockAt k place holder of.conflict

-- A call that is told that it is blocked is so by the first conflict that is not settled.
abbrev pub TellsFirstBlock : Bool → Known → Answer → Type 0
TellsFirstBlock false k (answers.Blocked holder) = IsBlockedBy k holder
TellsFirstBlock true k (answers.Blocked holder) = IsBlockedNow k holder
TellsFirstBlock false k _ = ⊤
TellsFirstBlock true k _ = ⊤
