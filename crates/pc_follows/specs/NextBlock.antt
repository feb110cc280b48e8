-- Which conflict blocks a call where writes are pipelined: the next one whose round is not over; or where a stage was refused, the first of those
-- that it passed over that is the eighth of its write. Own profile.
use Rattle.std.specs.Prelude.{◌≡◌, ℕ, ◌⊎◌, None, Some, List, ◌∷◌, ◌++◌, All, IsTrue}
use Rattle.pc_base.specs.declared.limits.TheConstants.{MOST_CONFLICTS}
use Rattle.pc_base.specs.declared.transaction.TxnId.{TxnId}
use Rattle.pc_follows.specs.RoundsMade.{rounds_made}
use Rattle.pc_proto.specs.declared.meta.TxnMeta.{TxnMeta}
use Rattle.pc_proto.specs.declared.reply.Reply.TheVariants as replies
use Rattle.pc_proto.specs.declared.request.Request.{Request}
use Rattle.pc_proto.specs.Replies.{is_refused}
use Rattle.pc_world.specs.Counting.{AtLeast}
use Rattle.pc_world.specs.Known.{Known}
use Rattle.pc_world.specs.Known.Traffic.{Heard}
use Rattle.pc_world.specs.Tell.Refusal.{IsConflictOf}

-- The next of the conflicts that wait is with this holder, at this key.
pub record IsNextConflict (k : Known) (holder : TxnMeta) (key : List ℕ) : Type 0 where
  pub conflict : Heard
  pub later : List Heard
  pub ts : ℕ
  pub waits : (rounds_made k).waiting ≡ conflict ∷ later
  pub met : conflict.reply ≡ replies.Conflict holder ts key

-- The request met eight intents since the last call was asked.
abbrev pub IsAtItsEighth : Known → Request → Type 0
IsAtItsEighth k request = AtLeast (IsConflictOf request) MOST_CONFLICTS k.heard_now

-- The next conflict blocks the call, and is with this holder: it is the eighth of its request, or its push was refused.
pub record IsNextBlock (k : Known) (holder : TxnId) : Type 0 where
  pub meta : TxnMeta
  pub key : List ℕ
  pub next : IsNextConflict k meta key
  pub whose : meta.id ≡ holder
  pub why : (((rounds_made k).push ≡ None) × IsAtItsEighth k next.conflict.request)
      ⊎ ((push : Heard) × ((rounds_made k).push ≡ Some push) × IsTrue (is_refused push.reply))

-- A stage that was refused passed over a conflict with this holder, which is the eighth of its write, and the first such.
pub record IsPassedBlock (k : Known) (holder : TxnId) : Type 0 where
  pub meta : TxnMeta
  pub key : List ℕ
  pub ts : ℕ
  pub before : List Heard
  pub conflict : Heard
  pub later : List Heard
  pub passed : (rounds_made k).passed ≡ before ++ conflict ∷ later
  pub met : conflict.reply ≡ replies.Conflict meta ts key
  pub whose : meta.id ≡ holder
  pub eighth : IsAtItsEighth k conflict.request
  pub first : All (λ h. IsAtItsEighth k h.request → ⊥) before

-- The call is blocked, by a conflict with this holder.
abbrev pub IsBlockedNow : Known → TxnId → Type 0
IsBlockedNow k holder = IsNextBlock k holder ⊎ IsPassedBlock k holder
