-- Last heartbeats: a commit that would give up while a recovery may have committed it first sends a heartbeat, behind which it
-- sends nothing more: what that finds, or that it gives up, is its answer. RFC 20180324.
use Rattle.std.specs.Prelude.{◌≡◌, ◌≢◌, ℕ, ◌⊎◌, List, [], ◌∷◌, ◌++◌, Some, Any, IsTrue, ⊤}
use Rattle.pc_base.specs.declared.transaction.TxnId.{TxnId}
use Rattle.pc_follows.specs.Eighth.{WasMovedEighth}
use Rattle.pc_follows.specs.Heartbeats.{is_heartbeat}
use Rattle.pc_follows.specs.NextBlock.{IsBlockedNow}
use Rattle.pc_proto.specs.declared.event.Event.{Event}
use Rattle.pc_proto.specs.declared.event.Event.TheVariants as events
use Rattle.pc_world.specs.Known.{Known}
use Rattle.pc_world.specs.Known.Statements.{Statement}
use Rattle.pc_world.specs.Known.Traffic.{Sent}
use Rattle.pc_world.specs.Tell.End.{IsUnrefreshed}

-- A heartbeat went out in the call behind another message of it.
pub record HasSentLastBeat (k : Known) : Type 0 where
  pub first : Sent
  pub between : List Sent
  pub beat : Sent
  pub later : List Sent
  pub whole : k.sent_now ≡ first ∷ between ++ beat ∷ later
  pub beats : IsTrue (is_heartbeat beat.request)

-- The call would give up: what it read is not good any more, a conflict blocks it, or it was moved eight times.
abbrev pub WouldGiveUp : Known → Type 0
WouldGiveUp k =
    ((key : List ℕ) × (ts : ℕ) × Any (λ h. IsUnrefreshed key ts h.reply) k.heard_now)
    ⊎ ((holder : TxnId) × IsBlockedNow k holder) ⊎ WasMovedEighth k

-- A heartbeat goes out behind another message of the call only where the call would give up, and nothing goes out behind it.
abbrev pub BeatsLast : Known → Event → Type 0
BeatsLast k (events.Send number range request) =
    (s : Statement) → k.statement ≡ Some s
    → (HasSentLastBeat k → ⊥) × (IsTrue (is_heartbeat request) → k.sent_now ≢ [] → WouldGiveUp k)
BeatsLast k _ = ⊤
