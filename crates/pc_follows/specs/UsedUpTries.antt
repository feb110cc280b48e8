-- Tries: a call is told that it is unavailable, or that its outcome is not known, after exactly as many tries of one request as the workload has:
-- so many messages of it in a row were delivered in the call, and none of them was answered. So was a put that waited in the outbox when the call was
-- asked, where the call waits for its write; one that an earlier call gave up is no try of this one. Own profile.
use Rattle.std.specs.Prelude.{◌≡◌, ℕ, zero, suc, ◌+◌, ◌⊎◌, not, List, [], ◌∷◌, reverse, Any, Contains, IsTrue, ⊤}
use Rattle.pc_follows.specs.Outbox.{DeliversPut, HasWaitedInOutbox}
use Rattle.pc_history.specs.declared.pair.Pair.{Pair}
use Rattle.pc_proto.specs.declared.answer.Answer.{Answer}
use Rattle.pc_proto.specs.declared.answer.Answer.TheVariants as answers
use Rattle.pc_proto.specs.declared.event.Event.{Event}
use Rattle.pc_proto.specs.declared.event.Event.TheVariants as events
use Rattle.pc_proto.specs.declared.request.Request.{Request}
use Rattle.pc_proto.specs.declared.request.Request.TheVariants as requests
use Rattle.pc_world.specs.Known.{known_of}
use Rattle.pc_world.specs.Known.Traffic.{Heard, Sent}
use Rattle.pc_world.specs.SameRequest.{IsSameMessage}
use Rattle.pc_world.specs.StageFate.{IsLate}
use Rattle.pc_world.specs.Tell.Refusal.{is_heard}

-- The message is delivered in the open call: it was sent in it, or had waited in the outbox, and the call waits for its write.
abbrev pub IsDeliveredNow : List (Pair Event) → Sent → Type 0
IsDeliveredNow own m =
    Contains (known_of own).sent_now m ⊎ (HasWaitedInOutbox own m × DeliversPut (known_of own) m.request)

-- The message is a try of the open call that was lost.
pub record IsLostTry (own : List (Pair Event)) (m : Sent) : Type 0 where
  pub delivered : IsDeliveredNow own m
  pub unheard : IsTrue (not (is_heard (known_of own).heard m))

-- Of these messages, the latest first, the last so many of this one's request are tries of the open call that were lost.
abbrev pub AreLastTries : List (Pair Event) → Sent → List Sent → ℕ → Type 0
AreLastTries own m sent zero = Unit {0}
AreLastTries own m [] (suc n) = ⊥
AreLastTries own m (x ∷ sent) (suc n) =
    (IsSameMessage m x × IsLostTry own x × AreLastTries own m sent n)
    ⊎ ((IsSameMessage m x → ⊥) × AreLastTries own m sent (suc n))

-- So many tries of the message's request were lost in a row.
abbrev pub WereLostInCall : List (Pair Event) → Sent → ℕ → Type 0
WereLostInCall own m n = AreLastTries own m (reverse (known_of own).sent) n

-- The request is a stage that is late: it is not waited for any more.
abbrev pub IsLateStage : List Heard → Request → Type 0
IsLateStage heard (requests.Stage meta ts now writes locks) =
    IsLate heard (record { meta = meta; ts = ts; now = now; writes = writes; locks = locks })
IsLateStage heard _ = ⊥

-- The tries of the message's request are used up: so many were lost in a row, and no more.
pub record IsOutOfTries (tries : ℕ) (own : List (Pair Event)) (m : Sent) : Type 0 where
  pub lost : WereLostInCall own m tries
  pub no_more : WereLostInCall own m (tries + 1) → ⊥
  pub awaited : IsLateStage (known_of own).heard m.request → ⊥

-- The tries of some request are used up.
abbrev pub AreUsedUp : ℕ → List (Pair Event) → Type 0
AreUsedUp tries own = Any (IsOutOfTries tries own) (known_of own).sent

-- What is told of lost messages.
abbrev pub IsAfterTries : ℕ → List (Pair Event) → Answer → Type 0
IsAfterTries tries own (answers.Unavailable faults) = (faults ≡ tries) × AreUsedUp tries own
IsAfterTries tries own (answers.Unknown id) = AreUsedUp tries own
IsAfterTries tries own _ = ⊤

-- A call is told that messages were lost only once the tries of one request were used up.
abbrev pub TellsAfterTries : ℕ → List (Pair Event) → Event → Type 0
TellsAfterTries tries own (events.Tell answer) = IsAfterTries tries own answer
TellsAfterTries tries own _ = ⊤
