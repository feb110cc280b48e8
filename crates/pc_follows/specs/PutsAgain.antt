-- Puts again: a write is put again only once each message of it that went out was answered, and then at the write timestamp
-- where no reply to it was heard in the call, or where a stage was refused since; or just as it was, once the round of the conflict that it
-- met there was made. Own profile, after RFC 20180324.
use Rattle.std.specs.Prelude.{◌≡◌, List, ◌∷◌, ◌++◌, Some, All, Any, IsTrue, ◌⊎◌, ⊤}
use Rattle.pc_follows.specs.OwnStages.{refuses_stage}
use Rattle.pc_follows.specs.Resends.{GoesAgainAnswered, MetConflictNow}
use Rattle.pc_proto.specs.declared.event.Event.{Event}
use Rattle.pc_proto.specs.declared.event.Event.TheVariants as events
use Rattle.pc_proto.specs.declared.request.Request.{Request}
use Rattle.pc_proto.specs.declared.request.Request.TheVariants as requests
use Rattle.pc_proto.specs.Replies.{is_conflict}
use Rattle.pc_world.specs.Known.{Known, open_txn}
use Rattle.pc_world.specs.Known.Statements.{Statement}
use Rattle.pc_world.specs.Known.Traffic.{Heard}
use Rattle.pc_world.specs.Known.Transactions.{Txn}
use Rattle.pc_world.specs.SameRequest.{IsSameRequest}
use Rattle.pc_world.specs.Tell.Refusal.{is_heard}

-- Each message of the request that was ever sent was answered.
abbrev pub AreAllAnswered : Known → Request → Type 0
AreAllAnswered k request = All (λ m. IsSameRequest request m.request → IsTrue (is_heard k.heard m)) k.sent

-- If the request is a put, it goes out at the write timestamp of the open transaction.
abbrev pub IsAtWriteTs : Known → Request → Type 0
IsAtWriteTs k (requests.Put meta seq ts key value) = (t : Txn) → open_txn k ≡ Some t → ts ≡ t.write_ts
IsAtWriteTs k _ = ⊤

-- No reply to the request was heard since the last call was asked.
abbrev pub IsUnheardNow : Known → Request → Type 0
IsUnheardNow k request = All (λ h. IsSameRequest request h.request → ⊥) k.heard_now

-- The request met an intent since the last call was asked, no reply to it was heard after that, and then a stage was refused: the conflict has
-- no round.
pub record WasPassedOver (k : Known) (request : Request) : Type 0 where
  pub before : List Heard
  pub conflict : Heard
  pub later : List Heard
  pub whole : k.heard_now ≡ before ++ (conflict ∷ later)
  pub same : IsSameRequest request conflict.request
  pub last : All (λ h. IsSameRequest request h.request → ⊥) later
  pub met : IsTrue (is_conflict conflict.reply)
  pub refused : Any (λ h. IsTrue (refuses_stage h.request h.reply)) later

-- The round of the conflict that the request met since the last call was asked was made, and the request is just as it was.
pub record WentThroughRound (k : Known) (request : Request) : Type 0 where
  pub met : MetConflictNow k request
  pub just_so : request ≡ met.conflict.request

-- The write may be put again so.
pub record MayPutAgain (k : Known) (request : Request) : Type 0 where
  pub answered : AreAllAnswered k request
  pub why : (IsAtWriteTs k request × (IsUnheardNow k request ⊎ WasPassedOver k request)) ⊎ WentThroughRound k request

-- A put is sent again so, also where it was sent before in an earlier call; a heartbeat has rules of its own; and another request is sent again in
-- its call for the reasons of `Resends`.
abbrev pub MayBeSentAgain : Known → Request → Type 0
MayBeSentAgain k (requests.Put meta seq ts key value) =
    Any (λ m. IsSameRequest (requests.Put meta seq ts key value) m.request) k.sent → MayPutAgain k (requests.Put meta seq ts key value)
MayBeSentAgain k (requests.Beat meta ts now) = ⊤
MayBeSentAgain k request = GoesAgainAnswered k request

-- In an open call a request is sent again only with a reason.
abbrev pub ResendsOnlyAnswered : Known → Event → Type 0
ResendsOnlyAnswered k (events.Send number range request) = (s : Statement) → k.statement ≡ Some s → MayBeSentAgain k request
ResendsOnlyAnswered k _ = ⊤
