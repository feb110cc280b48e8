-- What lets a request of an open call go out, and what is known of a conflict that asks for a round.
use Rattle.std.specs.Prelude.{◌≡◌, ℕ, ◌+◌, ◌≤◌, false, Option, None, Some, IfSome, List, All, Contains, count_by, true, ◌⊎◌, Any, ⊤}
use Rattle.pc_call.specs.Setting.{Setting}
use Rattle.pc_call.specs.Beaten.{HasBeatenIn}
use Rattle.pc_base.specs.declared.actor.ActorId.TheVariants as actors
use Rattle.pc_call.specs.Paced.{KeepsBehindPushes, was_met, was_pushed}
use Rattle.pc_proto.specs.declared.event.Event.TheVariants as events
use Rattle.pc_proto.specs.declared.meta.TxnMeta.{TxnMeta}
use Rattle.pc_proto.specs.declared.reply.Reply.{Reply}
use Rattle.pc_proto.specs.declared.reply.Reply.TheVariants as replies
use Rattle.pc_proto.specs.declared.request.Request.{Request}
use Rattle.pc_proto.specs.declared.request.Request.TheVariants as requests
use Rattle.pc_proto.specs.Stamps.{request_stamps}
use Rattle.pc_wave.specs.Due.{IsRoundDue, MayBeSent}
use Rattle.pc_wave.specs.Course.{Course}
use Rattle.pc_follows.specs.CallMessages.{IsForCall, IsQueryOfOwn}
use Rattle.pc_follows.specs.EarlyTell.{IsCommitDecided, IsCommitKnown}
use Rattle.pc_follows.specs.Eighth.{IsBeforeEighth, MetEighth}
use Rattle.pc_follows.specs.Heartbeats.{BeatsFirst}
use Rattle.pc_follows.specs.LastBeats.{BeatsLast}
use Rattle.pc_follows.specs.OneWrite.{IsItsPut}
use Rattle.pc_follows.specs.OwnStages.{IsBesidePuts}
use Rattle.pc_follows.specs.Proving.{WritesBehindProved}
use Rattle.pc_follows.specs.PipelinedRounds.{AreAllOver, IsInNextTurn}
use Rattle.pc_follows.specs.PutsAgain.{IsAtWriteTs, IsUnheardNow, WasPassedOver, WentThroughRound}
use Rattle.pc_follows.specs.Refreshes.{IsItsRefresh}
use Rattle.pc_follows.specs.Resends.{GoesAgainAnswered}
use Rattle.pc_world.specs.Known.{Known, open_txn}
use Rattle.pc_world.specs.Known.Statements.{Statement}
use Rattle.pc_world.specs.Known.Traffic.{Heard}
use Rattle.pc_world.specs.Known.Transactions.{Txn}
use Rattle.pc_world.specs.MaySend.{MaySendRow}
use Rattle.pc_world.specs.SameRequest.{IsSameRequest}

-- A put that was sent before goes at the write timestamp, where no reply to it was heard in the call or a refused stage passed over it, or just as it was,
-- once the round of its conflict was made; a heartbeat has rules of its own; and another request that was sent in its call was answered there, and has a reason.
abbrev pub IsResentFor : Known → Request → Type 0
IsResentFor k (requests.Put meta seq ts key value) =
    Any (λ m. IsSameRequest (requests.Put meta seq ts key value) m.request) k.sent
    → (IsAtWriteTs k (requests.Put meta seq ts key value) × (IsUnheardNow k (requests.Put meta seq ts key value) ⊎ WasPassedOver k (requests.Put meta seq ts key value)))
    ⊎ WentThroughRound k (requests.Put meta seq ts key value)
IsResentFor k (requests.Beat meta ts now) = ⊤
IsResentFor k request = GoesAgainAnswered k request

-- The request may be sent: its row allows it, and none of its timestamps is past the one after the greatest that the session knows; it is
-- for the open call, which is not decided; where it was sent in the call before, all such were answered, and there is a reason to send it
-- again, or its last ones were lost; neither it nor the commit has met its eighth; a put is of the open transaction, and the call's only new write; a refresh is of a span
-- that was read, behind all that went out to its timestamp; where nothing is lost a heartbeat goes out first where one is due, or
-- last where the call would give up, and nowhere else; a new write goes behind those for which its call waits, which are proved; a stage beside the puts of
-- those that are not; what was sent before goes again as may be; and where writes are pipelined and no conflict waits, the call may go on, or it asks for
-- the write that blocks it.
pub record IsSendable (set : Setting) (session : ℕ) (k : Known) (request : Request) : Type 0 where
  pub row : MaySendRow set.splits (actors.Session session) k request
  pub stamps : All (λ ts. ts ≤ k.top + 1) (request_stamps request)
  pub kind : IsForCall set.course.pipelines k request
  pub undecided : (t : Txn) → IsCommitDecided k t → ⊥
  pub goes : MayBeSent set.course.loses set.course k request
  pub below : MetEighth k request → ⊥
  pub before : IsBeforeEighth set.course.pipelines k request
  pub own : IsItsPut k request
  pub refresh : set.course.loses ≡ false → IsItsRefresh k request
  pub last_beats : set.course.loses ≡ false → (number range : ℕ) → BeatsLast k (events.Send number range request)
  pub beats : set.course.loses ≡ false → (t : Txn) → open_txn k ≡ Some t → BeatsFirst k t request
  pub proved : (number range : ℕ) → WritesBehindProved k (events.Send number range request)
  pub stages : IsBesidePuts k request
  pub resent : set.course.loses ≡ false → IsResentFor k request
  pub turn : set.course.loses ≡ false → set.course.pipelines ≡ true → AreAllOver k ⊎ IsQueryOfOwn k request → IsInNextTurn k request

-- The timestamp at which a request reads.
abbrev pub read_at : Request → Option ℕ
read_at (requests.Get id epoch seq ts key) = Some ts
read_at (requests.Scan id epoch seq ts span) = Some ts
read_at _ = None

-- The message of this number met this conflict in the open call, which is not decided, and it was not the eighth of its request; a reader is
-- at the timestamp at which it reads; more conflicts with the holder were heard in the call than pushes of it, and no request of its rounds more
-- often than pushes; and where nothing is lost no heartbeat is due.
pub record IsConflictNow (course : Course) (k : Known) (number : ℕ) (conflict : Reply) (reader : Option ℕ) : Type 0 where
  pub s : Statement
  pub opened : k.statement ≡ Some s
  pub t : Txn
  pub open_is : open_txn k ≡ Some t
  pub undecided : (t : Txn) (ts : ℕ) → IsCommitKnown k t ts → ⊥
  pub beaten : HasBeatenIn course.loses k t
  pub holder : TxnMeta
  pub ts : ℕ
  pub key : List ℕ
  pub is : conflict ≡ replies.Conflict holder ts key
  pub other : holder.id ≡ t.id → ⊥
  pub h : Heard
  pub there : Contains k.heard_now h
  pub numbered : h.number ≡ number
  pub told : h.reply ≡ conflict
  pub reads : reader ≡ read_at h.request
  pub low : IfSome reader (λ ts. ts ≤ k.top)
  pub due : IsRoundDue course k number conflict
  pub pushes : count_by (was_pushed holder.id) k.heard_now + 1 ≤ count_by (was_met holder.id) k.heard_now
  pub behind : KeepsBehindPushes holder.id k.heard_now
