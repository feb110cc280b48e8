-- Rounds where writes are pipelined: a round begins with the push of the next conflict's holder, goes on as the reply asks, and settles the
-- intent; only where no conflict waits the call goes on. SIGMOD 2020 paper, section 3.2; the order is this project's own profile.
use Rattle.std.specs.Prelude.{◌≡◌, ℕ, Bool, true, false, ◌⊎◌, Option, None, Some, List, [], All, ⊤}
use Rattle.pc_base.specs.declared.transaction.TxnId.{TxnId}
use Rattle.pc_follows.specs.NextBlock.{IsNextConflict, IsAtItsEighth}
use Rattle.pc_follows.specs.OwnQueries.{QueriesBlocked}
use Rattle.pc_follows.specs.Rounds.{IsItself, KeepsRounds}
use Rattle.pc_follows.specs.RoundsMade.{rounds_made}
use Rattle.pc_proto.specs.declared.event.Event.{Event}
use Rattle.pc_proto.specs.declared.event.Event.TheVariants as events
use Rattle.pc_proto.specs.declared.fate.Fate.{Fate}
use Rattle.pc_proto.specs.declared.fate.Goal.{Goal}
use Rattle.pc_proto.specs.declared.meta.TxnMeta.{TxnMeta}
use Rattle.pc_proto.specs.declared.reply.Reply.{Reply}
use Rattle.pc_proto.specs.declared.reply.Reply.TheVariants as replies
use Rattle.pc_proto.specs.declared.request.Request.{Request}
use Rattle.pc_proto.specs.declared.request.Request.TheVariants as requests
use Rattle.pc_proto.specs.declared.view.View.{View}
use Rattle.pc_proto.specs.Requests.{goal_in}
use Rattle.pc_proto.specs.Views.{fate_after, final_fate}
use Rattle.pc_world.specs.Known.{Known}
use Rattle.pc_world.specs.Known.Statements.{Statement}
use Rattle.pc_world.specs.Known.Traffic.{Heard}
use Rattle.pc_world.specs.Send.Push.{goal_for}

-- A push begins the round of the next conflict, where that is not the eighth of its request, and aims at what the request that met it asks for.
pub record BeginsNextRound (k : Known) (holder : TxnMeta) (goal : Goal) : Type 0 where
  pub key : List ℕ
  pub next : IsNextConflict k holder key
  pub unbegun : (rounds_made k).push ≡ None
  pub below : IsAtItsEighth k next.conflict.request → ⊥
  pub aims : goal ≡ goal_for next.conflict.request

-- The round of the next conflict goes on, by this reply to its push; the conflict is with this transaction, at this key.
pub record IsInNextRound (k : Known) (id : TxnId) (key : List ℕ) (push : Heard) : Type 0 where
  pub holder : TxnMeta
  pub next : IsNextConflict k holder key
  pub whose : holder.id ≡ id
  pub begun : (rounds_made k).push ≡ Some push

-- The reply is that the push is unsure.
abbrev pub IsUnsure : Reply → Type 0
IsUnsure (replies.Unsure view) = ⊤
IsUnsure _ = ⊥

-- The round that goes on asks for the writes of a record that stages, or recovers it.
pub record RecoversInRound (k : Known) (id : TxnId) : Type 0 where
  pub key : List ℕ
  pub push : Heard
  pub round : IsInNextRound k id key push
  pub unsure : IsUnsure push.reply
  pub unrecovered : (rounds_made k).recovered ≡ None

-- What a reply to a push of this goal leaves of the intent: the fate that its status shows, or that of the recovery after an unsure one.
abbrev pub LeavesFateBy : Goal → Reply → Option View → Fate → Type 0
LeavesFateBy goal (replies.Status view) recovered fate = fate_after goal view ≡ Some fate
LeavesFateBy goal (replies.Unsure view) recovered fate = (shown : View) × (recovered ≡ Some shown) × (final_fate shown ≡ Some fate)
LeavesFateBy goal _ recovered fate = ⊥

-- The round that goes on settles the intent, with the fate that is left to it.
pub record SettlesInRound (k : Known) (id : TxnId) (key : List ℕ) (fate : Fate) : Type 0 where
  pub push : Heard
  pub round : IsInNextRound k id key push
  pub goal : Goal
  pub aims : goal_in push.request ≡ Some goal
  pub left : LeavesFateBy goal push.reply (rounds_made k).recovered fate

-- No conflict waits.
abbrev pub AreAllOver : Known → Type 0
AreAllOver k = (rounds_made k).waiting ≡ []

-- No conflict waits, and of those that a refused stage passed over none is the eighth of its write.
pub record MayGoOn (k : Known) : Type 0 where
  pub over : AreAllOver k
  pub below : All (λ h. IsAtItsEighth k h.request → ⊥) (rounds_made k).passed

-- A request of a round goes out in its turn; an own write is asked for where it blocks; a heartbeat has rules of its own; and any other
-- request goes out only where the call may go on.
abbrev pub IsInNextTurn : Known → Request → Type 0
IsInNextTurn k (requests.Push holder by level now goal) = BeginsNextRound k holder goal
IsInNextTurn k (requests.Resolve id key fate) = SettlesInRound k id key fate
IsInNextTurn k (requests.Query id epoch seq ts key by) = (IsItself k id × QueriesBlocked k id epoch seq ts key) ⊎ RecoversInRound k id
IsInNextTurn k (requests.Recover id epoch ts anchor finding) = RecoversInRound k id
IsInNextTurn k (requests.Beat meta ts now) = ⊤
IsInNextTurn k _ = MayGoOn k

-- In an open call each conflict has its round, in order, before the call goes on.
abbrev pub MakesRounds : Bool → Known → Event → Type 0
MakesRounds false k event = KeepsRounds k event
MakesRounds true k (events.Send number range request) = (s : Statement) → k.statement ≡ Some s → IsInNextTurn k request
MakesRounds true k _ = ⊤
