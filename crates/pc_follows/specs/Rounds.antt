-- Rounds of a call: each conflict that a call meets has one round, the conflicts in the order in which they were heard, one round after
-- another. A round begins with the push of the conflict's holder, goes on as the reply asks, settles the intent that stood in the way,
-- and is then over. Only once all are over does the call go on. SIGMOD 2020 paper, section 3.2; the order is this project's own profile.
use Rattle.std.specs.Prelude.{◌≡◌, ℕ, ◌+◌, ◌<◌, ◌⊎◌, Some, List, ◌∷◌, ◌++◌, length, filter, slice_get, is_some, Any, ⊤}
use Rattle.pc_base.specs.declared.transaction.TxnId.{TxnId}
use Rattle.pc_proto.specs.declared.event.Event.{Event}
use Rattle.pc_proto.specs.declared.event.Event.TheVariants as events
use Rattle.pc_proto.specs.declared.fate.Fate.{Fate}
use Rattle.pc_proto.specs.declared.fate.Goal.{Goal}
use Rattle.pc_proto.specs.declared.meta.TxnMeta.{TxnMeta}
use Rattle.pc_proto.specs.declared.reply.Reply.{Reply}
use Rattle.pc_proto.specs.declared.reply.Reply.TheVariants as replies
use Rattle.pc_proto.specs.declared.request.Request.{Request}
use Rattle.pc_proto.specs.declared.request.Request.TheVariants as requests
use Rattle.pc_proto.specs.declared.view.View.{View}
use Rattle.pc_proto.specs.Replies.{is_conflict}
use Rattle.pc_proto.specs.Requests.{goal_in}
use Rattle.pc_proto.specs.Views.{fate_after, final_fate}
use Rattle.pc_follows.specs.Resends.{RecoveredTo, WasDone}
use Rattle.pc_world.specs.Known.{Known, open_txn}
use Rattle.pc_world.specs.Known.Statements.{Statement}
use Rattle.pc_world.specs.Known.Traffic.{Heard}
use Rattle.pc_world.specs.Known.Transactions.{Txn}
use Rattle.pc_world.specs.SameRequest.{IsSameRequest}
use Rattle.pc_world.specs.Send.Push.{goal_for}

-- The conflicts that were heard since the last call was asked, in the order in which they were heard.
abbrev pub conflicts_now : Known → List Heard
conflicts_now k = filter (λ h. is_conflict h.reply) k.heard_now

-- The pushes that were sent since the last call was asked: each begins a round.
abbrev pub rounds_begun : Known → ℕ
rounds_begun k = length (filter (λ m. is_some (goal_in m.request)) k.sent_now)

-- The call's conflict of this place, counted from 0, was with this holder, at this key.
pub record IsConflictAt (k : Known) (place : ℕ) (holder : TxnMeta) (key : List ℕ) : Type 0 where
  pub conflict : Heard
  pub ts : ℕ
  pub placed : slice_get (conflicts_now k) place ≡ Some conflict
  pub met : conflict.reply ≡ replies.Conflict holder ts key

-- The round of the call's conflict of this place is over: its push was answered, and what the reply asks for was done.
pub record IsRoundOver (k : Known) (place : ℕ) : Type 0 where
  pub before : List Heard
  pub push : Heard
  pub after : List Heard
  pub whole : k.heard_now ≡ before ++ (push ∷ after)
  pub placed : length (filter (λ h. is_some (goal_in h.request)) before) ≡ place
  pub holder : TxnMeta
  pub key : List ℕ
  pub of : IsConflictAt k place holder key
  pub goal : Goal
  pub aims : goal_in push.request ≡ Some goal
  pub done : WasDone holder.id key goal push.reply after

-- Every round that was begun is over.
abbrev pub AreRoundsOver : Known → Type 0
AreRoundsOver k = (place : ℕ) → place < rounds_begun k → IsRoundOver k place

-- A push begins the round of the first conflict that had none, once the rounds before it are over, and it aims at what the request that
-- met the conflict asks for.
pub record BeginsRound (k : Known) (holder : TxnMeta) (goal : Goal) : Type 0 where
  pub key : List ℕ
  pub next : IsConflictAt k (rounds_begun k) holder key
  pub over : AreRoundsOver k
  pub aims : goal ≡ goal_for next.conflict.request

-- The round that goes on is of a conflict with this transaction at this key: it was begun last, and is not over.
pub record IsInRound (k : Known) (id : TxnId) (key : List ℕ) : Type 0 where
  pub place : ℕ
  pub last : rounds_begun k ≡ place + 1
  pub holder : TxnMeta
  pub of : IsConflictAt k place holder key
  pub whose : holder.id ≡ id
  pub goes_on : IsRoundOver k place → ⊥

-- What a reply to a push of this goal leaves of the intent: the fate that its status shows, or that which the recovery showed after an
-- unsure one.
abbrev pub LeavesFate : TxnId → Goal → Reply → List Heard → Fate → Type 0
LeavesFate id goal (replies.Status view) later fate = fate_after goal view ≡ Some fate
LeavesFate id goal (replies.Unsure view) later fate = Any (λ h. (shown : View) × RecoveredTo id shown h.request h.reply × (final_fate shown ≡ Some fate)) later
LeavesFate id goal _ later fate = ⊥

-- The round that goes on leaves this fate to the transaction's intent, as its push and what was heard since say.
pub record IsFateOfRound (k : Known) (id : TxnId) (fate : Fate) : Type 0 where
  pub before : List Heard
  pub push : Heard
  pub after : List Heard
  pub whole : k.heard_now ≡ before ++ (push ∷ after)
  pub last : length (filter (λ h. is_some (goal_in h.request)) before) + 1 ≡ rounds_begun k
  pub goal : Goal
  pub aims : goal_in push.request ≡ Some goal
  pub left : LeavesFate id goal push.reply after fate

-- Every conflict that was heard had its round, and every round is over.
pub record AreConflictsOver (k : Known) : Type 0 where
  pub all : rounds_begun k ≡ length (conflicts_now k)
  pub over : AreRoundsOver k

-- The transaction is the open one: a query of its own staged write is of no round.
abbrev pub IsItself : Known → TxnId → Type 0
IsItself k id = (t : Txn) × (open_txn k ≡ Some t) × (t.id ≡ id)

-- A request of a round goes out in its turn; any other is sent again only once no conflict is left.
abbrev pub IsInItsRound : Known → Request → Type 0
IsInItsRound k (requests.Push holder by level now goal) = BeginsRound k holder goal
IsInItsRound k (requests.Resolve id key fate) = IsInRound k id key × IsFateOfRound k id fate
IsInItsRound k (requests.Query id epoch seq ts key by) = IsItself k id ⊎ ((met : List ℕ) × IsInRound k id met)
IsInItsRound k (requests.Recover id epoch ts anchor finding) = (met : List ℕ) × IsInRound k id met
IsInItsRound k request = Any (λ m. IsSameRequest request m.request) k.sent_now → AreConflictsOver k

-- In an open call each conflict has its round, in order, before the call goes on.
abbrev pub KeepsRounds : Known → Event → Type 0
KeepsRounds k (events.Send number range request) = (s : Statement) → k.statement ≡ Some s → IsInItsRound k request
KeepsRounds k _ = ⊤
