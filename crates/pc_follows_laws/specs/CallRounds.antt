-- Messages of a round go out in a call only for a conflict that this very call met, and none once the rounds are over. Own profile.
use Rattle.std.specs.Prelude.{◌≡◌, ℕ, Some, List, []}
use Rattle.pc_base.specs.declared.transaction.TxnId.{TxnId}
use Rattle.pc_base.specs.declared.transaction.Who.{Who}
use Rattle.pc_base.specs.declared.transaction.Priority.{Priority}
use Rattle.pc_follows.specs.Rounds.{AreRoundsOver, IsConflictAt, IsItself, KeepsRounds, conflicts_now, rounds_begun}
use Rattle.pc_proto.specs.declared.event.Event.TheVariants as events
use Rattle.pc_proto.specs.declared.fate.Fate.{Fate}
use Rattle.pc_proto.specs.declared.fate.Goal.{Goal}
use Rattle.pc_proto.specs.declared.meta.TxnMeta.{TxnMeta}
use Rattle.pc_proto.specs.declared.request.Request.{Request}
use Rattle.pc_proto.specs.declared.request.Request.TheVariants as requests
use Rattle.pc_proto.specs.Requests.{round_of}
use Rattle.pc_world.specs.Known.{Known}
use Rattle.pc_world.specs.Known.Statements.{Statement}

-- The call met a conflict with this transaction, at this key.
pub record MetConflictWith (k : Known) (id : TxnId) (key : List ℕ) : Type 0 where
  pub place : ℕ
  pub holder : TxnMeta
  pub met : IsConflictAt k place holder key
  pub whose : holder.id ≡ id

-- In an open call a push is of the holder of a conflict that this call met, the first that had no round.
abbrev pub PushesMeetConflicts : Type 0
PushesMeetConflicts =
    (k : Known) (s : Statement) (number range : ℕ) (holder : TxnMeta) (by : Who) (level : Priority) (now : ℕ) (goal : Goal)
    → k.statement ≡ Some s → KeepsRounds k (events.Send number range (requests.Push holder by level now goal))
    → (key : List ℕ) × IsConflictAt k (rounds_begun k) holder key

-- In an open call a resolve is of the key at which this call met a conflict, and of its holder.
abbrev pub ResolvesMeetConflicts : Type 0
ResolvesMeetConflicts =
    (k : Known) (s : Statement) (number range : ℕ) (id : TxnId) (key : List ℕ) (fate : Fate)
    → k.statement ≡ Some s → KeepsRounds k (events.Send number range (requests.Resolve id key fate)) → MetConflictWith k id key

-- An open call that met no conflict sends no message of a round, a query of the open transaction's own write aside.
abbrev pub RoundsMeetConflicts : Type 0
RoundsMeetConflicts =
    (k : Known) (s : Statement) (number range : ℕ) (request : Request) (id : TxnId)
    → k.statement ≡ Some s → conflicts_now k ≡ [] → round_of request ≡ Some id → (IsItself k id → ⊥)
    → KeepsRounds k (events.Send number range request) → ⊥

-- An open call whose rounds are all over sends no resolve.
abbrev pub RoundsEnd : Type 0
RoundsEnd =
    (k : Known) (s : Statement) (number range : ℕ) (id : TxnId) (key : List ℕ) (fate : Fate)
    → k.statement ≡ Some s → AreRoundsOver k → KeepsRounds k (events.Send number range (requests.Resolve id key fate)) → ⊥
