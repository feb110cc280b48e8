-- Where writes are pipelined, messages of a round go out in a call only for a conflict that this very call met, those of writes by sequence, and none
-- once all are over. Own profile.
use Rattle.std.specs.Prelude.{◌≡◌, ℕ, true, false, None, Some, List, [], ◌∷◌, ◌++◌, All, AllPairs, Contains}
use Rattle.pc_base.specs.declared.transaction.Priority.{Priority}
use Rattle.pc_base.specs.declared.transaction.TxnId.{TxnId}
use Rattle.pc_base.specs.declared.transaction.Who.{Who}
use Rattle.pc_follows.specs.Heartbeats.{is_heartbeat}
use Rattle.pc_follows.specs.NextBlock.{IsNextConflict, IsPassedBlock}
use Rattle.pc_follows.specs.PipelinedRounds.{AreAllOver, MakesRounds}
use Rattle.pc_follows.specs.RoundOrder.{is_lower_put}
use Rattle.pc_follows.specs.Rounds.{conflicts_now}
use Rattle.pc_follows.specs.RoundsMade.{rounds_made}
use Rattle.pc_follows_laws.specs.CallRounds.{MetConflictWith}
use Rattle.pc_proto.specs.declared.event.Event.TheVariants as events
use Rattle.pc_proto.specs.declared.fate.Fate.{Fate}
use Rattle.pc_proto.specs.declared.fate.Goal.{Goal}
use Rattle.pc_proto.specs.declared.meta.TxnMeta.{TxnMeta}
use Rattle.pc_proto.specs.declared.request.Request.{Request}
use Rattle.pc_proto.specs.declared.request.Request.TheVariants as requests
use Rattle.pc_proto.specs.Replies.{is_conflict}
use Rattle.pc_proto.specs.Requests.{round_of}
use Rattle.pc_world.specs.Known.{Known}
use Rattle.pc_world.specs.Known.Statements.{Statement}
use Rattle.pc_world.specs.Known.Traffic.{Heard}

-- In an open call a push is of the holder of the first conflict that is not over.
abbrev pub PushesMeetTheNext : Type 0
PushesMeetTheNext =
    (k : Known) (s : Statement) (number range : ℕ) (holder : TxnMeta) (by : Who) (level : Priority) (now : ℕ) (goal : Goal)
    → k.statement ≡ Some s → MakesRounds true k (events.Send number range (requests.Push holder by level now goal))
    → (key : List ℕ) × IsNextConflict k holder key

-- In an open call a resolve is of the key at which this call met a conflict, and of its holder.
abbrev pub ResolvesMeetTheNext : Type 0
ResolvesMeetTheNext =
    (k : Known) (s : Statement) (number range : ℕ) (id : TxnId) (key : List ℕ) (fate : Fate)
    → k.statement ≡ Some s → MakesRounds true k (events.Send number range (requests.Resolve id key fate)) → MetConflictWith k id key

-- An open call that met no conflict sends no message of a round, not even a query of its own write.
abbrev pub NoRoundUnmet : Type 0
NoRoundUnmet =
    (k : Known) (s : Statement) (number range : ℕ) (request : Request) (id : TxnId)
    → k.statement ≡ Some s → conflicts_now k ≡ [] → round_of request ≡ Some id → MakesRounds true k (events.Send number range request) → ⊥

-- A conflict that is heard waits for its round.
abbrev pub ConflictsWait : Type 0
ConflictsWait =
    (k : Known) (before : List Heard) (h : Heard) → k.heard_now ≡ before ++ h ∷ [] → is_conflict h.reply ≡ true → Contains (rounds_made k).waiting h

-- Each conflict that waits is one that this call met.
abbrev pub WaitingWereMet : Type 0
WaitingWereMet = (k : Known) → All (Contains (conflicts_now k)) (rounds_made k).waiting

-- The conflicts of writes have their rounds by sequence: none that waits is of an earlier write than one that has its round before it.
abbrev pub WritesWaitBySequence : Type 0
WritesWaitBySequence = (k : Known) → AllPairs (λ one later. is_lower_put later.request one.request ≡ false) (rounds_made k).waiting

-- An open call whose conflicts are all over sends no message of a round.
abbrev pub NoRoundOnceOver : Type 0
NoRoundOnceOver =
    (k : Known) (s : Statement) (number range : ℕ) (request : Request) (id : TxnId)
    → k.statement ≡ Some s → AreAllOver k → round_of request ≡ Some id → MakesRounds true k (events.Send number range request) → ⊥

-- Where a refused stage passed over the eighth conflict of a write, nothing is sent but a heartbeat and what a round asks for.
abbrev pub NothingBehindTheEighth : Type 0
NothingBehindTheEighth =
    (k : Known) (s : Statement) (number range : ℕ) (request : Request) (holder : TxnId)
    → k.statement ≡ Some s → IsPassedBlock k holder → round_of request ≡ None → is_heartbeat request ≡ false
    → MakesRounds true k (events.Send number range request) → ⊥
