-- After the eighth: a request that met eight intents in its call goes out no more, the eighth of them has no round, and a call other than a
-- commit is told that it is blocked; a commit that was moved eight times sends no further refresh, stage or commit, and is told so. Own profile.
use Rattle.std.specs.Prelude.{◌≡◌, ◌≢◌, ℕ, ◌+◌, Bool, true, false, ◌⊎◌, Some, slice_get, take, ⊤}
use Rattle.pc_base.specs.declared.limits.TheConstants.{MOST_CONFLICTS, MOST_REFUSALS}
use Rattle.pc_base.specs.declared.transaction.TxnId.{TxnId}
use Rattle.pc_proto.specs.declared.answer.Answer.{Answer}
use Rattle.pc_proto.specs.declared.answer.Answer.TheVariants as answers
use Rattle.pc_proto.specs.declared.call.Call.TheVariants as calls
use Rattle.pc_proto.specs.declared.event.Event.{Event}
use Rattle.pc_proto.specs.declared.event.Event.TheVariants as events
use Rattle.pc_proto.specs.declared.request.Request.{Request}
use Rattle.pc_proto.specs.declared.request.Request.TheVariants as requests
use Rattle.pc_world.specs.Counting.{AtLeast}
use Rattle.pc_follows.specs.FirstBlock.{TellsFirstBlock}
use Rattle.pc_follows.specs.Rounds.{conflicts_now, rounds_begun}
use Rattle.pc_world.specs.Known.{Known}
use Rattle.pc_world.specs.Known.Statements.{Statement}
use Rattle.pc_world.specs.Known.Traffic.{Heard}
use Rattle.pc_world.specs.Tell.Refusal.{IsConflictOf, WasMoved}

-- The request met eight intents since the last call was asked.
abbrev pub MetEighth : Known → Request → Type 0
MetEighth k request = AtLeast (IsConflictOf request) MOST_CONFLICTS k.heard_now

-- Stages and commits of the open call were moved eight times.
abbrev pub WasMovedEighth : Known → Type 0
WasMovedEighth k = AtLeast (WasMoved k) MOST_REFUSALS k.heard_now

-- The conflict of which the next round would be is not the eighth of its request.
abbrev pub IsBelowEighth : Known → Type 0
IsBelowEighth k =
    (conflict : Heard) → slice_get (conflicts_now k) (rounds_begun k) ≡ Some conflict
    → AtLeast (IsConflictOf conflict.request) MOST_CONFLICTS (take (rounds_begun k + 1) (conflicts_now k)) → ⊥

-- What a push asks for: it begins no round of an eighth conflict; with pipelining its rule of rounds says so.
abbrev pub IsPushBelow : Bool → Known → Type 0
IsPushBelow false k = IsBelowEighth k
IsPushBelow true k = ⊤

-- What the request itself asks for: a push begins no round of an eighth conflict, and a refresh, stage or commit follows no eighth move, and no put either.
abbrev pub IsBeforeEighth : Bool → Known → Request → Type 0
IsBeforeEighth pipelining k (requests.Push holder by level now goal) = IsPushBelow pipelining k
IsBeforeEighth pipelining k (requests.Refresh id from to span) = WasMovedEighth k → ⊥
IsBeforeEighth pipelining k (requests.Stage meta ts now writes locks) = WasMovedEighth k → ⊥
IsBeforeEighth pipelining k (requests.Commit meta ts locks) = WasMovedEighth k → ⊥
IsBeforeEighth pipelining k (requests.Put meta seq ts key value) = WasMovedEighth k → ⊥
IsBeforeEighth pipelining k _ = ⊤

-- The answer says that the call is blocked.
abbrev pub IsBlockedAnswer : Answer → Type 0
IsBlockedAnswer answer = (holder : TxnId) × (answer ≡ answers.Blocked holder)

-- The answer says that the transaction was moved.
abbrev pub IsMovedAnswer : Answer → Type 0
IsMovedAnswer answer = (ts : ℕ) × (answer ≡ answers.Moved ts)

-- The answer says how the transaction ended, as its last heartbeat may have found it.
abbrev pub IsEndAnswer : Answer → Type 0
IsEndAnswer (answers.Committed id ts) = ⊤
IsEndAnswer (answers.Aborted why) = ⊤
IsEndAnswer _ = ⊥

-- What is told after an eighth: of a call other than a commit that it is blocked, of a commit that it was moved.
pub record TellsTheEighth (k : Known) (s : Statement) (answer : Answer) : Type 0 where
  pub blocked : s.call ≢ calls.Commit → (request : Request) → MetEighth k request → IsBlockedAnswer answer
  pub moved : s.call ≡ calls.Commit → WasMovedEighth k → IsMovedAnswer answer ⊎ IsEndAnswer answer

-- In an open call nothing goes on past the eighth, and a call is told blocked in the order of its conflicts.
abbrev pub StopsAtEighth : Bool → Known → Event → Type 0
StopsAtEighth pipelining k (events.Send number range request) =
    (s : Statement) → k.statement ≡ Some s → (MetEighth k request → ⊥) × IsBeforeEighth pipelining k request
StopsAtEighth pipelining k (events.Tell answer) =
    (s : Statement) → k.statement ≡ Some s → TellsTheEighth k s answer × TellsFirstBlock pipelining k answer
StopsAtEighth pipelining k _ = ⊤
