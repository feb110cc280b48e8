-- What an actor may send, by what it knows. CockroachDB SIGMOD 2020 and RFC 20180324; each request's own file under Send says which part.
use Rattle.std.specs.Prelude.{◌≡◌, ℕ, ◌+◌, ◌≤◌, Some, List, All}
use Rattle.pc_base.specs.declared.actor.ActorId.{ActorId}
use Rattle.pc_base.specs.declared.actor.ActorId.TheVariants as actors
use Rattle.pc_proto.specs.declared.call.Call.TheVariants as calls
use Rattle.pc_proto.specs.declared.request.Request.{Request}
use Rattle.pc_proto.specs.declared.request.Request.TheVariants as requests
use Rattle.pc_proto.specs.Stamps.{request_stamps}
use Rattle.pc_world.specs.Known.{Known, call_of, next_number}
use Rattle.pc_world.specs.RangeOf.{GoesTo}
use Rattle.pc_world.specs.Send.Abort.{MaySendAbort}
use Rattle.pc_world.specs.Send.Beat.{MaySendBeat}
use Rattle.pc_world.specs.Send.Commit.{MaySendCommit}
use Rattle.pc_world.specs.Send.Push.{MaySendPush}
use Rattle.pc_world.specs.Send.Put.{MaySendPut}
use Rattle.pc_world.specs.Send.Reading.{MaySendGet, MaySendScan}
use Rattle.pc_world.specs.Send.Recovery.{MaySendQuery, MaySendRecover}
use Rattle.pc_world.specs.Send.Refresh.{MaySendRefresh}
use Rattle.pc_world.specs.Send.Settling.{MaySendRemove, MaySendResolve}
use Rattle.pc_world.specs.Send.Stage.{MaySendStage}

-- Records may be sent by a recoverer in a round.
abbrev pub MaySendRecords : ActorId → Known → Type 0
MaySendRecords (actors.Recoverer number) k = call_of k ≡ Some calls.Round
MaySendRecords (actors.Session number) k = ⊥
MaySendRecords (actors.Range number) k = ⊥

-- The row of the request.
abbrev pub MaySendRow : List (List ℕ) → ActorId → Known → Request → Type 0
MaySendRow splits actor k (requests.Get id epoch seq ts key) = MaySendGet k id epoch seq ts key
MaySendRow splits actor k (requests.Scan id epoch seq ts span) = MaySendScan splits k id epoch seq ts span
MaySendRow splits actor k (requests.Put meta seq ts key value) = MaySendPut k meta seq ts key value
MaySendRow splits actor k (requests.Refresh id from to span) = MaySendRefresh k id from to span
MaySendRow splits actor k (requests.Beat meta ts now) = MaySendBeat k meta ts now
MaySendRow splits actor k (requests.Stage meta ts now writes locks) =
    MaySendStage k (record { meta = meta; ts = ts; now = now; writes = writes; locks = locks })
MaySendRow splits actor k (requests.Commit meta ts locks) =
    MaySendCommit k (record { meta = meta; ts = ts; locks = locks })
MaySendRow splits actor k (requests.Abort meta why locks) = MaySendAbort k meta why locks
MaySendRow splits actor k (requests.Push holder by level now goal) = MaySendPush actor k holder by level now goal
MaySendRow splits actor k (requests.Query id epoch seq ts key by) = MaySendQuery actor k id epoch seq ts key by
MaySendRow splits actor k (requests.Recover id epoch ts anchor finding) = MaySendRecover actor k id epoch ts anchor finding
MaySendRow splits actor k (requests.Resolve id key fate) = MaySendResolve k id fate
MaySendRow splits actor k (requests.Remove id anchor) = MaySendRemove k id anchor
MaySendRow splits actor k requests.Records = MaySendRecords actor k

-- The message has the next number, goes to its range, names no timestamp past the one after the greatest that the actor knows, and
-- its row allows it.
pub record MaySend (splits : List (List ℕ)) (actor : ActorId) (k : Known) (number range : ℕ) (request : Request) : Type 0 where
  pub next : number ≡ next_number k
  pub there : GoesTo splits request range
  pub stamps : All (λ ts. ts ≤ k.top + 1) (request_stamps request)
  pub row : MaySendRow splits actor k request
