-- Again in one wave: what met intents in a call goes out again together. When the first reply of a wave is heard, each request of the call
-- was sent in it once more than it met intents, so none of them is left to be sent by itself. Own profile.
use Rattle.std.specs.Prelude.{◌≡◌, ℕ, ◌+◌, Bool, false, not, ◌||◌, ◌⊎◌, Option, None, Some, List, [], ◌∷◌, ◌++◌, filter, All, ⊤}
use Rattle.pc_follows.specs.CallMessages.{IsForCall}
use Rattle.pc_follows.specs.Heartbeats.{is_heartbeat}
use Rattle.pc_follows.specs.PipelinedPuts.{heard_before}
use Rattle.pc_follows.specs.WaveEvaluation.{IsSending}
use Rattle.pc_history.specs.declared.pair.Pair.{Pair}
use Rattle.pc_proto.specs.declared.event.Event.{Event}
use Rattle.pc_proto.specs.declared.request.Request.{Request}
use Rattle.pc_proto.specs.Requests.{is_put, is_refresh, round_of}
use Rattle.pc_world.specs.Counting.{AtLeast}
use Rattle.pc_world.specs.Known.{Known, known_of}
use Rattle.pc_world.specs.Known.Statements.{Statement}
use Rattle.pc_world.specs.Known.Traffic.{Heard, Sent}
use Rattle.pc_world.specs.SameRequest.{IsSameRequest}
use Rattle.pc_world.specs.Tell.Refusal.{IsConflictOf, IsUnprovedPut, is_heard}

-- The messages that may be heard in the open call: those that were sent in it, and the puts that were in flight when it was asked.
abbrev pub sent_for_call : Known → List Sent
sent_for_call k = filter (λ m. not (is_heard (heard_before k) m)) k.sent

-- The request was sent for the call at least once more than it met intents there.
abbrev pub WasSentPastConflicts : Known → Request → Type 0
WasSentPastConflicts k request =
    (n : ℕ) → AtLeast (IsConflictOf request) n k.heard_now → AtLeast (λ m. IsSameRequest request m.request) (n + 1) (sent_for_call k)

-- The message is no put of a write that is proved.
abbrev pub IsLeft : Known → Sent → Type 0
IsLeft k m = (is_put m.request ≡ false) ⊎ IsUnprovedPut k.txns m

-- So was each request that was sent for the open call, the messages of its conflicts' rounds aside, and those of writes that are proved.
abbrev pub AreAllSentPast : Bool → Known → Type 0
AreAllSentPast pipelining k =
    All (λ m. IsForCall pipelining k m.request → IsLeft k m → WasSentPastConflicts k m.request) k.sent_now

-- The list ends with a sending: a wave is on its way, and none of its replies was heard.
pub record EndsWithSending (own : List (Pair Event)) : Type 0 where
  pub front : List (Pair Event)
  pub last : Pair Event
  pub whole : own ≡ front ++ last ∷ []
  pub sends : IsSending last.entry.event

-- The request is a refresh or a heartbeat: those go out while writes that met intents are still to be put again, or no more.
abbrev pub goes_alone : Request → Bool
goes_alone request = is_refresh request || is_heartbeat request

-- In an open call the first reply of a wave, to no message of a conflict's round, is heard only once all that met intents was sent again.
abbrev pub HearsAllAgain : Bool → List (Pair Event) → Option Heard → Type 0
HearsAllAgain pipelining own None = ⊤
HearsAllAgain pipelining own (Some h) =
    (s : Statement) → (known_of own).statement ≡ Some s → round_of h.request ≡ None → goes_alone h.request ≡ false → EndsWithSending own
    → AreAllSentPast pipelining (known_of own)
