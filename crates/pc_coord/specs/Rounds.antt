-- The rounds of the conflicts of an open call: how each ends.
use Rattle.std.specs.Prelude.{◌≡◌, ℕ, Bool, true, false, None, Some, List, [], ◌∷◌, ◌++◌, All, IsTrue, ⊤}
use Rattle.pc_base.specs.declared.transaction.TxnId.{TxnId}
use Rattle.pc_call.specs.Paced.{IsBehindPushOf}
use Rattle.pc_coord.specs.declared.round.Round.{Round}
use Rattle.pc_coord.specs.declared.round.Round.TheVariants as rounds
use Rattle.pc_proto.specs.declared.fate.Goal.{Goal}
use Rattle.pc_proto.specs.declared.reply.Reply.{Reply}
use Rattle.pc_proto.specs.declared.reply.Reply.TheVariants as replies
use Rattle.pc_proto.specs.Replies.{is_conflict}
use Rattle.pc_proto.specs.declared.request.Request.{Request}
use Rattle.pc_proto.specs.declared.request.Request.TheVariants as requests
use Rattle.pc_proto.specs.Requests.{goal_in, is_push_of}
use Rattle.pc_proto.specs.Views.{is_final_view}
use Rattle.pc_reads.specs.Replies.{unrefreshed_by}
use Rattle.pc_follows.specs.Resends.{WasDone}
use Rattle.pc_world.specs.Counting.{AtLeast}
use Rattle.pc_world.specs.Known.{Known}
use Rattle.pc_world.specs.Known.Traffic.{Heard}
use Rattle.pc_world.specs.SameRequest.{IsSameRequest}
use Rattle.pc_world.specs.Send.Recovery.{was_refused}
use Rattle.pc_world.specs.Tell.Refusal.{WasLost}

-- What is heard in a round behind its push: replies to queries, a recovery and a resolve of this transaction, none of which met an intent or a write.
pub record IsBehindPush (id : TxnId) (h : Heard) : Type 0 where
  pub behind : IsBehindPushOf id h.request
  pub unmet : is_conflict h.reply ≡ false
  pub held : unrefreshed_by h.reply ≡ None

-- The reply leaves its round going on: it is to a query, or shows a recovery that is final.
abbrev pub LeavesRoundOn : Request → Reply → Type 0
LeavesRoundOn (requests.Query id epoch seq ts key by) reply = ⊤
LeavesRoundOn (requests.Recover id epoch ts anchor finding) (replies.Status view) = is_final_view view ≡ true
LeavesRoundOn _ _ = ⊥

-- With the reply its round is over: an intent was settled, or a recovery is not final.
abbrev pub EndsWithReply : Request → Reply → Type 0
EndsWithReply (requests.Resolve id key fate) replies.Resolved = ⊤
EndsWithReply (requests.Recover id epoch ts anchor finding) (replies.Status view) = is_final_view view ≡ false
EndsWithReply _ _ = ⊥

-- The round is over with the last of these replies, and not before.
pub record EndsAtLast (later : List Heard) : Type 0 where
  pub before : List Heard
  pub last : Heard
  pub whole : later ≡ before ++ last ∷ []
  pub on : All (λ h. LeavesRoundOn h.request h.reply) before
  pub over : EndsWithReply last.request last.reply

-- No request was heard twice.
abbrev pub AreAskedOnce : List Heard → Type 0
AreAskedOnce heard = (request : Request) → AtLeast (λ h. IsSameRequest request h.request) 2 heard → ⊥

-- The round of a conflict with this holder at this key: it was pushed once, and what the push's reply asks for was done: its intent was settled
-- with the fate that the push left to it, or, where the push was unsure, it was recovered, and settled where the recovery's view is final. Nothing
-- was asked for twice behind the push, and the last reply ends it.
pub record IsSettledRound (id : TxnId) (key : List ℕ) (start k : Known) : Type 0 where
  pub push : Heard
  pub later : List Heard
  pub goal : Goal
  pub more : k.heard_now ≡ start.heard_now ++ push ∷ later
  pub pushed : IsTrue (is_push_of id push.request)
  pub aims : goal_in push.request ≡ Some goal
  pub done : WasDone id key goal push.reply later
  pub behind : All (IsBehindPush id) later
  pub once : AreAskedOnce later
  pub ends : EndsAtLast later

-- The round of a conflict with this holder: its push was refused.
pub record IsRefusedRound (id : TxnId) (start k : Known) : Type 0 where
  pub push : Heard
  pub more : k.heard_now ≡ start.heard_now ++ push ∷ []
  pub refused : IsTrue (was_refused id push)

-- Since then the round of this conflict was made, and ended so: that a message of it was lost so often only where messages may be lost.
abbrev pub EndsRound : Bool → Reply → Round → Known → Known → Type 0
EndsRound loses (replies.Conflict holder ts key) rounds.Again start k = IsSettledRound holder.id key start k
EndsRound loses (replies.Conflict holder ts key) rounds.Refused start k = IsRefusedRound holder.id start k
EndsRound loses (replies.Conflict holder ts key) (rounds.Lost faults) start k = (loses ≡ true) × WasLost k faults
EndsRound loses _ round start k = ⊥
