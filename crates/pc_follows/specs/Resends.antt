-- Resends: in its call a request is sent again only once each message of it that went out there was answered there, since a quiet wire
-- loses none; and then only after it met an intent there, whose holder was pushed since, and as the push said. A commit that was refused
-- goes out at the timestamp of its record, which is higher, so it is another request. A message of a conflict's round is sent once for each
-- conflict. Equal requests go to one range, but for the listings of records, which no session asks for. Own profile.
use Rattle.std.specs.Prelude.{◌≡◌, ℕ, ◌+◌, Option, None, Some, List, ◌∷◌, ◌++◌, All, Any, IsTrue}
use Rattle.pc_base.specs.declared.transaction.TxnId.{TxnId}
use Rattle.pc_proto.specs.declared.fate.Fate.{Fate}
use Rattle.pc_proto.specs.declared.fate.Goal.{Goal}
use Rattle.pc_proto.specs.declared.meta.TxnMeta.{TxnMeta}
use Rattle.pc_proto.specs.declared.reply.Reply.{Reply}
use Rattle.pc_proto.specs.declared.reply.Reply.TheVariants as replies
use Rattle.pc_proto.specs.declared.request.Request.{Request}
use Rattle.pc_proto.specs.declared.request.Request.TheVariants as requests
use Rattle.pc_proto.specs.declared.view.View.{View}
use Rattle.pc_proto.specs.Replies.{is_conflict_with}
use Rattle.pc_proto.specs.Requests.{goal_in, is_push_of, round_of}
use Rattle.pc_proto.specs.Views.{fate_after, final_fate}
use Rattle.pc_world.specs.Counting.{AtLeast}
use Rattle.pc_world.specs.Known.{Known}
use Rattle.pc_world.specs.Known.Traffic.{Heard}
use Rattle.pc_world.specs.SameRequest.{IsSameRequest}
use Rattle.pc_world.specs.Send.Settling.{ResolvedTo}
use Rattle.pc_world.specs.Tell.Refusal.{is_heard}

-- Each message of the request that was sent since the last call was asked was answered since.
abbrev pub AreAnsweredNow : Known → Request → Type 0
AreAnsweredNow k request = All (λ m. IsSameRequest request m.request → IsTrue (is_heard k.heard_now m)) k.sent_now

-- The reply is to a recovery of the transaction, and shows this view.
abbrev pub RecoveredTo : TxnId → View → Request → Reply → Type 0
RecoveredTo id view (requests.Recover other epoch ts anchor finding) (replies.Status shown) = (other ≡ id) × (shown ≡ view)
RecoveredTo id view _ _ = ⊥

-- A recovery of the transaction was heard, and where it is final the intent at the key was settled after that, with its fate.
pub record WasRecovered (id : TxnId) (key : List ℕ) (later : List Heard) : Type 0 where
  pub before : List Heard
  pub recovery : Heard
  pub after : List Heard
  pub whole : later ≡ before ++ (recovery ∷ after)
  pub view : View
  pub shown : RecoveredTo id view recovery.request recovery.reply
  pub settled : (fate : Fate) → final_fate view ≡ Some fate → Any (ResolvedTo id key fate) after

-- The intent at the key was settled with the fate that is left to it where a push of this goal showed this view.
pub record WasSettled (id : TxnId) (key : List ℕ) (goal : Goal) (view : View) (later : List Heard) : Type 0 where
  pub fate : Fate
  pub left : fate_after goal view ≡ Some fate
  pub settled : Any (ResolvedTo id key fate) later

-- What the reply to a push of this goal asks for was done: after a status the intent at the key was settled; after an unsure one the
-- transaction was recovered.
abbrev pub WasDone : TxnId → List ℕ → Goal → Reply → List Heard → Type 0
WasDone id key goal (replies.Status view) later = WasSettled id key goal view later
WasDone id key goal (replies.Unsure view) later = WasRecovered id key later
WasDone id key goal _ later = ⊥

-- The holder of the intent at the key was pushed, and what the push's reply asks for was done.
pub record WasFollowed (id : TxnId) (key : List ℕ) (later : List Heard) : Type 0 where
  pub before : List Heard
  pub push : Heard
  pub after : List Heard
  pub whole : later ≡ before ++ (push ∷ after)
  pub pushed : IsTrue (is_push_of id push.request)
  pub goal : Goal
  pub aims : goal_in push.request ≡ Some goal
  pub done : WasDone id key goal push.reply after

-- The request met an intent since the last call was asked, and no reply to it was heard after that; the intent's holder was pushed
-- since, and as the push said.
pub record MetConflictNow (k : Known) (request : Request) : Type 0 where
  pub before : List Heard
  pub conflict : Heard
  pub later : List Heard
  pub whole : k.heard_now ≡ before ++ (conflict ∷ later)
  pub same : IsSameRequest request conflict.request
  pub last : All (λ h. IsSameRequest request h.request → ⊥) later
  pub holder : TxnMeta
  pub ts : ℕ
  pub key : List ℕ
  pub met : conflict.reply ≡ replies.Conflict holder ts key
  pub followed : WasFollowed holder.id key later

-- However often it was heard since the last call was asked, more conflicts with this transaction were.
abbrev pub HasMoreConflicts : Known → Request → TxnId → Type 0
HasMoreConflicts k request id =
    (n : ℕ) → AtLeast (λ h. IsSameRequest request h.request) n k.heard_now
    → AtLeast (λ h. IsTrue (is_conflict_with id h.reply)) (n + 1) k.heard_now

-- There is a reason to send the request once more in its call.
abbrev pub MayGoAgain : Known → Request → Option TxnId → Type 0
MayGoAgain k request None = MetConflictNow k request
MayGoAgain k request (Some id) = HasMoreConflicts k request id

-- Where a message of the same request went out in the call before, all such were answered, and there is a reason to send it again.
abbrev pub GoesAgainAnswered : Known → Request → Type 0
GoesAgainAnswered k request = Any (λ m. IsSameRequest request m.request) k.sent_now → AreAnsweredNow k request × MayGoAgain k request (round_of request)
