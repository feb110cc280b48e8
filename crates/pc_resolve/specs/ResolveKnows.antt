-- How the finishing of a transaction stands beside what its actor knows: a session whose transaction it is, or anybody who heard a
-- final view of it.
use Rattle.std.specs.Prelude.{◌≡◌, ℕ, Bool, true, false, List, All, take}
use Rattle.pc_base.specs.declared.actor.ActorId.{ActorId}
use Rattle.pc_base.specs.declared.transaction.TxnId.{TxnId}
use Rattle.pc_history.specs.declared.pair.Pair.{Pair}
use Rattle.pc_proto.specs.declared.event.Event.{Event}
use Rattle.pc_proto.specs.declared.event.Event.TheVariants as events
use Rattle.pc_proto.specs.declared.reply.Reply.{Reply}
use Rattle.pc_proto.specs.declared.reply.Reply.TheVariants as replies
use Rattle.pc_proto.specs.declared.request.Request.{Request}
use Rattle.pc_proto.specs.Requests.{is_put_by}
use Rattle.pc_resolve.specs.Resolving.{Resolving, lock_resolve, remove_of}
use Rattle.pc_proto.specs.declared.machine.MachineNext.{MachineNext}
use Rattle.pc_proto.specs.declared.machine.MachineNext.TheVariants as nexts
use Rattle.pc_world.specs.Exchange.{HeardSince, IsAllowed, IsLater, WasAnswered}
use Rattle.pc_world.specs.Known.{Known}
use Rattle.pc_world.specs.Send.Settling.{MayFinish}

-- The event sends a put of this transaction.
abbrev pub sends_put_by : TxnId → Event → Bool
sends_put_by id (events.Send number range request) = is_put_by id request
sends_put_by id _ = false

-- No put of this transaction is sent in these entries.
abbrev pub AreWithoutPuts : TxnId → List (Pair Event) → Type 0
AreWithoutPuts id entries = All (λ p. sends_put_by id p.entry.event ≡ false) entries

-- Since it knew this, the actor has sent and heard, and done nothing else; it sent no put of this transaction.
pub record IsLaterWithoutPuts (id : TxnId) (since now : Known) : Type 0 where
  pub later : IsLater since now
  pub unwritten : AreWithoutPuts id later.entries

-- The locks that were settled: to each of their requests Resolved was heard.
abbrev pub AreSettled : Known → Known → Resolving → List (List ℕ) → Type 0
AreSettled start k m locks = All (λ key. HeardSince start k (lock_resolve m key) replies.Resolved) locks

-- Every lock was settled, and a reply to the removal was heard.
pub record IsRemoved (start k : Known) (m : Resolving) : Type 0 where
  pub settled : AreSettled start k m m.locks
  pub reply : Reply
  pub heard : HeardSince start k (remove_of m) reply

-- The machine stands by what its actor knew when it was made, and by what it knows now.
pub record ResolveKnows (start k : Known) (m : Resolving) : Type 0 where
  pub may : MayFinish start m.id m.anchor m.fate m.locks
  pub since : IsLaterWithoutPuts m.id start k
  pub settled : AreSettled start k m (take m.settled m.locks)
  pub removed : m.removed ≡ true → IsRemoved start k m

-- What comes next is allowed: a request may be sent, and the end comes only after a reply to the removal.
abbrev pub FinishingMayCome : List (List ℕ) → ActorId → Known → Known → Resolving → MachineNext → Type 0
FinishingMayCome splits actor start k m (nexts.Send request) = IsAllowed splits actor k request
FinishingMayCome splits actor start k m nexts.Finished = IsRemoved start k m
FinishingMayCome splits actor start k m (nexts.Settled view) = ⊥
FinishingMayCome splits actor start k m (nexts.Changed view) = ⊥
FinishingMayCome splits actor start k m (nexts.Refused id) = ⊥

-- The actor sent this request, and has just heard this reply to it; meanwhile it sent no put of the transaction.
pub record WasAnsweredToIt (k later : Known) (request : Request) (reply : Reply) (m : Resolving) : Type 0 where
  pub answered : WasAnswered k later request reply
  pub unwritten : AreWithoutPuts m.id answered.later.entries
