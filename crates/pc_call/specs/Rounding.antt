-- The round of a conflict that an open call met was made.
use Rattle.std.specs.Prelude.{◌≡◌, ◌+◌, ◌≤◌, false, if◌then◌else◌, Option, None, Some, List, All, Any, IsTrue, count_by, drop, length, ⊤}
use Rattle.pc_base.specs.declared.transaction.TxnId.{TxnId}
use Rattle.pc_base.specs.Transaction.{same_txn}
use Rattle.pc_call.specs.Paced.{KeepsBehindPushes, was_met, was_pushed}
use Rattle.pc_follows.specs.RoundsMade.{rounds_made}
use Rattle.pc_proto.specs.declared.reply.Reply.{Reply}
use Rattle.pc_proto.specs.declared.reply.Reply.TheVariants as replies
use Rattle.pc_proto.specs.Replies.{holder_in, is_conflict, is_refused}
use Rattle.pc_proto.specs.Requests.{is_about}
use Rattle.pc_reads.specs.Replies.{unrefreshed_by}
use Rattle.pc_txn.specs.Standing.{is_query_of}
use Rattle.pc_wave.specs.Due.{FollowsConflict}
use Rattle.pc_wave.specs.Standing.{HasMore, goes_beside}
use Rattle.pc_world.specs.Known.{Known, open_txn}
use Rattle.pc_world.specs.Known.Traffic.{Heard, Sent}
use Rattle.pc_world.specs.Send.Recovery.{was_refused}

-- The transaction was pushed once more, no other was, no fewer conflicts were heard, and no request of a round more often than its pushes.
pub record IsPushedOnce (id : TxnId) (before now : List Heard) : Type 0 where
  pub pushes : (other : TxnId) → count_by (was_pushed other) now ≡ count_by (was_pushed other) before + (if same_txn id other then 1 else 0)
  pub met : (other : TxnId) → count_by (was_met other) before ≤ count_by (was_met other) now
  pub behind : (other : TxnId) → KeepsBehindPushes other now

abbrev pub KeepsPace : Option TxnId → List Heard → List Heard → Type 0
KeepsPace None before now = ⊤
KeepsPace (Some id) before now = IsPushedOnce id before now

-- Since then the session has made the round of this conflict, the next one, and nothing that it sent or heard besides is of its call, speaks of the record
-- or asks for a write of its open transaction, of this name, or met an intent or a write.
pub record MakesRound (start k : Known) (own : TxnId) (conflict : Reply) : Type 0 where
  pub sent_more : List Sent
  pub heard_more : List Heard
  pub more : HasMore start k sent_more heard_more
  pub sent_beside : All (λ m. IsTrue (goes_beside m.request)) sent_more
  pub heard_beside : All (λ h. IsTrue (goes_beside h.request)) heard_more
  pub other : All (λ h. is_about own h.request ≡ false) heard_more
  pub unqueried : All (λ h. is_query_of own h.request ≡ false) heard_more
  pub unmet : All (λ h. is_conflict h.reply ≡ false) heard_more
  pub unrefreshed : All (λ h. unrefreshed_by h.reply ≡ None) heard_more
  pub numbered : All (λ m. length start.sent + 1 ≤ m.number) sent_more
  pub followed : FollowsConflict conflict heard_more
  pub over : (rounds_made k).waiting ≡ drop 1 (rounds_made start).waiting
  pub unpushed : (rounds_made k).push ≡ None
  pub pace : KeepsPace (holder_in conflict) start.heard_now k.heard_now
  pub statement : k.statement ≡ start.statement
  pub is_open : k.is_open ≡ start.is_open
  pub first : open_txn k ≡ open_txn start
  pub begun : start.begun ≤ k.begun
  pub high : start.high ≤ k.high

-- Since then the session sent and heard only what is of no call, and neither speaks of the record of its open transaction, of this name, nor
-- asks for a write of it.
pub record GoesOnBeside (start k : Known) (own : TxnId) : Type 0 where
  pub sent_more : List Sent
  pub heard_more : List Heard
  pub more : HasMore start k sent_more heard_more
  pub sent_beside : All (λ m. IsTrue (goes_beside m.request)) sent_more
  pub heard_beside : All (λ h. IsTrue (goes_beside h.request)) heard_more
  pub other : All (λ h. is_about own h.request ≡ false) heard_more
  pub unqueried : All (λ h. is_query_of own h.request ≡ false) heard_more
  pub statement : k.statement ≡ start.statement
  pub is_open : k.is_open ≡ start.is_open
  pub first : open_txn k ≡ open_txn start
  pub begun : start.begun ≤ k.begun
  pub high : start.high ≤ k.high

-- A push of the holder of this conflict was refused.
abbrev pub RefusesPush : Reply → List Heard → Type 0
RefusesPush (replies.Conflict holder ts key) heard = Any (λ h. IsTrue (was_refused holder.id h)) heard
RefusesPush _ heard = ⊥

-- Since then the round of this conflict, the next one, was begun, and its push was refused; nothing that was sent or heard besides is of its call, or met an
-- intent or a write.
pub record RefusesRound (start k : Known) (own : TxnId) (conflict : Reply) : Type 0 where
  pub beside : GoesOnBeside start k own
  pub refused : RefusesPush conflict beside.heard_more
  pub unmet : All (λ h. is_conflict h.reply ≡ false) beside.heard_more
  pub unrefreshed : All (λ h. unrefreshed_by h.reply ≡ None) beside.heard_more
  pub numbered : All (λ m. length start.sent + 1 ≤ m.number) beside.sent_more
  pub pace : KeepsPace (holder_in conflict) start.heard_now k.heard_now
  pub waiting : (rounds_made k).waiting ≡ (rounds_made start).waiting
  pub push : Heard
  pub pushed : (rounds_made k).push ≡ Some push
  pub push_refused : IsTrue (is_refused push.reply)
