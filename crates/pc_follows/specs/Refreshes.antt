-- Refreshes of a commit: those that go out are of the spans which the transaction read in its epoch, in the order of spans and each once,
-- all of them in one wave; and a restart is told for the first of them that did not hold. SIGMOD 2020 paper, section 3.4; the order is this
-- project's own profile.
use Rattle.std.specs.Prelude.{◌≡◌, ℕ, Option, None, Some, List, All, Any, IsTrue, ⊤}
use Rattle.std.specs.Ordering.{is_lt}
use Rattle.pc_base.specs.declared.span.Span.{Span}
use Rattle.pc_base.specs.declared.transaction.TxnId.{TxnId}
use Rattle.pc_base.specs.SpanOrder.{span_cmp}
use Rattle.pc_proto.specs.declared.answer.Answer.TheVariants as answers
use Rattle.pc_proto.specs.declared.event.Event.{Event}
use Rattle.pc_proto.specs.declared.event.Event.TheVariants as events
use Rattle.pc_proto.specs.declared.reply.Reply.{Reply}
use Rattle.pc_proto.specs.declared.reply.Reply.TheVariants as replies
use Rattle.pc_proto.specs.declared.request.Request.{Request}
use Rattle.pc_proto.specs.declared.request.Request.TheVariants as requests
use Rattle.pc_world.specs.Known.{Known, open_txn}
use Rattle.pc_world.specs.Known.Traffic.{Heard}
use Rattle.pc_world.specs.Known.Transactions.{Txn}

-- The open transaction read this span in its epoch.
abbrev pub WasRead : Known → Span → Type 0
WasRead k span = (t : Txn) → open_txn k ≡ Some t → Any (λ r. r.span ≡ span) t.reads

-- If the request is a refresh to this timestamp, its span stands before this one.
abbrev pub IsRefreshBefore : ℕ → Span → Request → Type 0
IsRefreshBefore to span (requests.Refresh id from other earlier) = other ≡ to → IsTrue (is_lt (span_cmp earlier span))
IsRefreshBefore to span _ = ⊤

-- A refresh is of a span that was read, and stands behind all that the call has sent to its timestamp.
abbrev pub IsItsRefresh : Known → Request → Type 0
IsItsRefresh k (requests.Refresh id from to span) =
    WasRead k span × All (λ m. IsRefreshBefore to span m.request) k.sent_now
IsItsRefresh k _ = ⊤

-- The refresh of this span did not hold: it met this write.
pub record MetWrite (span : Span) (key : List ℕ) (ts : ℕ) (h : Heard) : Type 0 where
  pub id : TxnId
  pub from : ℕ
  pub to : ℕ
  pub asked : h.request ≡ requests.Refresh id from to span
  pub told : h.reply ≡ replies.Unrefreshed key ts

-- The refresh of a span that did not hold is of no span before this one.
abbrev pub IsNoneBefore : Span → Request → Reply → Type 0
IsNoneBefore span (requests.Refresh id from to other) (replies.Unrefreshed key ts) = IsTrue (is_lt (span_cmp other span)) → ⊥
IsNoneBefore span _ _ = ⊤

-- The write that the first refresh met, in the order of spans, that did not hold in the call.
pub record IsFirstMet (k : Known) (key : List ℕ) (ts : ℕ) : Type 0 where
  pub span : Span
  pub met : Any (MetWrite span key ts) k.heard_now
  pub first : All (λ h. IsNoneBefore span h.request h.reply) k.heard_now

-- In a commit the refreshes are of what was read, in order, and a restart is told for the first that did not hold.
abbrev pub RefreshesReads : Known → Event → Type 0
RefreshesReads k (events.Send number range request) = IsItsRefresh k request
RefreshesReads k (events.Tell (answers.Restart key ts)) = IsFirstMet k key ts
RefreshesReads k _ = ⊤

-- Each span that was read was asked to be refreshed so.
abbrev pub AreAllAsked : Known → TxnId → ℕ → ℕ → Type 0
AreAllAsked k id from to =
    (t : Txn) → open_txn k ≡ Some t → All (λ r. Any (λ m. m.request ≡ requests.Refresh id from to r.span) k.sent_now) t.reads

abbrev pub IsOfWholeRefresh : Known → Request → Type 0
IsOfWholeRefresh k (requests.Refresh id from to span) = AreAllAsked k id from to
IsOfWholeRefresh k _ = ⊤

-- A reply to a refresh is heard only once all spans that were read were asked to be refreshed: they make one wave.
abbrev pub RefreshesInOneWave : Known → Option Heard → Type 0
RefreshesInOneWave k None = ⊤
RefreshesInOneWave k (Some h) = IsOfWholeRefresh k h.request
