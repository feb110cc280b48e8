-- How far a read is good, step by step through the replies that were heard.
use Rattle.std.specs.Prelude.{ℕ, ◌≤◌, max, nat_le, ◌&&◌, if◌then◌else◌, List, Option, None, Some, fold}
use Rattle.pc_base.specs.declared.span.Span.{Span}
use Rattle.pc_base.specs.declared.transaction.TxnId.{TxnId}
use Rattle.pc_base.specs.Transaction.{same_txn}
use Rattle.pc_proto.specs.declared.reply.Reply.{Reply}
use Rattle.pc_proto.specs.declared.reply.Reply.TheVariants as replies
use Rattle.pc_proto.specs.declared.request.Request.{Request}
use Rattle.pc_proto.specs.declared.request.Request.TheVariants as requests
use Rattle.pc_world.specs.Known.Reads.{IsGoodTo, holds_span}
use Rattle.pc_world.specs.Known.Traffic.{Heard}

-- From where to where the reply takes a read of this span, if it is that of a refresh of a span that holds it.
abbrev pub taken_further : TxnId → Span → Request → Reply → Option (ℕ × ℕ)
taken_further id span (requests.Refresh other from to wider) replies.Refreshed =
    if same_txn other id && holds_span wider span then Some (from, to) else None
taken_further id span _ _ = None

-- How far a read is good that was good so far, and is taken further from where it is good already.
abbrev pub good_from : Option (ℕ × ℕ) → ℕ → ℕ
good_from None good = good
good_from (Some way) good = if nat_le way.0 good then max good way.1 else good

-- How far the read is good after all replies in turn.
abbrev pub good_after_all : TxnId → Span → List Heard → ℕ → ℕ
good_after_all id span heard good = fold (λ g h. good_from (taken_further id span h.request h.reply) g) good heard

-- The read made at this timestamp is good up to `good`, and no further.
pub record IsGoodJustTo (id : TxnId) (heard : List Heard) (span : Span) (ts good : ℕ) : Type 0 where
  pub good_to : IsGoodTo id heard span ts good
  pub greatest : (other : ℕ) → IsGoodTo id heard span ts other → other ≤ good
