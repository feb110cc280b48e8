-- How far refreshes of one span lead. SIGMOD 2020 paper, section 3.4; what of it is kept, own profile.
use Rattle.std.specs.Prelude.{◌≡◌, ℕ, max, nat_le, Bool, false, ◌&&◌, cond, if◌then◌else◌, Option, None, Some, List, fold}
use Rattle.std.specs.BTreeMap.{get}
use Rattle.std.specs.declared.cmp.Ordering.{Ordering}
use Rattle.std.specs.Ordering.{is_eq, ordering_then}
use Rattle.pc_base.specs.declared.span.Span.{Span}
use Rattle.pc_base.specs.declared.transaction.TxnId.{TxnId}
use Rattle.pc_base.specs.SpanOrder.{span_cmp}
use Rattle.pc_base.specs.Transaction.{txn_cmp}
use Rattle.pc_files.specs.declared.refreshed.RefreshedSpans.{RefreshedSpans}
use Rattle.pc_proto.specs.declared.reply.Reply.{Reply}
use Rattle.pc_proto.specs.declared.reply.Reply.TheVariants as replies
use Rattle.pc_proto.specs.declared.request.Request.{Request}
use Rattle.pc_proto.specs.declared.request.Request.TheVariants as requests
use Rattle.pc_world.specs.Known.Traffic.{Heard}

-- By transaction, then by span.
abbrev pub txn_span_cmp : TxnId × Span → TxnId × Span → Ordering
txn_span_cmp one other = ordering_then (txn_cmp one.0 other.0) (span_cmp one.1 other.1)

-- From where to where the refreshes of this span of the transaction lead, if it was refreshed.
abbrev pub way_of : TxnId → Span → RefreshedSpans → Option (ℕ × ℕ)
way_of id span x = get txn_span_cmp x.ways (id, span)

-- A way after one more refresh of its span: that goes on from where the way has come, or else begins anew.
abbrev pub way_further : Option (ℕ × ℕ) → ℕ → ℕ → ℕ × ℕ
way_further None from to = (from, max from to)
way_further (Some way) from to = if nat_le from way.1 then (way.0, max way.1 to) else (from, max from to)

-- The way of this span of the transaction after a reply: a refresh of the very span takes it further.
abbrev pub way_by : TxnId → Span → Option (ℕ × ℕ) → Request → Reply → Option (ℕ × ℕ)
way_by id span way (requests.Refresh other from to place) replies.Refreshed =
    if is_eq (txn_span_cmp (other, place) (id, span)) then Some (way_further way from to) else way
way_by id span way _ _ = way

-- From where to where the refreshes of this span of the transaction lead, by these replies, if it was refreshed.
abbrev pub way_heard : TxnId → Span → List Heard → Option (ℕ × ℕ)
way_heard id span heard = fold (λ way h. way_by id span way h.request h.reply) None heard

-- The ways are those that these replies tell.
abbrev pub AreRefreshedSpans : List Heard → RefreshedSpans → Type 0
AreRefreshedSpans heard x = (id : TxnId) (span : Span) → way_of id span x ≡ way_heard id span heard

-- The way, if there is one, begins at `ts` or before, and leads as far as `to`.
abbrev pub leads_from : ℕ → ℕ → Option (ℕ × ℕ) → Bool
leads_from ts to None = false
leads_from ts to (Some way) = nat_le way.0 ts && nat_le to way.1

-- By refreshes of that very span a read of it that was made at `ts` is good up to `to`.
abbrev pub is_refreshed : TxnId → Span → ℕ → ℕ → List Heard → Bool
is_refreshed id span ts to heard = leads_from ts to (way_heard id span heard)

-- The way of this span goes further by a refresh from here to there, and no other way changes.
abbrev pub TakesFurther : TxnId → Span → ℕ → ℕ → RefreshedSpans → RefreshedSpans → Type 0
TakesFurther id span from to old new =
    (other : TxnId) (place : Span)
    → way_of other place new ≡ cond (is_eq (txn_span_cmp (id, span) (other, place))) (Some (way_further (way_of id span old) from to)) (way_of other place old)

-- Each way goes further as this reply tells.
abbrev pub LeadsFurther : Heard → RefreshedSpans → RefreshedSpans → Type 0
LeadsFurther h old new = (id : TxnId) (span : Span) → way_of id span new ≡ way_by id span (way_of id span old) h.request h.reply
