-- Commits, stages and epochs: a transaction's record is in no later epoch than its session has reached, so a commit of that epoch which leaves the
-- record undecided finds it past the commit's timestamp; so does a stage, or the record stages so. SIGMOD 2020 paper, section 3.4; RFC 20180324.
use Rattle.std.specs.Prelude.{◌≡◌, ℕ, ◌<◌, ◌≤◌, ◌⊎◌, List, Contains, ⊤}
use Rattle.pc_base.specs.declared.entry.Entry.{Entry}
use Rattle.pc_implicit.specs.Writes.{txns_of}
use Rattle.pc_proto.specs.declared.event.Event.{Event}
use Rattle.pc_proto.specs.declared.meta.TxnMeta.{TxnMeta}
use Rattle.pc_proto.specs.declared.reply.Reply.{Reply}
use Rattle.pc_proto.specs.declared.reply.Reply.TheVariants as replies
use Rattle.pc_proto.specs.declared.request.Request.TheVariants as requests
use Rattle.pc_proto.specs.declared.view.View.TheVariants as views
use Rattle.pc_world.specs.After.{state_at}
use Rattle.pc_world.specs.Evaluation.{reply}
use Rattle.pc_world.specs.Known.Transactions.{Txn}
use Rattle.pc_world.specs.Local.{Head}
use Rattle.pc_world.specs.Run.{IsRun}

-- If the reply shows a record that is not decided, that record's timestamp is past this one.
abbrev pub IsPastWhereOpen : ℕ → Reply → Type 0
IsPastWhereOpen ts (replies.Status (views.Pending epoch at)) = ts < at
IsPastWhereOpen ts (replies.Status (views.Staging epoch at writes)) = ts < at
IsPastWhereOpen ts _ = ⊤

-- A commit in the epoch that its session has reached is decided by the range, or the record is past its timestamp.
abbrev pub OpenRecordsArePast : Type 0
OpenRecordsArePast =
    (head : Head) (history : List (Entry Event)) (range : ℕ) (meta : TxnMeta) (ts : ℕ) (locks : List (List ℕ)) (t : Txn)
    → IsRun head history → Contains (txns_of head meta.id history) t → t.id ≡ meta.id → t.epoch ≤ meta.epoch
    → IsPastWhereOpen ts (reply (requests.Commit meta ts locks) (state_at head range history))

-- If the reply shows a record that is not decided, it stages in this epoch at this timestamp, or its timestamp is past this one.
abbrev pub IsPastWhereElsewhere : ℕ → ℕ → Reply → Type 0
IsPastWhereElsewhere epoch ts (replies.Status (views.Pending other at)) = ts < at
IsPastWhereElsewhere epoch ts (replies.Status (views.Staging other at writes)) = ((other ≡ epoch) × (at ≡ ts)) ⊎ (ts < at)
IsPastWhereElsewhere epoch ts _ = ⊤

-- A stage in the epoch that its session has reached finds its record decided, staging so, or past its timestamp.
abbrev pub OtherRecordsArePast : Type 0
OtherRecordsArePast =
    (head : Head) (history : List (Entry Event)) (range : ℕ) (meta : TxnMeta) (ts now : ℕ) (writes : List (List ℕ × ℕ)) (locks : List (List ℕ)) (t : Txn)
    → IsRun head history → Contains (txns_of head meta.id history) t → t.id ≡ meta.id → t.epoch ≤ meta.epoch
    → IsPastWhereElsewhere meta.epoch ts (reply (requests.Stage meta ts now writes locks) (state_at head range history))
