-- A recovery, and what it does of itself. RFC 20180324, "Transaction recovery".
use Rattle.std.specs.Prelude.{◌≡◌, ℕ, ◌+◌, Bool, true, false, Option, None, Some, List, slice_get}
use Rattle.pc_base.specs.declared.transaction.Who.{Who}
use Rattle.pc_proto.specs.declared.fate.Finding.{Finding}
use Rattle.pc_proto.specs.declared.fate.Finding.TheVariants as findings
use Rattle.pc_proto.specs.declared.meta.TxnMeta.{TxnMeta}
use Rattle.pc_proto.specs.declared.reply.Reply.{Reply}
use Rattle.pc_proto.specs.declared.reply.Reply.TheVariants as replies
use Rattle.pc_proto.specs.declared.request.Request.{Request}
use Rattle.pc_proto.specs.declared.request.Request.TheVariants as requests
use Rattle.pc_proto.specs.declared.view.View.{View}
use Rattle.pc_proto.specs.declared.view.View.TheVariants as views
use Rattle.pc_proto.specs.Views.{is_final_view}
use Rattle.pc_recover.specs.declared.progress.Progress.{Progress}
use Rattle.pc_recover.specs.declared.progress.Progress.TheVariants as progress
use Rattle.pc_proto.specs.declared.machine.MachineNext.{MachineNext}
use Rattle.pc_proto.specs.declared.machine.MachineNext.TheVariants as nexts

-- A recovery: whose record was met staging, at which epoch and timestamp, and with which writes; who recovers it; and how far it
-- has come.
pub record Recovering : Type 0 where
  pub holder : TxnMeta
  pub epoch : ℕ
  pub ts : ℕ
  pub writes : List (List ℕ × ℕ)
  pub by : Who
  pub progress : Progress

abbrev pub is_staging_view : View → Bool
is_staging_view (views.Staging epoch ts writes) = true
is_staging_view _ = false

-- The recovery of this view begins with no write found.
abbrev pub IsRecoveryOf : TxnMeta → View → Who → Recovering → Type 0
IsRecoveryOf holder (views.Staging epoch ts writes) by m =
    m ≡ record { holder = holder; epoch = epoch; ts = ts; writes = writes; by = by; progress = progress.Found 0 }
IsRecoveryOf holder _ by m = ⊥

-- The query for a listed write.
abbrev pub query_of : Recovering → List ℕ × ℕ → Request
query_of m w = requests.Query m.holder.id m.epoch w.1 m.ts w.0 m.by

-- The request that decides the record by what was found.
abbrev pub recover_of : Recovering → Finding → Request
recover_of m finding = requests.Recover m.holder.id m.epoch m.ts m.holder.anchor finding

-- The next write is asked for; after the last, all are found.
abbrev pub asked_for : Option (List ℕ × ℕ) → Recovering → Request
asked_for (Some w) m = query_of m w
asked_for None m = recover_of m findings.All

-- A final view is settled, another is changed.
abbrev pub over_by : Bool → View → MachineNext
over_by true view = nexts.Settled view
over_by false view = nexts.Changed view

abbrev pub over_due : View → MachineNext
over_due view = over_by (is_final_view view) view

abbrev pub recovering_due : Progress → Recovering → MachineNext
recovering_due (progress.Found found) m = nexts.Send (asked_for (slice_get m.writes found) m)
recovering_due (progress.Missing key) m = nexts.Send (recover_of m (findings.Missing key m.by))
recovering_due (progress.Over view) m = over_due view

-- What is due: the writes are asked for in order, up to the first that is missing; then the record is decided.
abbrev pub recovering_next : Recovering → MachineNext
recovering_next m = recovering_due m.progress m

-- After the reply to the query for this write.
abbrev pub progress_after_query : Reply → List ℕ × ℕ → ℕ → Progress
progress_after_query replies.Found w found = progress.Found (found + 1)
progress_after_query replies.Missing w found = progress.Missing w.0
progress_after_query _ w found = progress.Found found

-- After the reply to the request that decides.
abbrev pub progress_after_deciding : Reply → Progress → Progress
progress_after_deciding (replies.Status view) before = progress.Over view
progress_after_deciding _ before = before

abbrev pub progress_after : Option (List ℕ × ℕ) → Reply → ℕ → Progress
progress_after (Some w) reply found = progress_after_query reply w found
progress_after None reply found = progress_after_deciding reply (progress.Found found)

abbrev pub recovering_heard : Progress → Reply → Recovering → Progress
recovering_heard (progress.Found found) reply m = progress_after (slice_get m.writes found) reply found
recovering_heard (progress.Missing key) reply m = progress_after_deciding reply (progress.Missing key)
recovering_heard (progress.Over view) reply m = progress.Over view

abbrev pub recovering_at : Progress → Recovering → Recovering
recovering_at progress m = record m { progress = progress }

-- After the reply to the request that was due.
abbrev pub recovering_after : Reply → Recovering → Recovering
recovering_after reply m = recovering_at (recovering_heard m.progress reply m) m
