-- Where the committed transactions stand in the order of their begins, the report is that of a plain map.
use Rattle.std.proofs.Common.{◌≡◌, List, [], ◌∷◌, fold, map, refl, ap, ◌∙◌}
use Rattle.pc_base.specs.declared.entry.Entry.{Entry}
use Rattle.pc_base.specs.declared.transaction.TxnId.{TxnId}
use Rattle.pc_proto.specs.declared.event.Event.{Event}
use Rattle.pc_report.specs.declared.rows.CommittedRow.{CommittedRow}
use Rattle.pc_report.specs.ReportOf.{committed_row, map_with}
use Rattle.pc_serial.specs.Laws.{RunsInTurn}
use Rattle.pc_world.specs.CommitOrder.{Rank, commit_order}
use Rattle.pc_world.specs.Local.{Head}
use Rattle.pc_world.specs.MapRun.{Map, map_after}
use Rattle.pc_world.specs.Operations.{operations_of}
use Rattle.pc_program.specs.PlainReport.{ReportsPlainly, held_after}

module _ (entries : List (Entry Event)) where
  rows-as : (order : List (Rank × TxnId)) → map (λ (row : CommittedRow). row.id) (map (committed_row entries) order) ≡ map (λ e. e.1) order
  rows-as [] = refl
  rows-as (e ∷ order) = ap (λ l. e.1 ∷ l) (rows-as order)

  held-as : (m : Map) (order : List (Rank × TxnId)) → fold (map_with entries) m order ≡ fold (fold map_after) m (map (operations_of entries) (map (λ e. e.1) order))
  held-as m [] = refl
  held-as m (e ∷ order) = held-as (map_with entries m e) order

-- the report of such a history
pub reports_plainly : (head : Head) (entries : List (Entry Event)) → RunsInTurn head entries → ReportsPlainly head entries
reports_plainly head entries turn = record {
  committed = rows-as entries (commit_order head entries) ∙ turn.order;
  held = held-as entries [] (commit_order head entries) ∙ ap (λ ids. held_after (map (operations_of entries) ids)) turn.order;
}
