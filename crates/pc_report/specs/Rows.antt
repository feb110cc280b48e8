-- The rows of a report, by what was kept of a history.
use Rattle.std.specs.Prelude.{fold}
use Rattle.pc_base.specs.declared.transaction.TxnId.{TxnId}
use Rattle.pc_puts.specs.Changes.{last_puts, map_with_put}
use Rattle.pc_report.specs.declared.replay.Rank.{Rank}
use Rattle.pc_report.specs.declared.rows.CommittedRow.{CommittedRow}
use Rattle.pc_report.specs.declared.writes.Writes.{Writes}
use Rattle.pc_report.specs.Writing.{puts_held}
use Rattle.pc_world.specs.MapRun.{Map}

-- A committed transaction's row.
abbrev pub commit_row : Writes → Rank × TxnId → CommittedRow
commit_row writes committed =
    record { id = committed.1; ts = committed.0.ts; writes = last_puts (puts_held writes committed.1) }

-- The map after a committed transaction.
abbrev pub map_with_puts : Writes → Map → Rank × TxnId → Map
map_with_puts writes m committed = fold map_with_put m (puts_held writes committed.1)
