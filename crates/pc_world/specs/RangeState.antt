-- What a range is. SIGMOD 2020 paper, section 3; marks are this project's own profile.
use Rattle.std.specs.Prelude.{ℕ, List, []}
use Rattle.pc_base.specs.Bound.{ReadBound, no_bound}
use Rattle.pc_base.specs.declared.version.Version.{Version}
use Rattle.pc_proto.specs.declared.record.Intent.{Intent}
use Rattle.pc_proto.specs.Table.{Table, empty_table}

-- The committed versions of its keys, by key and timestamp; at most one intent under each key, by key; what has been read; and the
-- records and marks of the transactions whose anchor it holds.
pub record RangeState : Type 0 where
  pub versions : List Version
  pub intents : List (List ℕ × Intent)
  pub bound : ReadBound
  pub table : Table

-- A range on which nothing has happened.
abbrev pub no_state : RangeState
no_state = record { versions = []; intents = []; bound = no_bound; table = empty_table }
