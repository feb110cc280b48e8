-- How many statements a workload has: each begin, each statement, each end and each learn is counted, and an add as two, since
-- it reads and writes.
use Rattle.std.specs.Prelude.{ℕ, ◌+◌, sum_by}
use Rattle.pc_work.specs.declared.statement.Statement.{Statement}
use Rattle.pc_work.specs.declared.statement.Statement.TheVariants.{Get, Scan, Put, Delete, Add}
use Rattle.pc_work.specs.declared.item.Item.{Item}
use Rattle.pc_work.specs.declared.item.Item.TheVariants.{Learn, Txn}
use Rattle.pc_work.specs.declared.session.SessionWork.{SessionWork}

-- What one statement counts for.
abbrev pub statement_count : Statement → ℕ
statement_count (Get key) = 1
statement_count (Scan span) = 1
statement_count (Put key value) = 1
statement_count (Delete key) = 1
statement_count (Add key amount) = 2

-- What one item counts for: a learn is one statement, and a transaction has its begin and its end too.
abbrev pub item_count : Item → ℕ
item_count (Learn id) = 1
item_count (Txn priority statements commits) = sum_by statement_count statements + 2

-- What the items of one session count for.
abbrev pub session_count : SessionWork → ℕ
session_count session = sum_by item_count session.script
