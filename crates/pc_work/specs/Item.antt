-- An item of a session's script: a transaction, which reads and writes, and then commits or rolls back; or a learn.
use Rattle.std.specs.Prelude.{ℕ, true, List, [], ◌∷◌, Option, Some, None, codes, if◌then◌else◌}
use Rattle.serde_json.specs.Data.{Data}
use Rattle.serde_json.specs.Find.{get}
use Rattle.pc_base.specs.declared.transaction.Priority.TheVariants.{Normal}
use Rattle.pc_work.specs.Reading.{◌>>=◌}
use Rattle.pc_work.specs.Members.{has_only, member_or}
use Rattle.pc_work.specs.Learn.{learn_item}
use Rattle.pc_work.specs.Lists.{list_by}
use Rattle.pc_work.specs.Priority.{priority_of}
use Rattle.pc_work.specs.Ending.{commits_of}
use Rattle.pc_work.specs.Statement.{statement_of}
use Rattle.pc_work.specs.declared.item.Item.{Item}
use Rattle.pc_work.specs.declared.item.Item.TheVariants.{Txn}

-- The names of a transaction's members, of which the statements are required.
abbrev pub item_names : List (List ℕ)
item_names = codes "do" ∷ codes "priority" ∷ codes "end" ∷ []

-- The transaction that a value states: an object with its statements, at the normal priority and committed unless it states otherwise.
unfoldable pub txn_item : Data → Option Item
txn_item value = if has_only item_names value then (do
  found ← get (codes "do") value
  statements ← list_by statement_of found
  priority ← member_or Normal priority_of (codes "priority") value
  commits ← member_or true commits_of (codes "end") value
  Some (Txn priority statements commits)) else None

-- The item that a value states: a learn, where its one member is so named, else a transaction.
unfoldable pub item_of : Data → Option Item
item_of value = if has_only (codes "learn" ∷ []) value then (get (codes "learn") value >>= learn_item) else txn_item value
